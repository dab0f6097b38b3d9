-- The scopes inside a scope and what they declare: a name is declared in one of them at most, since all variables of a node have different names.
use Rattle.std.proofs.Common.{◌≡◌, ⊎_elim, ℕ, suc, ◌+◌, Bool, true, false, List, [], ◌∷◌, ◌++◌, Some, map, refl, sym, ◌∙◌, ap, subst, append-nil, arith}
use Rattle.std.specs.Prelude.{Contains, slice_get}
use Rattle.std.specs.List.{flat_map}
use Rattle.std.proofs.lemmas.Bool.{false≢true}
use Rattle.std.proofs.lemmas.Grind.{flat_map-append}
use Rattle.hept_ast.specs.Texts.{Name, is_in, names}
use Rattle.hept_ast.specs.Scopes.{Scope, In_branch, In_body, In_state, block_of, block_or_none, declared_in}
use Rattle.hept_ast.specs.Parts.{Branch_of, Surroundings, block_parts, parts_of, state_case, state_parts, strong_of_all, transitions}
use Rattle.hept_ast.specs.declared.tree.Block as tree
use Rattle.hept_ast.specs.declared.tree.Branch.{Branch}
use Rattle.hept_ast.specs.declared.tree.State.{State}
use Rattle.hept_ast.specs.declared.tree.Escape.{Escape}
use Rattle.hept_ast.specs.declared.tree.Expr.{Expr}
use Rattle.hept_ast.specs.declared.tree.Equation.{Equation, out-Equation}
use Rattle.hept_ast.specs.declared.tree.Equation.TheOpen.{Equation-F}
use Rattle.sound_expressions.specs.Demands.{NamesDiffer}
use Rattle.accepted_meaning.specs.Placing.{site_of}
use Rattle.accepted_meaning.proofs.FitsTexts.{parts_are, parts_view}
use Rattle.sound_expressions.proofs.Values.{differ_left, differ_right, not_in_first}
use Rattle.accepted_meaning.proofs.TextApart.{block_declares, declared_append, declared_by, inside, rest_of, state_site}
use Rattle.accepted_meaning.proofs.TextLists.{contains_cases, contains_none, is_in_flat, is_in_left, is_in_right}

-- ---- the scopes that stand in a scope's block

-- the states from a position on
abbrev pub state_scopes : Scope → List State → ℕ → List State → List Scope
state_scopes s states n [] = []
state_scopes s states n (q ∷ qs) = In_state s states n ∷ state_scopes s states (suc n) qs

abbrev pub scopes_view : Scope → Equation-F Equation tree.Block Branch State → List Scope
scopes_view s (Equation-F.Define p left right) = []
scopes_view s (Equation-F.Switch p on branches) = map (λ b. In_branch s on b) branches
scopes_view s (Equation-F.Reset p block every) = In_body s every block ∷ []
scopes_view s (Equation-F.Automaton p states) = state_scopes s states 0 states

abbrev pub scopes_in : Scope → List Scope
scopes_in s = flat_map (λ e. scopes_view s (out-Equation e)) (block_of s).body

-- what a scope declares, and all inside it
abbrev pub all_of : Scope → List Name
all_of s = names (declared_in s) ++ inside s

branch_names : (s : Scope) (on : Expr) (bs : List Branch) →
    declared_by (flat_map (λ b. block_parts (Branch_of on b.block.locals ∷ site_of s) b.block) bs) ≡ flat_map all_of (map (λ b. In_branch s on b) bs)
branch_names s on [] = refl
branch_names s on (b ∷ bs) =
    let others = flat_map (λ (x : Branch). block_parts (Branch_of on x.block.locals ∷ site_of s) x.block) bs in
    declared_append (block_parts (site_of (In_branch s on b)) b.block) others
    ∙ (ap (λ l. l ++ declared_by others) (block_declares (site_of (In_branch s on b)) b.block) ∙ ap (λ l. all_of (In_branch s on b) ++ l) (branch_names s on bs))

none_declared : (site : Surroundings) (strong : Bool) (labels : List Name) (es : List Escape) → declared_by (transitions site strong labels es) ≡ []
none_declared site strong labels [] = refl
none_declared site strong labels (e ∷ es) = none_declared site strong labels es

module _ (s : Scope) (states : List State) (labels : List Name) where
  one_state : (n : ℕ) (q : State) → slice_get states n ≡ Some q → declared_by (state_parts (site_of s) (strong_of_all states) labels q) ≡ all_of (In_state s states n)
  one_state n q at =
      let site : Surroundings = state_site s states q.block in
      let block = block_parts site q.block in
      let weak = transitions site false labels q.weak in
      let strong = transitions (site_of s) true labels q.strong in
      declared_append (block ++ weak) strong
      ∙ (ap (λ l. declared_by (block ++ weak) ++ l) (none_declared (site_of s) true labels q.strong) ∙ append-nil (declared_by (block ++ weak)))
      ∙ declared_append block weak
      ∙ (ap (λ l. declared_by block ++ l) (none_declared site false labels q.weak) ∙ append-nil (declared_by block))
      ∙ block_declares site q.block
      ∙ ap (λ (y : tree.Block). names y.locals ++ declared_by (rest_of (state_site s states y) y)) (sym (ap block_or_none at))

  state_names : (n : ℕ) (qs : List State) → ((i : ℕ) (q : State) → slice_get qs i ≡ Some q → slice_get states (n + i) ≡ Some q) →
      declared_by (flat_map (state_parts (site_of s) (strong_of_all states) labels) qs) ≡ flat_map all_of (state_scopes s states n qs)
  state_names n [] at = refl
  state_names n (q ∷ qs) at =
      let others = flat_map (state_parts (site_of s) (strong_of_all states) labels) qs in
      let none : n + 0 ≡ n = omega arith in
      declared_append (state_parts (site_of s) (strong_of_all states) labels q) others
      ∙ (ap (λ l. l ++ declared_by others) (one_state n q (ap (slice_get states) (sym none) ∙ at 0 q refl))
      ∙ ap (λ l. all_of (In_state s states n) ++ l)
      (state_names (suc n) qs (λ i x f. let more : n + suc i ≡ suc n + i = omega arith in ap (slice_get states) (sym more) ∙ at (suc i) x f)))

view_names : (s : Scope) (v : Equation-F Equation tree.Block Branch State) → declared_by (parts_view (site_of s) v) ≡ flat_map all_of (scopes_view s v)
view_names s (Equation-F.Define p left right) = refl
view_names s (Equation-F.Switch p on branches) = branch_names s on branches
view_names s (Equation-F.Reset p block every) = block_declares (site_of (In_body s every block)) block ∙ sym (append-nil (all_of (In_body s every block)))
view_names s (Equation-F.Automaton p states) =
    state_names s states (map (λ c. c.label) (map state_case states)) 0 states (λ i q f. let same : 0 + i ≡ i = omega arith in ap (slice_get states) same ∙ f)

equation_names : (s : Scope) (e : Equation) → declared_by (parts_of (site_of s) e) ≡ flat_map all_of (scopes_view s (out-Equation e))
equation_names s e = ap declared_by (parts_are (site_of s) e (out-Equation e) refl) ∙ view_names s (out-Equation e)

each_names : (s : Scope) (es : List Equation) → declared_by (flat_map (parts_of (site_of s)) es) ≡ flat_map all_of (flat_map (λ e. scopes_view s (out-Equation e)) es)
each_names s [] = refl
each_names s (e ∷ es) =
    let others = flat_map (parts_of (site_of s)) es in
    let scopes = flat_map (λ (e : Equation). scopes_view s (out-Equation e)) es in
    declared_append (parts_of (site_of s) e) others
    ∙ (ap (λ l. l ++ declared_by others) (equation_names s e) ∙ ap (λ l. flat_map all_of (scopes_view s (out-Equation e)) ++ l) (each_names s es))
    ∙ sym (flat_map-append all_of (scopes_view s (out-Equation e)) scopes)

inside_names : (s : Scope) → inside s ≡ flat_map all_of (scopes_in s)
inside_names s = each_names s (block_of s).body

-- ---- lists of different names

module _ {A : Type 0} (f : A → List Name) (w : Name) where
  once : (xs : List A) → NamesDiffer (flat_map f xs) → (a b : A) → Contains xs a → Contains xs b → is_in w (f a) ≡ true → is_in w (f b) ≡ true → a ≡ b
  once [] differ a b i j e g = contains_none a i
  once (x ∷ xs) differ a b i j e g =
      ⊎_elim (λ is. ⊎_elim (λ js. sym is ∙ js) (λ c. both a b is c e g) (contains_cases x b xs j))
      (λ d. ⊎_elim (λ js. sym (both b a js d g e)) (λ c. once xs (differ_right (f x) (flat_map f xs) differ) a b d c e g) (contains_cases x b xs j)) (contains_cases x a xs i)
    where
      both : (y z : A) → x ≡ y → Contains xs z → is_in w (f y) ≡ true → is_in w (f z) ≡ true → y ≡ z
      both y z is c first later =
          absurd (false≢true (sym (not_in_first w (f x) (flat_map f xs) differ (is_in_flat f xs z w c later)) ∙ (ap (λ (t : A). is_in w (f t)) is ∙ first)))

each_differs : {A : Type 0} (f : A → List Name) (xs : List A) (a : A) → NamesDiffer (flat_map f xs) → Contains xs a → NamesDiffer (f a)
each_differs f [] a differ i = contains_none a i
each_differs f (x ∷ xs) a differ i =
    ⊎_elim (λ is. subst (λ y. NamesDiffer (f y)) is (differ_left (f x) (flat_map f xs) differ)) (λ c. each_differs f xs a (differ_right (f x) (flat_map f xs) differ) c) (contains_cases x a xs i)

-- ---- scopes further in

pub data IsDown : Scope → Scope → Type 0 where
  down_here : {s : Scope} → IsDown s s
  down_in : {s c u : Scope} → Contains (scopes_in s) c → IsDown c u → IsDown s u

pub down_more : (s u c : Scope) → IsDown s u → Contains (scopes_in u) c → IsDown s c
down_more s u c down_here i = down_in i down_here
down_more s u c (down_in {c = b} j d) i = down_in j (down_more b u c d i)

declared_in_child : (w : Name) (s c : Scope) → Contains (scopes_in s) c → is_in w (all_of c) ≡ true → is_in w (inside s) ≡ true
declared_in_child w s c i e = ap (is_in w) (inside_names s) ∙ is_in_flat all_of (scopes_in s) c w i e

declared_down : (w : Name) (s u : Scope) → IsDown s u → is_in w (names (declared_in u)) ≡ true → is_in w (all_of s) ≡ true
declared_down w s u down_here e = is_in_left w (names (declared_in s)) (inside s) e
declared_down w s u (down_in {c = c} i d) e = is_in_right w (names (declared_in s)) (inside s) (declared_in_child w s c i (declared_down w c u d e))

-- the scope that declares a name is one alone
pub same_home : (w : Name) (s h g : Scope) → NamesDiffer (all_of s) → IsDown s h → IsDown s g → is_in w (names (declared_in h)) ≡ true → is_in w (names (declared_in g)) ≡ true → h ≡ g
same_home w s h g differ down_here down_here e f = refl
same_home w s h g differ down_here (down_in {c = c} i d) e f =
    absurd (false≢true (sym (not_in_first w (names (declared_in s)) (inside s) differ (declared_in_child w s c i (declared_down w c g d f))) ∙ e))
same_home w s h g differ (down_in {c = c} i d) down_here e f =
    absurd (false≢true (sym (not_in_first w (names (declared_in s)) (inside s) differ (declared_in_child w s c i (declared_down w c h d e))) ∙ f))
same_home w s h g differ (down_in {c = c} i d) (down_in {c = b} j k) e f =
    let inner : NamesDiffer (flat_map all_of (scopes_in s)) = subst NamesDiffer (inside_names s) (differ_right (names (declared_in s)) (inside s) differ) in
    let is : c ≡ b = once all_of w (scopes_in s) inner c b i j (declared_down w c h d e) (declared_down w b g k f) in
    same_home w b h g (each_differs all_of (scopes_in s) b inner j) (subst (λ (z : Scope). IsDown z h) is d) k e f
