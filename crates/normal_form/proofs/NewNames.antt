-- Names that are longer than all names of a core, and differ in their numbers.
use Rattle.std.proofs.Common.{◌≡◌, ⊎_elim, ℕ, ◌+◌, ◌<◌, ◌≤◌, ◌^◌, Bool, true, false, ◌||◌, List, [], ◌∷◌, ◌++◌, length, map, refl, sym, ◌∙◌, ap, subst, arith, length-append, take, get_or}
use Rattle.std.specs.Prelude.{decimal}
use Rattle.std.specs.List.{All, flat_map}
use Rattle.std.proofs.lemmas.Bool.{false≢true}
use Rattle.std.proofs.lemmas.Fmt.{decimal_injective}
use Rattle.std.proofs.lemmas.List.{append_cancel_left, take_all}
use Rattle.std.proofs.lemmas.List.Elements.{All-append, All-cons, All-head, All-map, All-more, All-nil, All-tail, All-weaker}
use Rattle.std.proofs.lemmas.Slice.Eq.{bytes_eq-Decides}
use Rattle.hept_ast.specs.Texts.{Name, is_in, names, same}
use Rattle.hept_ast.specs.declared.tree.Core.{Core}
use Rattle.hept_ast.specs.declared.tree.CoreEquation.{CoreEquation}
use Rattle.hept_ast.specs.declared.tree.CoreNode.{CoreNode}
use Rattle.hept_ast.specs.declared.tree.Decl.{Decl}
use Rattle.hept_ast.specs.declared.tree.TypeDec.{TypeDec}
use Rattle.core_naming.specs.Names.{IsNewName, begins_mark, core_names, equation_names, has_mark, node_names}
use Rattle.core_rules.specs.Cores.{core_decls}
use Rattle.normal_form.specs.NewNames.{AddsOnly, AreWithin, IsMark, type_names}

not_true : (b : Bool) → (b ≡ true → ⊥) → b ≡ false
not_true true h = absurd (h refl)
not_true false h = refl

-- ---- the numbers

-- each name of a mark and a number from n on is new
abbrev pub AreNewFrom : Name → ℕ → Core → Type 0
AreNewFrom mark n core = (k : ℕ) → n ≤ k → k < 2 ^ 64 → IsNewName core (mark ++ decimal k)

pub new_later : (mark : Name) (n : ℕ) (core other : Core) → n < 2 ^ 64 → AreNewFrom mark n core → AddsOnly core (mark ++ decimal n) other → AreNewFrom mark (n + 1) other
new_later mark n core other lt h adds k le kt = record { marked = new.marked; fresh = not_true _ there }
  where
    new : IsNewName core (mark ++ decimal k)
    new = h k (omega arith) kt

    there : is_in (mark ++ decimal k) (core_names other) ≡ true → ⊥
    there e =
        ⊎_elim (λ i. let same_number : k ≡ n = decimal_injective k n kt lt (append_cancel_left mark (decimal k) (decimal n) i) in absurd (omega arith))
        (λ i. false≢true (sym new.fresh ∙ i)) (adds (mark ++ decimal k) e)

-- the next name
pub next_new : (mark x : Name) (n : ℕ) (core : Core) → n < 2 ^ 64 → x ≡ mark ++ decimal n → AreNewFrom mark n core
    → IsNewName core x × ((other : Core) → AddsOnly core x other → AreNewFrom mark (n + 1) other)
next_new mark x n core lt is h =
    (subst (IsNewName core) (sym is) (h n (omega arith) lt), λ other adds. new_later mark n core other lt h (subst (λ (y : Name). AddsOnly core y other) is adds))

-- ---- the longest name

either_true : (a b : Bool) → a || b ≡ true → (a ≡ true → ⊥) → b ≡ true
either_true true b e h = absurd (h refl)
either_true false b e h = e

longer_is_new : (x : Name) (xs : List Name) (n : ℕ) → AreWithin n xs → n < length x → is_in x xs ≡ true → ⊥
longer_is_new x [] n h lt e = cc
longer_is_new x (y ∷ ys) n h lt e =
    longer_is_new x ys n (All-tail (λ z. length z ≤ n) y ys h) lt
    (either_true (same x y) (is_in x ys) e (λ s. let is : length x ≡ length y = ap length ((bytes_eq-Decides x y).0 s) in let le : length y ≤ n = All-head (λ z. length z ≤ n) y ys h in absurd (omega arith)))

within_flat : {A : Type 0} (f : A → List Name) (n : ℕ) (xs : List A) → All (λ a. AreWithin n (f a)) xs → AreWithin n (flat_map f xs)
within_flat f n [] h = All-nil (λ z. length z ≤ n)
within_flat f n (x ∷ xs) h =
    All-append (λ z. length z ≤ n) (f x) (flat_map f xs) (All-head (λ a. AreWithin n (f a)) x xs h) (within_flat f n xs (All-tail (λ a. AreWithin n (f a)) x xs h))

within_core : (core : Core) (n : ℕ) → All (λ d. AreWithin n (type_names d)) core.types → All (λ node. AreWithin n (node_names node)) core.nodes → AreWithin n (core_names core)
within_core core n h k =
    All-append (λ z. length z ≤ n) (flat_map type_names core.types) (flat_map node_names core.nodes) (within_flat type_names n core.types h) (within_flat node_names n core.nodes k)

-- ---- the mark

or_more : (a b c : Bool) → (b ≡ true → c ≡ true) → a || b ≡ true → a || c ≡ true
or_more true b c h e = refl
or_more false b c h e = h e

pub marked_more : (xs ys : Name) → has_mark xs ≡ true → has_mark (xs ++ ys) ≡ true
marked_more [] ys e = cc
marked_more (b ∷ []) ys e = cc
marked_more (b ∷ c ∷ bs) ys e = or_more (begins_mark b (c ∷ bs)) (has_mark (c ∷ bs)) (has_mark (c ∷ bs ++ ys)) (marked_more (c ∷ bs) ys) e

new_with_mark : (core : Core) (n : ℕ) (mark : Name) → AreWithin n (core_names core) → IsMark n mark → AreNewFrom mark 0 core
new_with_mark core n mark h m k le lt = record {
  marked = marked_more mark (decimal k) m.marked;
  fresh = not_true _ (longer_is_new (mark ++ decimal k) (core_names core) n h (let longer : n < length mark = m.longer in omega (arith, length-append mark (decimal k))));
}

-- ---- parts of a core

pub within_more : (m n : ℕ) (xs : List Name) → m ≤ n → AreWithin m xs → AreWithin n xs
within_more m n xs le h = All-weaker (λ x. length x ≤ m) (λ x. length x ≤ n) (λ x k. omega arith) xs h

pub within_equation : (e : CoreEquation) (l c n : ℕ) → l ≤ c → c ≤ n → AreWithin l e.left → All (λ s. length s.name ≤ c) e.clock.steps → AreWithin n e.resets → AreWithin n (equation_names e)
within_equation e l c n lc cn left clock resets =
    let P : Name → Type 0 = λ x. length x ≤ n in
    All-append P (e.left ++ map (λ s. s.name) e.clock.steps) e.resets
    (All-append P e.left (map (λ s. s.name) e.clock.steps) (within_more l n e.left (omega arith) left)
    (All-map P (λ s. s.name) e.clock.steps (All-weaker (λ s. length s.name ≤ c) (λ s. length s.name ≤ n) (λ s k. omega arith) e.clock.steps clock))) resets

pub within_node : (node : CoreNode) (a b c d n : ℕ) → length node.name ≤ a → a ≤ b → b ≤ c → c ≤ d → d ≤ n
    → All (λ x. length x.name ≤ b) node.inputs → All (λ x. length x.name ≤ c) node.outputs → All (λ x. length x.name ≤ d) node.locals
    → All (λ e. AreWithin n (equation_names e)) node.equations → AreWithin n (node_names node)
within_node node a b c d n own ab bc cd dn inputs outputs locals equations =
    let P : Name → Type 0 = λ x. length x ≤ n in
    let Q : Decl → Type 0 = λ x. length x.name ≤ n in
    let i : All Q node.inputs = All-weaker (λ x. length x.name ≤ b) Q (λ x k. omega arith) node.inputs inputs in
    let o : All Q node.outputs = All-weaker (λ x. length x.name ≤ c) Q (λ x k. omega arith) node.outputs outputs in
    let l : All Q node.locals = All-weaker (λ x. length x.name ≤ d) Q (λ x k. omega arith) node.locals locals in
    All-append P (node.name ∷ names (core_decls node)) (flat_map equation_names node.equations)
    (All-cons P node.name (names (core_decls node)) (omega arith)
    (All-map P (λ x. x.name) (core_decls node) (All-append Q (node.inputs ++ node.outputs) node.locals (All-append Q node.inputs node.outputs i o) l)))
    (within_flat equation_names n node.equations equations)

-- ---- loops

-- what holds of a number holds of greater ones
abbrev pub Grows : {A : Type 0} → (ℕ → A → Type 0) → Type 0
Grows {A} P = (m n : ℕ) (x : A) → m ≤ n → P m x → P n x

-- one more element
pub grown : {A : Type 0} (P : ℕ → A → Type 0) → Grows P → (xs : List A) (i : ℕ) (x : A) (m n : ℕ) → i < length xs → m ≤ n → All (P m) (take i xs) → x ≡ get_or xs i x → P n x → All (P n) (take (i + 1) xs)
grown P grows xs i x m n lt le h is k = All-more (P n) xs i x lt (All-weaker (P m) (P n) (λ y p. grows m n y le p) (take i xs) h) (subst (P n) is k)

pub name_grown : {A : Type 0} (name : A → Name) (xs : List A) (i : ℕ) (x : A) (m n : ℕ) (bytes : Name) → i < length xs → m ≤ n → All (λ a. length (name a) ≤ m) (take i xs) → x ≡ get_or xs i x
    → bytes ≡ name x → length bytes ≤ n → All (λ a. length (name a) ≤ n) (take (i + 1) xs)
name_grown name xs i x m n bytes lt le h is same k =
    grown (λ j a. length (name a) ≤ j) (λ j l a less p. omega arith) xs i x m n lt le h is (subst (λ (v : Name). length v ≤ n) same k)

-- all elements
pub all_seen : {A : Type 0} (P : A → Type 0) (xs : List A) (i : ℕ) → length xs ≤ i → All P (take i xs) → All P xs
all_seen P xs i le h = subst (All P) (take_all i xs le) h

pub within_type : (d : TypeDec) (n : ℕ) (bytes : Name) (cs : List Name) → bytes ≡ d.name → cs ≡ d.constructors → length bytes ≤ n → AreWithin n cs → AreWithin n (type_names d)
within_type d n bytes cs name constructors k h =
    All-cons (λ x. length x ≤ n) d.name d.constructors (subst (λ (v : Name). length v ≤ n) name k) (subst (AreWithin n) constructors h)

pub mark_more : (mark more code : Name) (k : ℕ) → more ≡ mark ++ code → code ≡ 35 ∷ [] → k < length mark → has_mark mark ≡ true → (k + 1 < length more) × (has_mark more ≡ true)
mark_more mark more code k is one lt h =
    let e : more ≡ mark ++ 35 ∷ [] = is ∙ ap (λ (v : Name). mark ++ v) one in
    let l : length more ≡ length (mark ++ 35 ∷ []) = ap length e in
    (omega (arith, length-append mark (35 ∷ [])), ap has_mark e ∙ marked_more mark (35 ∷ []) h)

pub new_of_core : (core : Core) (m n : ℕ) (mark : Name) → m ≤ n → All (λ d. AreWithin m (type_names d)) core.types → All (λ node. AreWithin n (node_names node)) core.nodes → IsMark n mark → AreNewFrom mark 0 core
new_of_core core m n mark le types nodes is =
    new_with_mark core n mark
    (within_core core n (All-weaker (λ d. AreWithin m (type_names d)) (λ d. AreWithin n (type_names d)) (λ d h. within_more m n (type_names d) le h) core.types types) nodes) is
