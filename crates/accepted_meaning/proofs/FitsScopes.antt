-- What variables give, from the scope that declares them to those inside it.
use Rattle.std.proofs.Common.{◌≡◌, ◌⊎◌, inl, inr, ℕ, zero, suc, ◌<◌, Bool, true, false, List, [], ◌∷◌, ◌++◌, Option, Some, None, length, map, refl, sym, ap, subst, ◌∙◌, arith, cond}
use Rattle.std.specs.Prelude.{Contains, is_some, slice_get}
use Rattle.std.specs.List.{find}
use Rattle.std.proofs.lemmas.List.Elements.{Contains-append_right, Contains-append_left, Contains-append_cases}
use Rattle.hept_ast.specs.Texts.{Name, same, is_in, names, place_in, const_value}
use Rattle.hept_ast.specs.Scopes.{Clock, Text, Written, Scope, Top, Called, In_branch, In_body, In_state, Under, text_of, block_of, declared_in, declares, home, inputs_of, node_decls, input_decls, output_decls, local_decls}
use Rattle.hept_ast.specs.Parts.{Block as Block_part, equation_case}
use Rattle.hept_ast.specs.Meaning.{Variable, Defined, Present, Active, Restarted, Answer, Unknown, Absent, Nil, Value, Is, State_at, answer_to, if_present, own_rule, variable_rule, argument_rule, constant_of, initial_rule, last_rule, input_at}
use Rattle.hept_ast.specs.declared.tree.Expr.{Expr}
use Rattle.hept_ast.specs.declared.tree.Block.{Block}
use Rattle.hept_ast.specs.declared.tree.Decl.{Decl}
use Rattle.hept_ast.specs.declared.tree.Init.{Init}
use Rattle.hept_ast.specs.declared.tree.Node.{Node}
use Rattle.hept_ast.specs.declared.tree.Ty.{Ty}
use Rattle.hept_ast.specs.declared.tree.Ty.TheVariants as ty
use Rattle.hept_ast.specs.TypedValues.{IsValueOf}
use Rattle.sound_expressions.specs.Sound.{Within, Sees}
use Rattle.accepted_meaning.specs.SoundNodes.{SoundNode, SoundInit, SoundLast}
use Rattle.accepted_meaning.specs.Placing.{IsPlaced, at_top, site_of}
use Rattle.accepted_meaning.specs.Running.{Run, StandsIn, setting_of, text_run, types_in, IsKnown}
use Rattle.accepted_meaning.specs.Structure.{IsHome, IsSeenFrom, defined_in, at_home, in_branch, in_body, in_state, HasPart}
use Rattle.accepted_meaning.proofs.FitsWords.{says, reads, asks, if_ends, ends_map, itself, previous_ends}
use Rattle.accepted_meaning.proofs.FitsTruths.{active_truth, restarted_truth, active_of, base_present, off_present, base_off, branch_active, state_active, called_active, branch_off, state_off, branch_quiet, body_quiet, state_quiet, earlier_map}
use Rattle.accepted_meaning.proofs.FitsKept.{Texts, Okay, gone, given, IsGiven, Holds, Ended, keeping, is_given, okay_given, okay_map}
use Rattle.hept_ast.specs.Types.{type_of_const}
use Rattle.sound_expressions.proofs.FittedTypes.{same_is}
use Rattle.accepted_meaning.proofs.FitsForms.{some_is}
use Rattle.accepted_meaning.proofs.FitsCalls.{present_ends}

pub present_in_body : (r : Run) → Texts r → (k : Within) (s : Scope) (every : Expr) (block : Block) (x : Name) (d : Decl) (c : Clock) (t : ℕ) (b : Bool) → StandsIn r k s → StandsIn r k (In_body s every block) →
    Sees k (site_of s) x d c → IsKnown r (Present c s t) (Is b) → IsKnown r (Present c (In_body s every block) t) (Is b)
present_in_body r texts k s every block x d c t b outer stands sees h = (texts.moves k s every block x d c t outer stands sees).inward b h

pub present_around_body : (r : Run) → Texts r → (k : Within) (s : Scope) (every : Expr) (block : Block) (x : Name) (d : Decl) (c : Clock) (t : ℕ) (b : Bool) → StandsIn r k s → StandsIn r k (In_body s every block) →
    Sees k (site_of s) x d c → IsKnown r (Present c (In_body s every block) t) (Is b) → IsKnown r (Present c s t) (Is b)
present_around_body r texts k s every block x d c t b outer stands sees h = (texts.moves k s every block x d c t outer stands sees).outward b h

-- ---- from the home of a variable to the scopes inside

-- a scope between sees the variable and stands in the node
record Between (r : Run) (k : Within) (x : Name) (d : Decl) (c : Clock) (s : Scope) : Type 0 where
  stands : StandsIn r k s
  sees : Sees k (site_of s) x d c

between : (r : Run) (k : Within) (x : Name) (d : Decl) (c : Clock) (h s : Scope) → IsSeenFrom r k x d c h s → Between r k x d c s
between r k x d c h s (at_home stands itself declares declared sees) = record { stands = stands; sees = sees }
between r k x d c h s (in_branch inner stands is sees base) = record { stands = stands; sees = sees }
between r k x d c h s (in_body inner stands is sees) = record { stands = stands; sees = sees }
between r k x d c h s (in_state inner stands is sees base) = record { stands = stands; sees = sees }

base_inside : (r : Run) (g : Bool) (u : Ty) (c : Clock) (s i : Scope) (t : ℕ) (a : Answer) → c ≡ [] → (IsKnown r (Active s t) (Is false) → IsKnown r (Active i t) (Is false)) →
    ((p : ℕ) → IsKnown r (Active i p) (Is true) → IsKnown r (Active s p) (Is true)) → ((p : ℕ) → IsKnown r (Restarted i p) (Is false) → IsKnown r (Restarted s p) (Is false)) →
    Okay r g u c s t a → Okay r g u c i t a
base_inside r g u c s i t a base off on quiet h =
    subst (λ (y : Clock). Okay r g u y i t a) (sym base)
    (okay_map r g g u u [] [] s i t t a (λ n. off_present r [] i t (off (base_off r s t n))) (λ e. e)
    (λ e. earlier_map r [] [] i s t (λ p f. base_present r s p (on p (active_of r [] i p f))) quiet e) (λ v f. f) (subst (λ (y : Clock). Okay r g u y s t a) base h))

pub moved : (r : Run) → Texts r → (k : Within) (x : Name) (d : Decl) (c : Clock) (h s : Scope) (g : Bool) (t : ℕ) (a : Answer) → IsSeenFrom r k x d c h s → Okay r g d.ty c h t a → Okay r g d.ty c s t a
moved r texts k x d c h s g t a (at_home stands itself declares declared sees) o = o
moved r texts k x d c h s g t a (in_branch {s = outer} {on = on} {b = b} inner stands is sees base) o =
    base_inside r g d.ty c outer (In_branch outer on b) t a base (λ n. branch_off r outer on b t n) (λ p f. branch_active r outer on b p f) (λ p f. branch_quiet r outer on b p f)
    (moved r texts k x d c h outer g t a inner o)
moved r texts k x d c h s g t a (in_state {s = outer} {states = states} {j = j} inner stands is sees base) o =
    base_inside r g d.ty c outer (In_state outer states j) t a base (λ n. state_off r outer states j t n) (λ p f. state_active r outer states j p f) (λ p f. state_quiet r outer states j p f)
    (moved r texts k x d c h outer g t a inner o)
moved r texts k x d c h s g t a (in_body {s = outer} {every = every} {block = block} inner stands is sees) o =
    let b : Between r k x d c outer = between r k x d c h outer inner in
    okay_map r g g d.ty d.ty c c outer (In_body outer every block) t t a
    (λ n. present_in_body r texts k outer every block x d c t false b.stands stands b.sees n) (λ e. e)
    (λ e. earlier_map r c c (In_body outer every block) outer t (λ p f. present_around_body r texts k outer every block x d c p true b.stands stands b.sees f)
    (λ p f. body_quiet r outer every block p f) e)
    (λ v f. f) (moved r texts k x d c h outer g t a inner o)

-- ---- variables where they are declared

-- the scope of a variable, where it is present
record Place_of (r : Run) (k : Within) (x : Name) (d : Decl) (c : Clock) (h : Scope) (t : ℕ) : Type 0 where
  home : IsHome r k x d c h
  here : IsKnown r (Present c h t) (Is true)

within_rows : (rows : List (List ℕ)) (t j v : ℕ) → input_at rows t j ≡ Value v → t < length rows
within_rows [] t j v e = cc
within_rows (row ∷ rows) zero j v e = omega arith
within_rows (row ∷ rows) (suc t) j v e = let h = within_rows rows t j v e in omega (arith, h)

value_is : (u v : ℕ) → Value u ≡ Value v → u ≡ v
value_is u v e = ap (λ a. elim a as (λ x. ℕ) [ Unknown ↦ 0 | Absent ↦ 0 | Nil ↦ 0 | Value n ↦ n | Is b ↦ 0 | State_at n b ↦ 0 ]) e

top_is : (r : Run) (text : Text) → IsPlaced r.program (setting_of r) (text_run r) (Top text) → text ≡ text_run r
top_is r text at_top = refl

written_node : Text → Node → Node
written_node (Written n node) m = node
written_node _ m = m

pub written_is : (n m : ℕ) (a b : Node) → Written n a ≡ Written m b → a ≡ b
unfolding written_node
written_is n m a b e = ap (λ x. written_node x a) e

defined_ends : (r : Run) (k : Within) (x : Name) (d : Decl) (c : Clock) (h : Scope) (t : ℕ) → IsHome r k x d c h → Ended r (Okay r (k.grade x) d.ty c h t) (answer_to (Defined x h t))
defined_ends r k x d c h t home = asks (λ a i. says (i.fits k d c home.stands home.sees))

input_names : (k : Within) (n : ℕ) (text : Text) → text ≡ Written n k.node → inputs_of text ≡ names k.node.inputs
input_names k n text e = ap inputs_of e

top_input : (r : Run) → Texts r → (k : Within) (x : Name) (d : Decl) (c : Clock) (text : Text) (t v : ℕ) → IsHome r k x d c (Top text) → is_in x (inputs_of text) ≡ true →
    input_at r.rows t (place_in x (inputs_of text)) ≡ Value v → IsValueOf (types_in r) d.ty v
top_input r texts k x d c text t v home is_input e =
    let text_is : text ≡ Written home.stands.number k.node = home.stands.text in
    let in_names : is_in x (names k.node.inputs) ≡ true = ap (λ (y : Text). is_in x (inputs_of y)) (sym text_is) ∙ is_input in
    let i = texts.input k home.stands.number x d c home.stands.of_node in_names home.sees in
    let node_is : k.node ≡ r.node = written_is home.stands.number r.number k.node r.node (sym text_is ∙ top_is r text home.stands.placed) in
    let at : slice_get r.node.inputs (place_in x (inputs_of text)) ≡ Some d =
    ap (λ (y : Text). slice_get r.node.inputs (place_in x (inputs_of y))) text_is ∙ ap (λ (n : Node). slice_get n.inputs (place_in x (names k.node.inputs))) (sym node_is) ∙ i.2 in
    let value = texts.input_at (types_in r) r.node.inputs r.rows t (place_in x (inputs_of text)) d texts.sound.rows_fit (within_rows r.rows t (place_in x (inputs_of text)) v e) at in
    subst (λ (n : ℕ). IsValueOf (types_in r) d.ty n) (value_is value.0 v (sym value.1 ∙ e)) value.2

called_input : (r : Run) → Texts r → (k : Within) (x : Name) (d : Decl) (c clock : Clock) (s : Scope) (place : ℕ) (args : List Expr) (text : Text) (t : ℕ) → IsHome r k x d c (Called s clock place args text) →
    IsKnown r (Present c (Called s clock place args text) t) (Is true) → is_in x (inputs_of text) ≡ true →
    Ended r (Okay r (k.grade x) d.ty c (Called s clock place args text) t) (argument_rule (setting_of r) (slice_get args (place_in x (inputs_of text))) clock s t)
called_input r texts k x d c clock s place args text t home here is_input =
    let o = texts.caller k s clock place args text home.stands in
    let i = texts.argument o.0 k s o.1 clock c args text x d o.5 is_input home.sees in
    let there : IsKnown r (Present clock s t) (Is true) = called_active r s clock place args text t true (active_of r c (Called s clock place args text) t here) in
    subst (λ (y : Option Expr). Ended r (Okay r (k.grade x) d.ty c (Called s clock place args text) t) (argument_rule (setting_of r) y clock s t)) (sym i.1)
    (asks (λ a h. says (okay_given r (k.grade x) d.ty c (Called s clock place args text) t a (is_given r _ d.ty clock s t a (h.fits o.0 d.ty o.3 i.3) i.4 there))))

own_ends : (r : Run) → Texts r → (k : Within) (x : Name) (d : Decl) (c : Clock) (h : Scope) (t : ℕ) → IsHome r k x d c h → IsKnown r (Present c h t) (Is true) →
    Ended r (Okay r (k.grade x) d.ty c h t) (own_rule (setting_of r) h x t)
own_ends r texts k x d c (Top text) t home here = if_ends (is_in x (inputs_of text))
    (λ e. reads (λ v i. given (top_input r texts k x d c text t v home e i)))
    (λ e. defined_ends r k x d c (Top text) t home)
own_ends r texts k x d c (Called s clock place args text) t home here = if_ends (is_in x (inputs_of text))
    (λ e. called_input r texts k x d c clock s place args text t home here e)
    (λ e. defined_ends r k x d c (Called s clock place args text) t home)
own_ends r texts k x d c (In_branch s on b) t home here = defined_ends r k x d c (In_branch s on b) t home
own_ends r texts k x d c (In_body s every block) t home here = defined_ends r k x d c (In_body s every block) t home
own_ends r texts k x d c (In_state s states j) t home here = defined_ends r k x d c (In_state s states j) t home
own_ends r texts k x d c (Under s resets) t home here = defined_ends r k x d c (Under s resets) t home

-- what a variable gives where it is declared
home_ends : (r : Run) → Texts r → (k : Within) (x : Name) (d : Decl) (c : Clock) (h : Scope) (t : ℕ) → IsHome r k x d c h → Ended r (Okay r (k.grade x) d.ty c h t) (variable_rule (setting_of r) x h t)
home_ends r texts k x d c h t home =
    subst (λ (y : Clock). Ended r (Okay r (k.grade x) d.ty c h t) (if_present (Present y h t) (own_rule (setting_of r) h x t))) (sym home.clock)
    (present_ends r (Okay r (k.grade x) d.ty c h t) c h t (own_rule (setting_of r) h x t) (λ here. own_ends r texts k x d c h t home here) (λ off. gone off))

pub variable_ends : (r : Run) → Texts r → (k : Within) (x : Name) (d : Decl) (c : Clock) (s : Scope) (t : ℕ) → StandsIn r k s → Sees k (site_of s) x d c →
    Ended r (Okay r (k.grade x) d.ty c s t) (variable_rule (setting_of r) x (home x s) t)
variable_ends r texts k x d c s t stands sees = ends_map (Holds r) r.rows (Okay r (k.grade x) d.ty c (home x s) t) (Okay r (k.grade x) d.ty c s t) _
    (λ a o. moved r texts k x d c (home x s) s (k.grade x) t a (texts.seen_from_home k s x d c stands sees) o)
    (home_ends r texts k x d c (home x s) t (texts.home_of k s x d c stands sees))

-- ---- last values

pub find_parts : {A : Type 0} (p : A → Bool) (xs : List A) (x : A) → find p xs ≡ Some x → Contains xs x × (p x ≡ true)
find_parts p [] x e = cc
find_parts p (y ∷ ys) x e = go (p y) refl e (λ h. find_parts p ys x h)
  where
    go : (b : Bool) → p y ≡ b → cond b (Some y) (find p ys) ≡ Some x → (find p ys ≡ Some x → Contains ys x × (p x ≡ true)) → Contains (y ∷ ys) x × (p x ≡ true)
    go true f h later = let same : y ≡ x = some_is y x h in ((0, omega arith, same), ap p (sym same) ∙ f)
    go false f h later = (Contains-append_right (y ∷ []) ys x (later h).0, (later h).1)

-- what a scope declares has a sound constant, if it has one
init_of_decl : (r : Run) → Texts r → (k : Within) (h : Scope) (d : Decl) → StandsIn r k h → Contains (declared_in h) d → SoundInit k d d.init
init_of_decl r texts k h d stands among = by_scope h stands.text among (texts.block k h stands)
  where
    node_sound : SoundNode k
    node_sound = stands.of_node.sound_node

    of_output : (text : Text) → Contains (input_decls text ++ output_decls text) d → text ≡ Written stands.number k.node → ((e : Decl) → Contains (output_decls text ++ local_decls text) e → SoundInit k e e.init) → SoundInit k d d.init
    of_output text inside is block = by_cases (Contains-append_cases (input_decls text) (output_decls text) d inside)
      where
        by_cases : Contains (input_decls text) d ⊎ Contains (output_decls text) d → SoundInit k d d.init
        by_cases (inl i) = (node_sound.inputs d (subst (λ (y : Text). Contains (input_decls y) d) is i)).2
        by_cases (inr i) = block d (Contains-append_left (output_decls text) (local_decls text) d i)

    of_node : (text : Text) → text ≡ Written stands.number k.node → Contains (node_decls text) d → ((e : Decl) → Contains (output_decls text ++ local_decls text) e → SoundInit k e e.init) → SoundInit k d d.init
    of_node text is inside block = by_cases (Contains-append_cases (input_decls text ++ output_decls text) (local_decls text) d inside)
      where
        by_cases : Contains (input_decls text ++ output_decls text) d ⊎ Contains (local_decls text) d → SoundInit k d d.init
        by_cases (inl i) = of_output text i is block
        by_cases (inr i) = block d (Contains-append_right (output_decls text) (local_decls text) d i)

    by_scope : (s : Scope) → text_of s ≡ Written stands.number k.node → Contains (declared_in s) d → HasPart k (site_of s) (Block_part (defined_in s) (map equation_case (block_of s).body)) → SoundInit k d d.init
    by_scope (Top text) is inside part = of_node text is inside (λ e i. (node_sound.sound_parts _ part e i).0)
    by_scope (Called s clock place args text) is inside part = of_node text is inside (λ e i. (node_sound.sound_parts _ part e i).0)
    by_scope (In_branch s on b) is inside part = (node_sound.sound_parts _ part d inside).0
    by_scope (In_body s every block) is inside part = (node_sound.sound_parts _ part d inside).0
    by_scope (In_state s states j) is inside part = (node_sound.sound_parts _ part d inside).0
    by_scope (Under s resets) is inside part = (node_sound.sound_parts _ part d inside).0

-- a variable with a last value
pub record HasLast (k : Within) (x : Name) (d : Decl) : Type 0 where
  pub init : Init
  pub is : d.init ≡ Some init
  pub sound : SoundLast k d init
  pub name : d.name ≡ x

init_parts : (k : Within) (d : Decl) (o : Option Init) → is_some o ≡ true → SoundInit k d o → (i : Init) × (o ≡ Some i) × SoundLast k d i
init_parts k d None e h = cc
init_parts k d (Some i) e h = (i, refl, h)

pub has_last : (r : Run) → Texts r → (k : Within) (x : Name) (d : Decl) (c : Clock) (h : Scope) → IsHome r k x d c h → is_some d.init ≡ true → HasLast k x d
has_last r texts k x d c h home some =
    let f = find_parts (λ (e : Decl). same x e.name) (declared_in h) d home.declared in
    let i = init_parts k d d.init some (init_of_decl r texts k h d home.stands f.0) in
    record { init = i.0; is = i.1; sound = i.2; name = sym (same_is x d.name f.1) }

last_value : (r : Run) → Texts r → (k : Within) (h : Scope) (x : Name) (d : Decl) → StandsIn r k h → (l : HasLast k x d) → IsValueOf (types_in r) d.ty (const_value (types_in r) l.init.value)
last_value r texts k h x d stands l = by_type l.sound.fits
  where
    small : IsValueOf (types_in r) (ty.Plain l.sound.plain) (const_value (types_in r) l.init.value)
    small = texts.constant l.init.value l.sound.plain l.sound.number (ap (λ (y : Within). type_of_const y.types l.init.value) (sym stands.of_node.is) ∙ l.sound.known)

    by_type : (d.ty ≡ ty.Plain l.sound.plain) ⊎ (d.ty ≡ ty.Future l.sound.plain) → IsValueOf (types_in r) d.ty (const_value (types_in r) l.init.value)
    by_type (inl e) = subst (λ (y : Ty). IsValueOf (types_in r) y (const_value (types_in r) l.init.value)) (sym e) small
    by_type (inr e) = subst (λ (y : Ty). IsValueOf (types_in r) y (const_value (types_in r) l.init.value)) (sym e) small

first_value : (r : Run) → Texts r → (k : Within) (x : Name) (d : Decl) (c : Clock) (h : Scope) → IsHome r k x d c h → (l : HasLast k x d) →
    Ended r (IsGiven r d.ty) (initial_rule (setting_of r) (find (λ (e : Decl). same x e.name) (declared_in h)))
first_value r texts k x d c h home l =
    subst (λ (o : Option Decl). Ended r (IsGiven r d.ty) (initial_rule (setting_of r) o)) (sym home.declared)
    (subst (λ (o : Option Init). Ended r (IsGiven r d.ty) (constant_of (setting_of r) o)) (sym l.is)
    (says (record { value = const_value (types_in r) l.init.value; is = refl; fits = last_value r texts k h x d home.stands l })))

home_last : (r : Run) → Texts r → (k : Within) (x : Name) (d : Decl) (c : Clock) (h : Scope) (t : ℕ) → IsHome r k x d c h → HasLast k x d → Ended r (IsGiven r d.ty) (last_rule (setting_of r) x h t)
home_last r texts k x d c h t home l =
    let base : c ≡ [] = sym (texts.clock_of_seen k (site_of h) x d c home.sees) ∙ ap k.clock (sym l.name) ∙ l.sound.base in
    let defined : k.grade x ≡ false = ap k.grade (sym l.name) ∙ l.sound.defined in
    previous_ends r (Holds r) (IsGiven r d.ty) (keeping r) (λ p. Active h p) (λ p. Restarted h p) (λ p. answer_to (Variable x h p)) _
    (λ p a i. active_truth r h p a i) (λ p a i. restarted_truth r h p a i) t
    (λ e. asks (λ a i. says (is_given r (k.grade x) d.ty c h e.instant a (i.fits k d c home.stands home.sees) defined
    (subst (λ (y : Clock). IsKnown r (Present y h e.instant) (Is true)) (sym base) (base_present r h e.instant e.there)))))
    (λ n. first_value r texts k x d c h home l)

pub last_ends : (r : Run) → Texts r → (k : Within) (x : Name) (d : Decl) (c : Clock) (s : Scope) (t : ℕ) → StandsIn r k s → Sees k (site_of s) x d c → is_some d.init ≡ true →
    Ended r (IsGiven r d.ty) (last_rule (setting_of r) x (home x s) t)
last_ends r texts k x d c s t stands sees some =
    let own : IsHome r k x d c (home x s) = texts.home_of k s x d c stands sees in
    home_last r texts k x d c (home x s) t own (has_last r texts k x d c (home x s) own some)
