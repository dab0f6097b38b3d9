-- Small facts on what fits: values of types, variables at their clocks, declarations and lists.
use Rattle.std.proofs.Common.{◌≡◌, ◌⊎◌, inl, inr, ℕ, zero, suc, ◌<◌, Bool, true, false, ◌||◌, List, [], ◌∷◌, ◌++◌, map, refl, sym, ap, subst, ◌∙◌, arith, Some, None}
use Rattle.std.specs.Prelude.{if◌then◌else◌, ◌==◌, Contains, slice_get, slice_index, slice_index_or}
use Rattle.std.specs.List.{find, flat_map}
use Rattle.std.proofs.lemmas.Bool.{false≢true}
use Rattle.hept_ast.specs.Texts.{Name, same, is_in, names, const_value, tag_value}
use Rattle.hept_ast.specs.Scopes.{Clock, Scope, equation_of}
use Rattle.hept_ast.specs.Parts.{declaration}
use Rattle.hept_ast.specs.Types.{Plain_type, future_of, has_tags, type_of_const, types_of}
use Rattle.hept_ast.specs.Meaning.{Question, Variable, Active, Answer, Value, Is, is_value, clock_of_equation}
use Rattle.hept_ast.specs.declared.tree.Core.{Core}
use Rattle.hept_ast.specs.declared.tree.CoreNode.{CoreNode}
use Rattle.hept_ast.specs.declared.tree.CoreEquation.{CoreEquation}
use Rattle.hept_ast.specs.declared.tree.ClockStep.{ClockStep}
use Rattle.hept_ast.specs.declared.tree.TypeDec.{TypeDec}
use Rattle.hept_ast.specs.declared.tree.Decl.{Decl}
use Rattle.hept_ast.specs.declared.tree.MergeBranch.{MergeBranch}
use Rattle.hept_ast.specs.declared.tree.Ty.{Ty}
use Rattle.hept_ast.specs.declared.tree.Ty.TheVariants as ty
use Rattle.hept_ast.specs.declared.tree.Const.{Const as Constant}
use Rattle.hept_ast.specs.TypedValues.{AreValuesOf, FitsConst, IsValueOf, plain_count, value_count}
use Rattle.core_rules.specs.Cores.{core_clock, core_decls}
use Rattle.sound_expressions.specs.Sound.{AreAllTags, branch_tags}
use Rattle.sound_expressions.specs.Demands.{NamesDiffer}
use Rattle.sound_expressions.proofs.Values.{constant_fits, merge_of_value}
use Rattle.core_facts.specs.Undefined.{Among}
use Rattle.core_fitting.specs.Sound.{IsProper, base, one_more, Reads, SoundNode, Within, results}
use Rattle.core_fitting.specs.Holding.{Run, IsKnown, types_in, Here, inactive, active, no_step, Earlier, Okay, missing, given, Fits, VariableFits}
use Rattle.core_fitting.proofs.Presence.{Tells, here_grow, here_off, same_here}
use Rattle.core_fitting.proofs.NamesRead.{AllIn, in_first, in_right, names_append, not_among, step_names}

-- ---- the values of a core's types

pub record TypesFit (core : Core) : Type 0 where
  pub constant : (v : Constant) (t : Plain_type) → FitsConst v → type_of_const core.types v ≡ Some t → const_value core.types v < plain_count core.types t
  pub branch : (t : Ty) (v : ℕ) (branches : List MergeBranch) → has_tags t ≡ true → AreAllTags core.types t (branch_tags branches) → IsValueOf core.types t v →
      (b : MergeBranch) × (find (λ m. tag_value core.types m.tag == v) branches ≡ Some b) × Contains branches b × (tag_value core.types b.tag ≡ v)

no_some : {A P : Type 0} (x : A) → None ≡ Some x → P
no_some x h = cc

pub same_some : {A : Type 0} (x y : A) → Some x ≡ Some y → x ≡ y
same_some x y h = cc

pub types_fit : (core : Core) → NamesDiffer (map (λ (d : TypeDec). d.name) core.types) → NamesDiffer (flat_map (λ (d : TypeDec). d.constructors) core.types) → TypesFit core
types_fit core types constructors = record { constant = constant_fits core.types types; branch = merge_of_value core.types constructors }

-- ---- what is okay

pub tells_okay : (r : Run) (s : Scope) (t : ℕ) (c : Clock) (y : Ty) (n : List (List Name)) (a : Answer) → Okay r s t c y n true a → Tells a
tells_okay r s t c y n _ (missing i e) = tt
tells_okay r s t c y n _ (given h) = tt

pub okay_map : (r : Run) (s : Scope) (t : ℕ) (c d : Clock) (y z : Ty) (n m : List (List Name)) (a : Answer) →
    ((l : List Name) → Among l n → (k : List Name) × Among k m × (Earlier r s t d k → Earlier r s t c l)) → ((v : ℕ) → IsValueOf (types_in r) y v → IsValueOf (types_in r) z v) →
    Okay r s t c y n true a → Okay r s t d z m true a
okay_map r s t c d y z n m _ less fits (missing {l = l} i e) = let k = less l i in missing k.1 (λ f. e (k.2 f))
okay_map r s t c d y z n m _ less fits (given h) = given (fits _ h)

pub record HasValue (r : Run) (q : Question) (y : Ty) : Type 0 where
  pub value : ℕ
  pub known : IsKnown r q (Value value)
  pub fits : IsValueOf (types_in r) y value

value_by : (r : Run) (q : Question) (s : Scope) (t : ℕ) (c : Clock) (y : Ty) (n : List (List Name)) (a : Answer) → n ≡ [] → IsKnown r q a → Okay r s t c y n true a → HasValue r q y
value_by r q s t c y n _ e k (missing {l = l} i f) = not_among l n e i
value_by r q s t c y n _ e k (given {v = v} h) = record { value = v; known = k; fits = h }

-- what is never undefined has a value where it is present
pub has_value : (r : Run) (q : Question) (s : Scope) (t : ℕ) (c : Clock) (y : Ty) (n : List (List Name)) → n ≡ [] → Fits r q s t c y n true → HasValue r q y
has_value r q s t c y n e f = value_by r q s t c y n f.answer e f.known f.okay

-- ---- variables at their clocks

pub here_at : (r : Run) (k : Within) (s : Scope) (t : ℕ) (x : Name) (d : Decl) (c : Clock) (v : VariableFits r k s t x d) → Reads k x d c → Here r s t c v.present
here_at r k s t x d c v reads = subst (λ (y : Clock). Here r s t y v.present) reads.clock v.here

pub fits_at : (r : Run) (k : Within) (s : Scope) (t : ℕ) (x : Name) (d : Decl) (c : Clock) (v : VariableFits r k s t x d) → Reads k x d c → (b : Bool) → Here r s t c b → Fits r (Variable x s t) s t c d.ty (k.grade x) b
fits_at r k s t x d c v reads b h =
    subst (λ (y : Clock). Fits r (Variable x s t) s t y d.ty (k.grade x) b) reads.clock
    (subst (λ (z : Bool). Fits r (Variable x s t) s t (core_clock k.node x) d.ty (k.grade x) z) (same_here r s t c v.present b (here_at r k s t x d c v reads) h) v.fits)

-- a clock whose variables are known
module _ (r : Run) (k : Within) (s : Scope) (t : ℕ) (Q : Name → Type 0) (alive : (b : Bool) × IsKnown r (Active s t) (Is b))
    (avail : (x : Name) (d : Decl) (c : Clock) → Q x → Reads k x d c → VariableFits r k s t x d) where
  at_base : (b : Bool) → IsKnown r (Active s t) (Is b) → Here r s t [] b
  at_base true h = active h no_step
  at_base false h = inactive h

  one_more_here : (c : Clock) (p : ClockStep) (b : Bool) → Here r s t c b → (a : Answer) → IsKnown r (Variable p.name s t) a → (d : Bool) × Here r s t (c ++ p ∷ []) d
  one_more_here c p true h a k = (is_value (tag_value (types_in r) p.tag) a, here_grow r s t c p a _ k refl h)
  one_more_here c p false h a k = (false, here_off r s t c p h)

  pub here_of : (c : Clock) → IsProper k c → AllIn Q (step_names c) → (b : Bool) × Here r s t c b
  here_of _ base all = (alive.0, at_base alive.0 alive.1)
  here_of _ (one_more {c = c} {d = d} p proper reads defined) all =
      let q : Q p.name = all p.name (subst (λ (ns : List Name). is_in p.name ns ≡ true) (sym (names_append c p)) (in_right p.name (step_names c) (p.name ∷ []) (in_itself p.name))) in
      let v : VariableFits r k s t p.name d = avail p.name d c q reads in
      one_more_here c p v.present (here_at r k s t p.name d c v reads) v.fits.answer v.fits.known
    where
      in_itself : (x : Name) → is_in x (x ∷ []) ≡ true
      in_itself x = in_first x []

-- ---- equations

pub found_at : (x : Name) (es : List CoreEquation) (e : CoreEquation) → find (λ d. is_in x d.left) es ≡ Some e → (j : ℕ) × (slice_get es j ≡ Some e) × (is_in x e.left ≡ true)
found_at x [] e h = no_some e h
found_at x (d ∷ ds) e h = go (is_in x d.left) refl (found_at x ds e) h
  where
    go : (b : Bool) → is_in x d.left ≡ b → (find (λ d. is_in x d.left) ds ≡ Some e → (j : ℕ) × (slice_get ds j ≡ Some e) × (is_in x e.left ≡ true)) → (if b then Some d else find (λ d. is_in x d.left) ds) ≡ Some e → (j : ℕ) × (slice_get (d ∷ ds) j ≡ Some e) × (is_in x e.left ≡ true)
    go true i later g = (0, g, subst (λ (z : CoreEquation). is_in x z.left ≡ true) (same_some d e g) i)
    go false i later g = let k = later g in (suc k.0, k.1, k.2)

pub contains_at : {A : Type 0} (xs : List A) (j : ℕ) (x : A) → slice_get xs j ≡ Some x → Contains xs x
contains_at [] j x h = no_some x h
contains_at (y ∷ ys) zero x h = (0, omega arith, same_some y x h)
contains_at (y ∷ ys) (suc j) x h = let k = contains_at ys j x h in let l = k.1 in (suc k.0, omega arith, k.2)

-- the clock of a variable is proper
pub proper_of : (core : Core) (k : Within) → SoundNode core k → (x : Name) (d : Decl) (c : Clock) → Reads k x d c → IsProper k c
proper_of core k node x d c reads = subst (λ (y : Clock). IsProper k y) reads.clock (go (node.defined x d reads.declared))
  where
    go : ((is_in x (names k.node.inputs) ≡ true) × (core_clock k.node x ≡ [])) ⊎ ((e : CoreEquation) × (equation_of k.node x ≡ Some e) × (is_in x (names k.node.inputs) ≡ false)) →
        IsProper k (core_clock k.node x)
    go (inl h) = subst (λ (y : Clock). IsProper k y) (sym h.1) base
    go (inr h) =
        let at = found_at x k.node.equations h.0 h.1 in
        subst (λ (y : Clock). IsProper k y) (sym (ap clock_of_equation h.1)) (node.equations h.0 (contains_at k.node.equations at.0 h.0 at.1)).clock

-- ---- outputs

pub output_at : (types : List TypeDec) (ds : List Decl) (j : ℕ) (y : Ty) → slice_get (types_of ds) j ≡ Some y → (d : Decl) × (slice_get ds j ≡ Some d) × (value_count types y ≡ value_count types d.ty)
output_at types [] j y h = no_some y h
output_at types (d ∷ ds) zero y h = (d, refl, ap (value_count types) (sym (same_some d.ty y h)))
output_at types (d ∷ ds) (suc j) y h = output_at types ds j y h

future_same : (types : List TypeDec) (y : Ty) → value_count types (future_of y) ≡ value_count types y
future_same types (ty.Plain p) = refl
future_same types (ty.Future p) = refl

future_at : (types : List TypeDec) (ds : List Decl) (j : ℕ) (y : Ty) → slice_get (map future_of (types_of ds)) j ≡ Some y → (d : Decl) × (slice_get ds j ≡ Some d) × (value_count types y ≡ value_count types d.ty)
future_at types [] j y h = no_some y h
future_at types (d ∷ ds) zero y h = (d, refl, ap (value_count types) (sym (same_some (future_of d.ty) y h)) ∙ future_same types d.ty)
future_at types (d ∷ ds) (suc j) y h = future_at types ds j y h

pub result_at : (types : List TypeDec) (future : Bool) (g : CoreNode) (j : ℕ) (y : Ty) → slice_get (results future g) j ≡ Some y → (d : Decl) × (slice_get g.outputs j ≡ Some d) × (value_count types y ≡ value_count types d.ty)
result_at types true g j y h = future_at types g.outputs j y h
result_at types false g j y h = output_at types g.outputs j y h

pub name_at : (ds : List Decl) (j : ℕ) (d : Decl) → slice_get ds j ≡ Some d → slice_index_or (names ds) j [] ≡ d.name
name_at [] j d h = no_some d h
name_at (x ∷ ds) zero d h = ap (λ (z : Decl). z.name) (same_some x d h)
name_at (x ∷ ds) (suc j) d h = name_at ds j d h

pub value_at : (types : List TypeDec) (ds : List Decl) (outs : List ℕ) (j : ℕ) (d : Decl) → AreValuesOf types (types_of ds) outs → slice_get ds j ≡ Some d → IsValueOf types d.ty (slice_index outs j)
value_at types [] outs j d h e = no_some d e
value_at types (x ∷ ds) [] j d h e = elim h [ ]
value_at types (x ∷ ds) (v ∷ outs) zero d h e = subst (λ (z : Decl). IsValueOf types z.ty v) (same_some x d e) h.0
value_at types (x ∷ ds) (v ∷ outs) (suc j) d h e = value_at types ds outs j d h.1 e

-- ---- declarations

pub first_declared : (x : Name) (ds more : List Decl) → is_in x (names ds) ≡ true → declaration (ds ++ more) x ≡ declaration ds x
first_declared x [] more h = absurd (false≢true h)
first_declared x (d ∷ ds) more h = go (same x d.name) h (first_declared x ds more)
  where
    go : (b : Bool) → b || is_in x (names ds) ≡ true → (is_in x (names ds) ≡ true → declaration (ds ++ more) x ≡ declaration ds x) → (if b then Some d else declaration (ds ++ more) x) ≡ (if b then Some d else declaration ds x)
    go true i later = refl
    go false i later = later i

names_left : (x : Name) (ds more : List Decl) → is_in x (names ds) ≡ true → is_in x (names (ds ++ more)) ≡ true
names_left x [] more h = absurd (false≢true h)
names_left x (d ∷ ds) more h = go (same x d.name) h (names_left x ds more)
  where
    go : (b : Bool) → b || is_in x (names ds) ≡ true → (is_in x (names ds) ≡ true → is_in x (names (ds ++ more)) ≡ true) → b || is_in x (names (ds ++ more)) ≡ true
    go true i later = refl
    go false i later = later i

pub input_declared : (g : CoreNode) (x : Name) (d : Decl) → is_in x (names g.inputs) ≡ true → declaration (core_decls g) x ≡ Some d → declaration g.inputs x ≡ Some d
input_declared g x d i h =
    sym (first_declared x g.inputs g.outputs i) ∙ (sym (first_declared x (g.inputs ++ g.outputs) g.locals (names_left x g.inputs g.outputs i)) ∙ h)
