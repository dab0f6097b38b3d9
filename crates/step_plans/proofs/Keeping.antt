-- What cells keep, and what registers have when an instant begins.
use Rattle.std.proofs.Common.{◌≡◌, ℕ, zero, suc, ◌+◌, ◌<◌, Bool, true, false, List, [], ◌∷◌, length, Some, refl, sym, subst, ap, ◌∙◌, arith}
use Rattle.std.specs.Prelude.{if◌then◌else◌, ◌==◌, slice_get, slice_index}
use Rattle.std.proofs.lemmas.Option.{slice_get_within}
use Rattle.std.proofs.lemmas.List.{length-map}
use Rattle.hept_ast.specs.Values.{truth}
use Rattle.hept_ast.specs.Texts.{Name, names}
use Rattle.hept_ast.specs.Scopes.{Clock, Scope, Top, Lowered, Text}
use Rattle.hept_ast.specs.Meaning.{Present, Active, Variable, Is, Setting}
use Rattle.hept_ast.specs.Outputs.{said, asked}
use Rattle.hept_ast.specs.Sites.{Site}
use Rattle.hept_ast.specs.declared.tree.CoreNode.{CoreNode}
use Rattle.hept_ast.specs.declared.tree.Decl.{Decl}
use Rattle.hept_ast.proofs.Depths.{to_rule}
use Rattle.step_plans.specs.Kept.{was_here, was_away, one_more, no_more}
use Rattle.step_plans.specs.Things.{Thing, Memory, HasAnswer, HasTruth, IsKept, IsBegun, Content, clock_of, scope_of}
use Rattle.step_plans.specs.Operations.{Register, In_values, In_futures, Storing, stored}
use Rattle.step_plans.specs.Plans.{Ground, Entry, Has, newest, older, Keeps, value_always, value_where, value_unless, presence_where, presence_unless, Calls, IsEarlier, Progress, MakesAll, Does, computes, moves, offers, gets, Knows_more, known, made, action, also, with_results, at_start, inputs_at, top_of}
use Rattle.step_plans.specs.Instants.{HoldsAll, IsCounted, VariablesHave, KeepsHolds}
use Rattle.step_plans.specs.declared.action.Action.{Action}
use Rattle.step_plans.specs.declared.action.Offering.{Offering}
use Rattle.hept_ast.specs.declared.tree.Expr.{Expr}
use Rattle.step_plans.proofs.Frames.{K}
use Rattle.step_plans.proofs.Reading.{if_truth, Recalls, recalls_quiet, recalls_unless}

-- ---- cells

-- a cell after an instant: by presence
kept_where : (w : Setting) (rows : List (List ℕ)) (t h v u : ℕ) (m : Memory) → HasTruth (K w rows) (Present (clock_of w rows m) (scope_of w rows m) t) h → (h ≡ 1 → Content w rows m (Some t) v) → Recalls w rows t m u →
    IsKept w rows (suc t) m (if h == 1 then v else u)
kept_where w rows t h v u m here content r = by_presence here.answer here.known here.shown
  where
    by_presence : (b : Bool) → K w rows (Present (clock_of w rows m) (scope_of w rows m) t) (Is b) → h ≡ truth b → IsKept w rows (suc t) m (if h == 1 then v else u)
    by_presence true p e = subst (λ (n : ℕ). IsKept w rows (suc t) m n) (sym (if_truth h true v u e)) (record { at = Some t; kept = was_here p; content = content e })
    by_presence false p e = subst (λ (n : ℕ). IsKept w rows (suc t) m n) (sym (if_truth h false v u e)) (record { at = r.at; kept = was_away p r.previous; content = r.content })

pub keeps_cell : (w : Setting) (rows : List (List ℕ)) (t : ℕ) (g : Ground) (entries : List Entry) (now : Register → ℕ) (m : Memory) (store : Storing) (old : ℕ) → now (In_values 0) ≡ 1 →
    HoldsAll w rows t entries now → IsBegun w rows t m old → Keeps g entries m store → IsKept w rows (suc t) m (stored now store old)
keeps_cell w rows t g entries now m store old base holds begun (value_always {r = r} e c s n here of_e) = by_presence (holds _ (In_values 0) here).answer (holds _ (In_values 0) here).known (holds _ (In_values 0) here).shown
  where
    by_presence : (b : Bool) → K w rows (Present (clock_of w rows m) (scope_of w rows m) t) (Is b) → now (In_values 0) ≡ truth b → IsKept w rows (suc t) m (now r)
    by_presence true p e = record { at = Some t; kept = was_here p; content = holds _ r of_e }
    by_presence false p e = absurd (cc)
keeps_cell w rows t g entries now m store old base holds begun (value_where {h = h} {r = r} e c s n q here of_e) =
    kept_where w rows t (now h) _ old m (holds _ h here) (λ f. holds _ r of_e) (recalls_quiet w rows t m old begun q)
keeps_cell w rows t g entries now m store old base holds begun (value_unless {h = h} {r = r} {a = a} e c s n here of_e again) =
    kept_where w rows t (now h) _ _ m (holds _ h here) (λ f. holds _ r of_e) (recalls_unless w rows t m old (now a) begun (holds _ a again))
keeps_cell w rows t g entries now m store old base holds begun (presence_where {h = h} c s q here) =
    kept_where w rows t (now h) _ old m (holds _ h here) (λ f. f) (recalls_quiet w rows t m old begun q)
keeps_cell w rows t g entries now m store old base holds begun (presence_unless {h = h} {a = a} c s here again) =
    kept_where w rows t (now h) _ _ m (holds _ h here) (λ f. f) (recalls_unless w rows t m old (now a) begun (holds _ a again))

pub keeps_holds : KeepsHolds
keeps_holds w rows t g now entries m store old base holds begun keeps = keeps_cell w rows t g entries now m store old base holds begun keeps

-- ---- calls

pub counted_more : (w : Setting) (rows : List (List ℕ)) (t v : ℕ) (c : Clock) (s : Scope) (place : ℕ) → HasTruth (K w rows) (Present c s t) v → IsCounted w rows t (Calls c s place) → IsCounted w rows (suc t) (Calls c s place)
counted_more w rows t v c s place here k = by_presence here.answer here.known
  where
    by_presence : (b : Bool) → K w rows (Present c s t) (Is b) → IsCounted w rows (suc t) (Calls c s place)
    by_presence true p = (suc k.0, one_more p k.1)
    by_presence false p = (k.0, no_more p k.1)

-- ---- the beginning

pub top_present : (w : Setting) (rows : List (List ℕ)) (t : ℕ) (text : Text) → K w rows (Present [] (Top text) t) (Is true)
top_present w rows t text =
    let active : K w rows (Active (Top text) t) (Is true) = to_rule w rows _ _ said (λ e. cc) in
    to_rule w rows _ _ (asked active said) (λ e. cc)

inputs_hold : (w : Setting) (rows : List (List ℕ)) (t : ℕ) (s : Scope) (xs : List Name) (at later : ℕ) (now : Register → ℕ) →
    ((k : ℕ) (x : Name) → slice_get xs k ≡ Some x → HasAnswer (K w rows) (Variable x s t) (now (In_values (at + k)))) →
    ((k : ℕ) (x : Name) → slice_get xs k ≡ Some x → HasAnswer (K w rows) (Variable x s t) (now (In_futures (later + k)))) → HoldsAll w rows t (inputs_at s xs at later) now
inputs_hold w rows t s [] at later now have have_later thing r none = elim none [ ]
inputs_hold w rows t s (x ∷ xs) at later now have have_later thing r newest = subst (λ (k : ℕ). HasAnswer (K w rows) (Variable x s t) (now (In_values k))) (omega arith) (have 0 x refl)
inputs_hold w rows t s (x ∷ xs) at later now have have_later thing r (older newest) = subst (λ (k : ℕ). HasAnswer (K w rows) (Variable x s t) (now (In_futures k))) (omega arith) (have_later 0 x refl)
inputs_hold w rows t s (x ∷ xs) at later now have have_later thing r (older (older h)) =
    inputs_hold w rows t s xs (suc at) (suc later) now
    (λ k y get. let e : at + suc k ≡ suc at + k = omega arith in subst (λ (j : ℕ). HasAnswer (K w rows) (Variable y s t) (now (In_values j))) e (have (suc k) y get))
    (λ k y get. let e : later + suc k ≡ suc later + k = omega arith in subst (λ (j : ℕ). HasAnswer (K w rows) (Variable y s t) (now (In_futures j))) e (have_later (suc k) y get)) thing r h

inputs_earlier : (s : Scope) (xs : List Name) (at later : ℕ) (thing : Thing) (r : Register) → Has (inputs_at s xs at later) thing r → IsEarlier (at + length xs) (later + length xs) r
inputs_earlier s [] at later thing r none = elim none [ ]
inputs_earlier s (x ∷ xs) at later thing r newest = omega arith
inputs_earlier s (x ∷ xs) at later thing r (older newest) = omega arith
inputs_earlier s (x ∷ xs) at later thing r (older (older h)) = shifted r (inputs_earlier s xs (suc at) (suc later) thing r h)
  where
    shifted : (r : Register) → IsEarlier (suc at + length xs) (suc later + length xs) r → IsEarlier (at + suc (length xs)) (later + suc (length xs)) r
    shifted (In_values q) lt = omega arith
    shifted (In_futures q) lt = omega arith

pub start_holds : (w : Setting) (rows : List (List ℕ)) (t : ℕ) (node : CoreNode) (cells : ℕ) (inputs : List ℕ) (now : Register → ℕ) → VariablesHave w rows (top_of node) t (names node.inputs) inputs → now (In_values 0) ≡ 1 →
    ((k : ℕ) → k < length node.inputs → now (In_values (k + 1)) ≡ slice_index inputs k) → ((k : ℕ) → k < length node.inputs → now (In_futures (cells + k)) ≡ slice_index inputs k) → HoldsAll w rows t (at_start node cells) now
start_holds w rows t node cells inputs now have base put put_later thing r newest = record { answer = true; known = top_present w rows t (Lowered node); shown = base }
start_holds w rows t node cells inputs now have base put put_later thing r (older h) =
    inputs_hold w rows t (top_of node) (names node.inputs) 1 cells now
    (λ k x get.
    let e : now (In_values (1 + k)) ≡ slice_index inputs k = ap (λ (n : ℕ). now (In_values n)) (omega arith) ∙ put k (within k x get) in
    subst (λ (n : ℕ). HasAnswer (K w rows) (Variable x (top_of node) t) n) (sym e) (have k x get))
    (λ k x get. subst (λ (n : ℕ). HasAnswer (K w rows) (Variable x (top_of node) t) n) (sym (put_later k (within k x get))) (have k x get)) thing r h
  where
    within : (k : ℕ) (x : Name) → slice_get (names node.inputs) k ≡ Some x → k < length node.inputs
    within k x get = let lt = slice_get_within (names node.inputs) k x get in omega (arith, length-map node.inputs (λ (d : Decl). d.name))

pub start_earlier : (node : CoreNode) (cells : ℕ) (thing : Thing) (r : Register) → Has (at_start node cells) thing r → IsEarlier (suc (length node.inputs)) (cells + length node.inputs) r
start_earlier node cells thing r newest = omega arith
start_earlier node cells thing r (older h) = counted_inputs r (inputs_earlier (top_of node) (names node.inputs) 1 cells thing r h)
  where
    counted_inputs : (r : Register) → IsEarlier (1 + length (names node.inputs)) (cells + length (names node.inputs)) r → IsEarlier (suc (length node.inputs)) (cells + length node.inputs) r
    counted_inputs (In_values q) lt = omega (arith, length-map node.inputs (λ (d : Decl). d.name))
    counted_inputs (In_futures q) lt = omega (arith, length-map node.inputs (λ (d : Decl). d.name))

-- ---- what is known stays known

results_grow : (e : Expr) (c : Clock) (s : Scope) (first n : ℕ) (entries : List Entry) (thing : Thing) (r : Register) → Has entries thing r → Has (with_results e c s first n entries) thing r
results_grow e c s first zero entries thing r h = h
results_grow e c s first (suc j) entries thing r h = older (results_grow e c s first j entries thing r h)

does_grow : (g : Ground) (sites : List Site) (offerings : List Offering) (p q : Progress) (a : Action) (thing : Thing) (r : Register) → Does g sites offerings p a q → Has p.entries thing r → Has q.entries thing r
does_grow g sites offerings p q a thing r (computes new makes) h = older h
does_grow g sites offerings p q a thing r (moves new makes) h = older h
does_grow g sites offerings p q a thing r (offers o e site at there first O free) h = results_grow e site.clock site.scope p.later o.outputs p.entries thing r h
does_grow g sites offerings p q a thing r (gets e b c s is here of_a) h = older h

knows_grow : (g : Ground) (sites : List Site) (offerings : List Offering) (p q : Progress) (thing : Thing) (r : Register) → Knows_more g sites offerings p q → Has p.entries thing r → Has q.entries thing r
knows_grow g sites offerings p q thing r (known new s e means) h = older h

pub makes_grow : (g : Ground) (sites : List Site) (offerings : List Offering) (p q : Progress) (actions : List Action) (thing : Thing) (r : Register) → MakesAll g sites offerings p actions q → Has p.entries thing r → Has q.entries thing r
makes_grow g sites offerings p q actions thing r made h = h
makes_grow g sites offerings p q (a ∷ rest) thing r (action {q = next} does more) h = makes_grow g sites offerings next q rest thing r more (does_grow g sites offerings p next a thing r does h)
makes_grow g sites offerings p q actions thing r (also {q = next} adds more) h = makes_grow g sites offerings next q actions thing r more (knows_grow g sites offerings p next thing r adds h)
