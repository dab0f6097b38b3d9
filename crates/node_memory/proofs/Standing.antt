-- What a new memory, a restarted one, and one after a call stand for.
use Rattle.std.proofs.Common.{◌≡◌, ℕ, zero, suc, ◌<◌, Bool, true, false, List, [], ◌∷◌, ◌++◌, length, map, All, Some, refl, sym, subst, ap, ◌∙◌, arith}
use Rattle.std.specs.Prelude.{EachIndex, slice_get, slice_index, slice_index_or}
use Rattle.std.proofs.lemmas.Option.{slice_get_within}
use Rattle.std.proofs.lemmas.List.{length-map}
use Rattle.hept_ast.specs.Texts.{Name, names}
use Rattle.hept_ast.specs.Scopes.{Scope}
use Rattle.hept_ast.specs.Meaning.{Variable, Answer, Value, Setting}
use Rattle.hept_ast.specs.Settings.{of_core}
use Rattle.hept_ast.specs.Outputs.{HaveValues}
use Rattle.hept_ast.specs.Sites.{Site}
use Rattle.hept_ast.specs.declared.tree.Core.{Core}
use Rattle.hept_ast.specs.declared.tree.CoreNode.{CoreNode}
use Rattle.hept_ast.proofs.Depths.{one_answer}
use Rattle.step_cells.specs.Cells.{value_in}
use Rattle.step_cells.specs.declared.cell.Cell.{Cell}
use Rattle.step_cells.specs.declared.cell.Cell.TheVariants as cell
use Rattle.step_cells.specs.declared.cell.Handle.{Handle}
use Rattle.step_plans.specs.Books.{Made, Book, IsCellOf, worth}
use Rattle.step_plans.specs.Operations.{no_future}
use Rattle.step_plans.specs.Things.{Memory, Shows, initial_of}
use Rattle.step_plans.specs.Plans.{Ground, IsPlanOf, top_of}
use Rattle.step_plans.specs.Instants.{Kept_state, ServesInstant, VariablesHave}
use Rattle.step_plans.specs.Memories.{AllOwn, IsEmpty, IsGroundIn, IsNew, IsReady, IsRestarted, OneMore, rows_of}
use Rattle.step_plans.specs.declared.plan.NodePlan.{NodePlan}
use Rattle.step_plans.proofs.CallsMore.{new_stands_for_none, one_call_more}
use Rattle.step_engine.specs.Instant.{CallsGoOn}
use Rattle.node_memory.specs.Standing.{IsOneCallMore, StandsAfter}

-- ---- first contents

worth_at : (reply : Handle → ℕ) (cs : List Cell) (k : ℕ) → slice_index (map (worth reply) cs) k ≡ worth reply (slice_index_or cs k no_future)
worth_at reply [] k = refl
worth_at reply (c ∷ cs) zero = refl
worth_at reply (c ∷ cs) (suc k) = worth_at reply cs k

initial_at : (ms : List Memory) (k : ℕ) (m : Memory) → slice_get ms k ≡ Some m → slice_index (map initial_of ms) k ≡ initial_of m
initial_at [] k m h = absurd (cc)
initial_at (x ∷ ms) zero m h = let e : x ≡ m = cc in ap initial_of e
initial_at (x ∷ ms) (suc k) m h = initial_at ms k m h

-- the first cells of future type hold these values
abbrev pub AreReady : List ℕ → List Cell → Type 0
AreReady initial futures = EachIndex initial (λ k. slice_index_or futures k no_future ≡ cell.Ready (slice_index initial k))

future_at_first : (ms : List Memory) (initial : List ℕ) (futures : List Cell) (reply : Handle → ℕ) (k : ℕ) (m : Memory) → initial ≡ map initial_of ms → AreReady initial futures → slice_get ms k ≡ Some m →
    slice_index (map (worth reply) futures) k ≡ initial_of m
future_at_first ms initial futures reply k m e ready at =
    let within : k < length ms = slice_get_within ms k m at in
    let many : length initial ≡ length ms = ap (λ (vs : List ℕ). length vs) e ∙ length-map ms initial_of in
    worth_at reply futures k ∙ ap (worth reply) (ready k (omega arith)) ∙ ap (λ (vs : List ℕ). slice_index vs k) e ∙ initial_at ms k m at

pub ready_same : (vs ws : List ℕ) (cs ds : List Cell) → vs ≡ ws → cs ≡ ds → AreReady vs cs → AreReady ws ds
ready_same vs ws cs ds e f h = subst (λ (xs : List Cell). AreReady ws xs) f (subst (λ (xs : List ℕ). AreReady xs cs) e h)

-- ---- a new memory

pub new_one : (core : Core) (g : Ground) (sites : List Site) (node : CoreNode) (plan : NodePlan) (book : Book) (state : Kept_state) → IsPlanOf g sites node plan → IsEmpty book → state.cells ≡ plan.initial.items →
    AreReady plan.future_initial.items state.futures → ((k : ℕ) (site : Site) → slice_get sites k ≡ Some site → slice_index state.marks k ≡ 0) → All (IsCellOf book) state.futures → StandsAfter core g sites book [] false state
new_one core g sites node plan book state planned empty cells ready marks named =
    let new : IsNew g sites state = record {
      cells = cells ∙ planned.initial;
      futures = λ reply k m at. future_at_first g.future_memories plan.future_initial.items state.futures reply k m planned.future_initial ready at;
      marks = marks;
    } in
    record {
      before = state;
      stands = new_stands_for_none core g sites book state empty new;
      begun = record { fresh = λ e. absurd (cc); same = λ e. refl };
      named_before = named;
      named = named;
      own = subst (λ (cs : List Made). AllOwn book cs) (sym empty.calls) tt;
    }

-- ---- a restart

mark_within : (g : Ground) (sites : List Site) (node : CoreNode) (plan : NodePlan) (k : ℕ) (site : Site) → IsPlanOf g sites node plan → slice_get sites k ≡ Some site → k < length plan.offerings.items
mark_within g sites node plan k site planned at =
    let o = planned.marks k site at in
    slice_get_within plan.offerings.items k o.0 o.1

pub restarted_one : (core : Core) (g : Ground) (sites : List Site) (node : CoreNode) (plan : NodePlan) (book : Book) (calls : List (Bool × List ℕ)) (mark : Bool) (old new : Kept_state) → IsPlanOf g sites node plan →
    new.cells ≡ plan.initial.items → AreReady plan.future_initial.items new.futures → ((k : ℕ) → k < length plan.offerings.items → slice_index new.marks k ≡ 1) → All (IsCellOf book) new.futures →
    StandsAfter core g sites book calls mark old → StandsAfter core g sites book calls true new
restarted_one core g sites node plan book calls mark old new planned cells ready marks named stands =
    let fresh : IsRestarted g sites new = record {
      cells = cells ∙ planned.initial;
      futures = λ reply k m at. future_at_first g.future_memories plan.future_initial.items new.futures reply k m planned.future_initial ready at;
      marks = λ k site at. marks k (mark_within g sites node plan k site planned at);
    } in
    record {
      before = stands.before;
      stands = stands.stands;
      begun = record { fresh = λ e. fresh; same = λ e. absurd (cc) };
      named_before = stands.named_before;
      named = named;
      own = stands.own;
    }

-- ---- one call more

values_are : (w : Setting) (rows : List (List ℕ)) (s : Scope) (t : ℕ) (xs : List Name) (vs out : List ℕ) → length out ≡ length xs → VariablesHave w rows s t xs out → HaveValues w rows (map (λ x. Variable x s t) xs) vs → out ≡ vs
values_are w rows s t [] [] [] e have values = refl
values_are w rows s t [] [] (o ∷ out) e have values = absurd (omega arith)
values_are w rows s t [] (v ∷ vs) out e have values = absurd values
values_are w rows s t (x ∷ xs) [] out e have values = absurd values
values_are w rows s t (x ∷ xs) (v ∷ vs) [] e have values = absurd (omega arith)
values_are w rows s t (x ∷ xs) (v ∷ vs) (o ∷ out) e have values =
    let h = have 0 x refl in
    let same : h.answer ≡ Value v = one_answer w rows (Variable x s t) h.answer (Value v) h.known values.0 in
    let first : o ≡ v = subst (λ (a : Answer). Shows a o) same h.shown in
    let rest : out ≡ vs = values_are w rows s t xs vs out (omega arith) (λ k y at. have (suc k) y at) values.1 in
    cc

many_outputs : (node : CoreNode) (plan : NodePlan) (out : List ℕ) → length out ≡ length plan.outputs.items → length plan.outputs.items ≡ length node.outputs → length out ≡ length (names node.outputs)
many_outputs node plan out e f = e ∙ f ∙ sym (length-map node.outputs (λ d. d.name))

pub one_more : (core : Core) (g : Ground) (sites : List Site) (node : CoreNode) (plan : NodePlan) (book later : Book) (calls : List (Bool × List ℕ)) (mark : Bool) (inputs : List Cell) (out : List ℕ) (old new : Kept_state) →
    IsPlanOf g sites node plan → IsGroundIn core g → StandsAfter core g sites book calls mark old → IsReady core g sites later (calls ++ (mark, map value_in inputs) ∷ []) → CallsGoOn plan.offerings.items book later →
    All (IsCellOf later) new.futures → length out ≡ length plan.outputs.items → ServesInstant plan inputs out old new book later → IsOneCallMore core g sites node later calls (mark, map value_in inputs) out new
one_more core g sites node plan book later calls mark inputs out old new planned ground stands ready goes named many serves =
    let more : OneMore core g sites node book later (calls ++ (mark, map value_in inputs) ∷ []) out new (length calls) =
    one_call_more core g sites node plan book later calls mark inputs out stands.before old new planned ground stands.stands ready stands.own stands.named_before goes.grows stands.begun serves in
    record {
      stands = record {
        before = new;
        stands = more.stands;
        begun = record { fresh = λ e. absurd (cc); same = λ e. refl };
        named_before = named;
        named = named;
        own = goes.own stands.own;
      };
      outputs = record {
        known = more.outputs;
        values = λ marked replies vs suits have. values_are (of_core core marked replies) (rows_of (calls ++ (mark, map value_in inputs) ∷ [])) (top_of node) (length calls) (names node.outputs) vs out
            (many_outputs node plan out many planned.as_many) (more.outputs marked replies suits) have;
      };
    }

-- ---- states

abbrev pub state : List ℕ → List Cell → List ℕ → Kept_state
state cells futures marks = record { cells = cells; futures = futures; marks = marks }

pub state_same : (cs ds : List ℕ) (fs hs : List Cell) (ms ns : List ℕ) → cs ≡ ds → fs ≡ hs → ms ≡ ns → state cs fs ms ≡ state ds hs ns
state_same cs ds fs hs ms ns e f g = ap (λ (xs : List ℕ). state xs fs ms) e ∙ ap (λ (xs : List Cell). state ds xs ms) f ∙ ap (λ (xs : List ℕ). state ds hs xs) g

pub serves_same : (plan : NodePlan) (inputs : List Cell) (out : List ℕ) (a old b new : Kept_state) (book later : Book) → a ≡ old → b ≡ new → ServesInstant plan inputs out a b book later → ServesInstant plan inputs out old new book later
serves_same plan inputs out a old b new book later e f h =
    subst (λ (q : Kept_state). ServesInstant plan inputs out old q book later) f (subst (λ (q : Kept_state). ServesInstant plan inputs out q b book later) e h)
