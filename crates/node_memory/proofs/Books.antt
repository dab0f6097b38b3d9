-- Books without calls.
use Rattle.std.proofs.Common.{◌≡◌, ℕ, suc, Bool, List, [], ◌∷◌, length, map, All, refl, sym, subst, arith}
use Rattle.std.specs.Prelude.{slice_index}
use Rattle.std.specs.List.{Contains}
use Rattle.hept_ast.specs.Settings.{Marks, Replies, of_core}
use Rattle.hept_ast.specs.declared.tree.Core.{Core}
use Rattle.step_cells.specs.declared.cell.Cell.{Cell}
use Rattle.step_cells.specs.declared.cell.Cell.TheVariants as cell
use Rattle.step_cells.specs.declared.cell.Handle.{Handle}
use Rattle.step_plans.specs.Books.{Made, Book, IsOf, IsCellOf, worth}
use Rattle.step_plans.specs.Things.{IsKept}
use Rattle.step_plans.specs.Plans.{Ground}
use Rattle.step_plans.specs.Instants.{Kept_state}
use Rattle.step_plans.specs.Memories.{AllOwn, IsReady, StandsFor, Suits, rows_of}
use Rattle.node_memory.specs.Standing.{StandsAfter}

none_of : (b : Book) (h : Handle) → b.calls ≡ [] → IsOf b h → ⊥
none_of b h e of =
    let there : Contains [] of.call = subst (λ (cs : List Made). Contains cs of.call) e of.there in
    let lt = there.1 in
    omega (arith, lt)

pub cell_of_none : (b d : Book) (c : Cell) → b.calls ≡ [] → IsCellOf b c → IsCellOf d c
cell_of_none b d (cell.Value v) e h = tt
cell_of_none b d (cell.Ready v) e h = tt
cell_of_none b d (cell.Held k) e h = absurd (none_of b k e h)

pub cells_of_none : (b d : Book) (cs : List Cell) → b.calls ≡ [] → All (IsCellOf b) cs → All (IsCellOf d) cs
cells_of_none b d cs e all = λ k c lt. cell_of_none b d _ e (all k c lt)

worth_of_none : (b d : Book) (c : Cell) → b.calls ≡ [] → IsCellOf b c → worth b.reply c ≡ worth d.reply c
worth_of_none b d (cell.Value v) e h = refl
worth_of_none b d (cell.Ready v) e h = refl
worth_of_none b d (cell.Held k) e h = absurd (none_of b k e h)

worths_of_none : (b d : Book) (cs : List Cell) → b.calls ≡ [] → All (IsCellOf b) cs → map (worth b.reply) cs ≡ map (worth d.reply) cs
worths_of_none b d [] e all = refl
worths_of_none b d (c ∷ cs) e all =
    let f : worth b.reply c ≡ worth d.reply c = worth_of_none b d c e (all 0 c (omega arith)) in
    let g : map (worth b.reply) cs ≡ map (worth d.reply) cs = worths_of_none b d cs e (λ k x lt. all (suc k) x (omega arith)) in
    cc

-- what happened agrees with every book, where there are no sites
pub suits_any : (core : Core) (g : Ground) (b d : Book) (calls : List (Bool × List ℕ)) (marked : Marks) (replies : Replies) → Suits core g [] b calls marked replies → Suits core g [] d calls marked replies
suits_any core g b d calls marked replies s = record { marks = s.marks; agrees = λ k site j c at there. absurd (cc); no_reply = s.no_reply }

pub ready_any : (core : Core) (g : Ground) (b d : Book) (calls : List (Bool × List ℕ)) → IsReady core g [] b calls → IsReady core g [] d calls
ready_any core g b d calls ready = λ marked replies t suits lt. ready marked replies t (suits_any core g d b calls marked replies suits) lt

stands_any : (core : Core) (g : Ground) (b d : Book) (calls : List (Bool × List ℕ)) (state : Kept_state) → b.calls ≡ [] → All (IsCellOf b) state.futures → StandsFor core g [] b calls state → StandsFor core g [] d calls state
stands_any core g b d calls state e all stands = λ marked replies suits.
    let h = stands marked replies (suits_any core g d b calls marked replies suits) in
    record {
      kept = h.kept;
      futures_kept = λ k m at. subst (λ (vs : List ℕ). IsKept (of_core core marked replies) (rows_of calls) (length calls) m (slice_index vs k)) (worths_of_none b d state.futures e all) (h.futures_kept k m at);
      counted = h.counted;
      served = λ k site at. absurd (cc);
    }

-- what stands beside a book without calls, stands beside every other
pub after_any : (core : Core) (g : Ground) (b d : Book) (calls : List (Bool × List ℕ)) (mark : Bool) (state : Kept_state) → b.calls ≡ [] → d.calls ≡ [] → StandsAfter core g [] b calls mark state → StandsAfter core g [] d calls mark state
after_any core g b d calls mark state e f s = record {
  before = s.before;
  stands = stands_any core g b d calls s.before e s.named_before s.stands;
  begun = s.begun;
  named_before = cells_of_none b d s.before.futures e s.named_before;
  named = cells_of_none b d state.futures e s.named;
  own = subst (AllOwn d) (sym f) tt;
}
