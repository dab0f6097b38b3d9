use Rattle.std.proofs.Common.{drop}
use Rattle.step_plans.specs.Books.{Book}
use Rattle.step_engine.specs.Actions.{AreDone, IsOwned, State}
use Rattle.step_engine.proofs.acting.serve.Given as goal

abbrev pub invariant-loop-action : goal.invariant-loop-action
invariant-loop-action g l = record {
  there : (book : Book) × g.C.Offers.stands l.calls book × IsOwned l.offerings book l.futures;
  done : (book : Book) → g.C.Offers.stands l.initial.calls book → IsOwned l.offerings book l.initial.futures → (now : Book) × g.C.Offers.stands l.calls now × IsOwned l.offerings now l.futures ×
      ((v : State) → AreDone l.offerings l.cells l.marks (drop l.action-index l.actions) (record { values = l.values; futures = l.futures; book = now }) v →
      AreDone l.offerings l.cells l.marks l.actions (record { values = l.initial.values; futures = l.initial.futures; book = book }) v);
}
