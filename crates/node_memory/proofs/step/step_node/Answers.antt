use Rattle.std.proofs.Common.{◌≡◌, false, List, [], Some, refl, subst}
use Rattle.std.specs.Prelude.{slice_get}
use Rattle.step_plans.specs.declared.action.Offering.{Offering}
use Rattle.step_engine.specs.Actions.{IsOwned}
use Rattle.node_memory.specs.Standing.{no_calls}
use Rattle.node_memory.specs.Memories.{futures_of}
use Rattle.node_memory.proofs.Books.{after_any, cells_of_none, ready_any, suits_any}
use Rattle.node_memory.proofs.step.step_node.Goals as goal

pub serve-requires-clause-book : goal.serve-requires-clause-book
serve-requires-clause-book c = (
  no_calls,
  λ h. refl,
  record { named = c.requires.alone; outputs = λ k o at. absurd (let e : slice_get [] k ≡ Some o = subst (λ (os : List Offering). slice_get os k ≡ Some o) c.requires.no_async at in cc) },
)

pub returns-clause-alone : goal.returns-clause-alone
returns-clause-alone c =
    let owned : IsOwned c.args.plan.now.offerings.items no_calls (futures_of c.args.memory.now) =
    record { named = c.requires.alone; outputs = λ k o at. absurd (let e : slice_get [] k ≡ Some o = subst (λ (os : List Offering). slice_get os k ≡ Some o) c.requires.no_async at in cc) } in
    let x = c.serve.ensures.served no_calls (λ h. refl) owned in
    cells_of_none x.0 no_calls (futures_of c.serve.new.self) (x.3.none c.requires.no_async) x.2.named

pub returns-clause-call : goal.returns-clause-call
returns-clause-call c = λ core ground node calls mark planned in_core stands ready.
    let owned : IsOwned c.args.plan.now.offerings.items no_calls (futures_of c.args.memory.now) =
    record { named = c.requires.alone; outputs = λ k o at. absurd (let e : slice_get [] k ≡ Some o = subst (λ (os : List Offering). slice_get os k ≡ Some o) c.requires.no_async at in cc) } in
    let x = c.serve.ensures.served no_calls (λ h. refl) owned in
    let none : x.0.calls ≡ [] = x.3.none c.requires.no_async in
    let more = x.4 core ground [] node calls mark planned in_core stands (ready_any core ground no_calls x.0 _ ready) in
    record {
      stands = after_any core ground x.0 no_calls _ false _ none refl more.stands;
      outputs = record {
        known = λ marked replies suits. more.outputs.known marked replies (suits_any core ground no_calls x.0 _ marked replies suits);
        values = λ marked replies vs suits have. more.outputs.values marked replies vs (suits_any core ground no_calls x.0 _ marked replies suits) have;
      };
    }
