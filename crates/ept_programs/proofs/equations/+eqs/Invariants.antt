use Rattle.std.proofs.Common.{◌<◌, ◌≤◌, ◌+◌, ◌*◌, length, [], ◌∷◌, ◌++◌}
use Rattle.ept_grammar.specs.Grammar.{Branches, Branch_list, Eqs, State_list, States, part}
use Rattle.ept_grammar.specs.Reading.{To}
use Rattle.ept_programs.proofs.equations.+eqs.Given as goal

abbrev pub decreases-equations : goal.decreases-equations
decreases-equations l = 8 * length l.tokens.now + 1

abbrev pub decreases-equation : goal.decreases-equation
decreases-equation l = 8 * length l.tokens.now

abbrev pub decreases-switching : goal.decreases-switching
decreases-switching l = 8 * length l.tokens.now

abbrev pub decreases-branch_list : goal.decreases-branch_list
decreases-branch_list l = 8 * length l.tokens.now + 1

abbrev pub decreases-branch : goal.decreases-branch
decreases-branch l = 8 * length l.tokens.now

abbrev pub decreases-block : goal.decreases-block
decreases-block l = 8 * length l.tokens.now + 2

abbrev pub decreases-resetting : goal.decreases-resetting
decreases-resetting l = 8 * length l.tokens.now + 3

abbrev pub decreases-state_list : goal.decreases-state_list
decreases-state_list l = 8 * length l.tokens.now + 1

abbrev pub decreases-state : goal.decreases-state
decreases-state l = 8 * length l.tokens.now

abbrev pub invariant-equations-equations : goal.invariant-equations-equations
invariant-equations-equations l = record { so_far : To Eqs l.tokens l.fn.counts (part Eqs ∷ []) (λ us. l.all ++ us.0) l.rest l.now; shorter : length l.rest ≤ length l.tokens }

abbrev pub decreases-equations-equations : goal.decreases-equations-equations
decreases-equations-equations l = length l.rest

abbrev pub invariant-branch_list-branches : goal.invariant-branch_list-branches
invariant-branch_list-branches l = record { so_far : To Branch_list l.tokens l.fn.counts (part Branches ∷ []) (λ us. l.all ++ us.0) l.rest l.now; shorter : length l.rest < length l.tokens }

abbrev pub decreases-branch_list-branches : goal.decreases-branch_list-branches
decreases-branch_list-branches l = length l.rest

abbrev pub invariant-state_list-states : goal.invariant-state_list-states
invariant-state_list-states l = record { so_far : To State_list l.tokens l.fn.counts (part States ∷ []) (λ us. l.all ++ us.0) l.rest l.now; shorter : length l.rest < length l.tokens }

abbrev pub decreases-state_list-states : goal.decreases-state_list-states
decreases-state_list-states l = length l.rest
