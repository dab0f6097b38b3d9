use Rattle.std.proofs.Common.{◌<◌, ◌≤◌, ◌+◌, ◌*◌, length, [], ◌∷◌, ◌++◌}
use Rattle.ept_grammar.specs.Grammar.{Args, Merge_list, Merge_branches, More_args, part}
use Rattle.ept_grammar.specs.Reading.{To}
use Rattle.ept_grammar.proofs.Steps.{rank}
use Rattle.ept_expressions.proofs.Levels.{Climbs}
use Rattle.ept_expressions.proofs.expressions.+exprs.Given as goal

abbrev pub decreases-expression : goal.decreases-expression
decreases-expression l = 32 * length l.tokens.now + 17

abbrev pub decreases-fbys : goal.decreases-fbys
decreases-fbys l = 32 * length l.tokens.now + 15

abbrev pub decreases-level : goal.decreases-level
decreases-level l = 32 * length l.tokens.now + (4 + 2 * rank l.level)

abbrev pub decreases-operand : goal.decreases-operand
decreases-operand l = 32 * length l.tokens.now + (3 + 2 * rank l.around)

abbrev pub decreases-prefix : goal.decreases-prefix
decreases-prefix l = 32 * length l.tokens.now + 2

abbrev pub decreases-signed : goal.decreases-signed
decreases-signed l = 32 * length l.tokens.now + 1

abbrev pub decreases-after_minus : goal.decreases-after_minus
decreases-after_minus l = 32 * length l.tokens.now + 3

abbrev pub decreases-atom : goal.decreases-atom
decreases-atom l = 32 * length l.tokens.now

abbrev pub decreases-call_tail : goal.decreases-call_tail
decreases-call_tail l = 32 * length l.tokens.now + 20

abbrev pub decreases-called : goal.decreases-called
decreases-called l = 32 * length l.tokens.now + 19

abbrev pub decreases-args : goal.decreases-args
decreases-args l = 32 * length l.tokens.now + 18

abbrev pub decreases-merging : goal.decreases-merging
decreases-merging l = 32 * length l.tokens.now

abbrev pub decreases-merge_branch : goal.decreases-merge_branch
decreases-merge_branch l = 32 * length l.tokens.now

abbrev pub decreases-async_tail : goal.decreases-async_tail
decreases-async_tail l = 32 * length l.tokens.now

abbrev pub invariant-level-signs : goal.invariant-level-signs
invariant-level-signs l = record { so_far : Climbs l.fn.level l.tokens l.fn.counts l.levels l.left l.rest l.now; shorter : length l.rest < length l.tokens }

abbrev pub decreases-level-signs : goal.decreases-level-signs
decreases-level-signs l = length l.rest

abbrev pub invariant-args-more : goal.invariant-args-more
invariant-args-more l = record { so_far : To Args l.tokens l.fn.counts (part More_args ∷ []) (λ us. l.all ++ us.0) l.rest l.now; shorter : length l.rest ≤ length l.tokens }

abbrev pub decreases-args-more : goal.decreases-args-more
decreases-args-more l = length l.rest

abbrev pub invariant-merge_list-branches : goal.invariant-merge_list-branches
invariant-merge_list-branches l = record { so_far : To Merge_list l.tokens l.fn.counts (part Merge_branches ∷ []) (λ us. l.all ++ us.0) l.rest l.now; shorter : length l.rest < length l.tokens }

abbrev pub decreases-merge_list-branches : goal.decreases-merge_list-branches
decreases-merge_list-branches l = length l.rest

abbrev pub decreases-merge_list : goal.decreases-merge_list
decreases-merge_list l = 32 * length l.tokens.now + 1

abbrev pub decreases-choosing : goal.decreases-choosing
decreases-choosing l = 32 * length l.tokens.now + 18

abbrev pub decreases-then_part : goal.decreases-then_part
decreases-then_part l = 32 * length l.tokens.now

abbrev pub decreases-else_part : goal.decreases-else_part
decreases-else_part l = 32 * length l.tokens.now

abbrev pub decreases-conditional : goal.decreases-conditional
decreases-conditional l = 32 * length l.tokens.now + 19

abbrev pub decreases-arrow_tail : goal.decreases-arrow_tail
decreases-arrow_tail l = 32 * length l.tokens.now

abbrev pub decreases-fby_tail : goal.decreases-fby_tail
decreases-fby_tail l = 32 * length l.tokens.now

abbrev pub decreases-with_operand : goal.decreases-with_operand
decreases-with_operand l = 32 * length l.sign.after.now + 16

abbrev pub decreases-variable : goal.decreases-variable
decreases-variable l = 32 * length l.tokens.now + 21

abbrev pub decreases-parenthesised : goal.decreases-parenthesised
decreases-parenthesised l = 32 * length l.tokens.now + 18

abbrev pub decreases-merged : goal.decreases-merged
decreases-merged l = 32 * length l.tokens.now + 18

abbrev pub decreases-asynchronous : goal.decreases-asynchronous
decreases-asynchronous l = 32 * length l.tokens.now + 18
