use Rattle.std.proofs.Common.{ap, ◌∙◌, arith}
use Rattle.std.specs.List.{position_or_len}
use Rattle.trace_io.specs.RowText.{is_blank}
use Rattle.trace_io.proofs.LineWords.{whole, end_forward, end_within, end_range}
use Rattle.trace_io.proofs.row_text.word_end.Goals as goal

pub overflow_add-result : goal.overflow_add-result
overflow_add-result c = omega (arith, end_within c.args.line.now c.args.start c.count_word.result (omega arith) (c.count_word.ensures ∙ ap (position_or_len is_blank) (whole c.args.line.now c.args.start)))

pub returns-clause-within : goal.returns-clause-within
returns-clause-within c = end_within c.args.line.now c.args.start c.count_word.result (omega arith) (c.count_word.ensures ∙ ap (position_or_len is_blank) (whole c.args.line.now c.args.start))

pub returns-clause-forward : goal.returns-clause-forward
returns-clause-forward c = omega (arith, end_forward c.args.line.now c.args.start c.count_word.result c.requires.within c.requires.start (c.count_word.ensures ∙ ap (position_or_len is_blank) (whole c.args.line.now c.args.start)))

pub returns-clause-words : goal.returns-clause-words
returns-clause-words c = end_range c.args.line.now c.args.start c.count_word.result c.requires.within c.requires.start (c.count_word.ensures ∙ ap (position_or_len is_blank) (whole c.args.line.now c.args.start))
