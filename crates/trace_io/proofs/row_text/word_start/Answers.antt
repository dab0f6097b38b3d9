use Rattle.std.proofs.Common.{ap, ◌∙◌, arith}
use Rattle.std.specs.List.{prefix_len}
use Rattle.trace_io.specs.RowText.{is_blank}
use Rattle.trace_io.proofs.LineWords.{whole, start_words, start_stops, start_within}
use Rattle.trace_io.proofs.row_text.word_start.Goals as goal

pub overflow_add-result : goal.overflow_add-result
overflow_add-result c = omega (arith, start_within c.args.line.now c.args.from c.count_blanks.result c.requires.within (c.count_blanks.ensures ∙ ap (prefix_len is_blank) (whole c.args.line.now c.args.from)))

pub returns-clause-within : goal.returns-clause-within
returns-clause-within c = start_within c.args.line.now c.args.from c.count_blanks.result c.requires.within (c.count_blanks.ensures ∙ ap (prefix_len is_blank) (whole c.args.line.now c.args.from))

pub returns-clause-words : goal.returns-clause-words
returns-clause-words c = start_words c.args.line.now c.args.from c.count_blanks.result (c.count_blanks.ensures ∙ ap (prefix_len is_blank) (whole c.args.line.now c.args.from))

pub returns-clause-start : goal.returns-clause-start
returns-clause-start c = start_stops c.args.line.now c.args.from c.count_blanks.result (c.count_blanks.ensures ∙ ap (prefix_len is_blank) (whole c.args.line.now c.args.from))
