use Rattle.std.proofs.Common.{sym, ap, ◌∙◌, Some}
use Rattle.ept_tokens.proofs.Longest.{word_longest, kind_or_lower}
use Rattle.ept_tokens.proofs.cutter.word.Goals as goal

pub returns-in-Some : goal.returns-in-Some
returns-in-Some c = word_longest _ _ c.requires.within c.requires.small c.name_length-end.ensures.value ∙ ap (λ o. Some (c.name_length-end.result, kind_or_lower o)) (sym c.in-Some.ensures)

pub returns-in-None : goal.returns-in-None
returns-in-None c = word_longest _ _ c.requires.within c.requires.small c.name_length-end.ensures.value ∙ ap (λ o. Some (c.name_length-end.result, kind_or_lower o)) (sym c.in-None.ensures)
