use Rattle.std.proofs.Common.{sym, inl, refl, ◌∙◌}
use Rattle.ept_tokens.specs.Tokens.{OpenComment}
use Rattle.ept_tokens.proofs.Fronts.{front_comment}
use Rattle.ept_tokens.proofs.cutter.next.Goals as goal

pub returns-in-None-clause-next : goal.returns-in-None-clause-next
returns-in-None-clause-next c =
    inl (OpenComment, front_comment _ c.requires (sym c.is_blank.ensures ∙ c.if-is_blank.false) (sym c.begins_comment.ensures ∙ c.if-begins_comment.true) _ (sym c.in-None.ensures.value), refl)
