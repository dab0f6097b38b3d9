use Rattle.std.proofs.Common.{drop, arith, sym, ◌∙◌, length-drop, subst}
use Rattle.std.proofs.lemmas.List.{get_or-drop, take_rest}
use Rattle.hept_io.specs.Lines.{HasNoNewline}
use Rattle.hept_io.proofs.LineLemmas.{HasNoNewline-parts, HasNoNewline-further}
use Rattle.hept_io.proofs.ahead.newline_from.Goals as goal

pub returns-in_err-at : goal.returns-in_err-at
returns-in_err-at c =
    let bytes = c.args.bytes.now in
    let rest : HasNoNewline (drop c.args.searched bytes) = subst HasNoNewline (take_rest bytes c.args.searched) (c.in_err-at.ensures) in
    rw c.from_residual.ensures (HasNoNewline-parts c.args.searched bytes c.requires.searched rest)

pub returns : goal.returns
returns c =
    let bytes = c.args.bytes.now in
    let n = c.args.searched in
    let at = c.in_ok-at.at in
    let facts = rw take_rest at (c.in_ok-at.ensures) in
    (omega (arith, facts.0, length-drop n bytes), HasNoNewline-further n at bytes c.requires.searched facts.1, sym (get_or-drop n bytes at 0) ∙ facts.2)
