use Rattle.std.proofs.Common.{codes, ◌++◌, ◌∷◌, []}
use Rattle.run_messages.specs.Lines.{end_text}
use Rattle.run_messages.proofs.Writing.{then_writes, stops_in_front}
use Rattle.run_messages.proofs.line.write_text.Goals as goal

pub returns-in_err-put-clause-text : goal.returns-in_err-put-clause-text
returns-in_err-put-clause-text g c =
    stops_in_front _ _ (codes "hepasync: ") (end_text c.args.end.now ++ 10 ∷ []) c.from_residual.result _ c.from_residual.ensures.1 c.in_err-put.ensures.text

pub returns-in_err-write_end-clause-text : goal.returns-in_err-write_end-clause-text
returns-in_err-write_end-clause-text g c =
    then_writes _ _ _ (codes "hepasync: ") (end_text c.args.end.now ++ 10 ∷ []) c.from_residual-in_err-write_end.result c.in_ok-put.ensures.text
    (stops_in_front _ _ (end_text c.args.end.now) (10 ∷ []) c.from_residual-in_err-write_end.result _ c.from_residual-in_err-write_end.ensures.1 c.in_err-write_end.ensures.text)

pub returns-clause-text : goal.returns-clause-text
returns-clause-text g c =
    then_writes _ _ _ (codes "hepasync: ") (end_text c.args.end.now ++ 10 ∷ []) c.put-2.result c.in_ok-put.ensures.text
    (then_writes _ _ _ (end_text c.args.end.now) (10 ∷ []) c.put-2.result c.in_ok-write_end.ensures.text c.put-2.ensures.text)
