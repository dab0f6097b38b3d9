use Rattle.run_messages.specs.Lines.{end_text}
use Rattle.run_messages.proofs.Writing.{text_as}
use Rattle.run_messages.proofs.line.write_end.Goals as goal

pub returns-in-ReadFault-clause-text : goal.returns-in-ReadFault-clause-text
returns-in-ReadFault-clause-text g c = text_as end_text _ _ _ _ _ c.in-ReadFault.is c.put-in-ReadFault.ensures.text

pub returns-in-WriteFault-clause-text : goal.returns-in-WriteFault-clause-text
returns-in-WriteFault-clause-text g c = text_as end_text _ _ _ _ _ c.in-WriteFault.is c.put-in-WriteFault.ensures.text

pub returns-in-Memory-clause-text : goal.returns-in-Memory-clause-text
returns-in-Memory-clause-text g c = text_as end_text _ _ _ _ _ c.in-Memory.is c.put-in-Memory.ensures.text
