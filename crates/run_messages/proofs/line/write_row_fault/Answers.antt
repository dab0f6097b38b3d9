use Rattle.run_messages.specs.Lines.{row_fault_text}
use Rattle.run_messages.proofs.Writing.{text_as}
use Rattle.run_messages.proofs.line.write_row_fault.Goals as goal

pub returns-in-TooFew-clause-text : goal.returns-in-TooFew-clause-text
returns-in-TooFew-clause-text g c = text_as row_fault_text _ _ _ _ _ c.in-TooFew.is c.write_number.ensures.text

pub returns-in-TooMany-clause-text : goal.returns-in-TooMany-clause-text
returns-in-TooMany-clause-text g c = text_as row_fault_text _ _ _ _ _ c.in-TooMany.is c.write_number-in-TooMany.ensures.text

pub returns-in-BadValue-clause-text : goal.returns-in-BadValue-clause-text
returns-in-BadValue-clause-text g c = text_as row_fault_text _ _ _ _ _ c.in-BadValue.is c.write_number-in-BadValue.ensures.text
