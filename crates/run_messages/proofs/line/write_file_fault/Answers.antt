use Rattle.run_messages.specs.Lines.{file_text}
use Rattle.run_messages.proofs.Writing.{text_as}
use Rattle.run_messages.proofs.line.write_file_fault.Goals as goal

pub returns-in-Failed-clause-text : goal.returns-in-Failed-clause-text
returns-in-Failed-clause-text g c = text_as file_text _ _ _ _ _ c.in-Failed.is c.put.ensures.text

pub returns-in-TooLarge-clause-text : goal.returns-in-TooLarge-clause-text
returns-in-TooLarge-clause-text g c = text_as file_text _ _ _ _ _ c.in-TooLarge.is c.put-in-TooLarge.ensures.text

pub returns-in-Missing-clause-text : goal.returns-in-Missing-clause-text
returns-in-Missing-clause-text g c = text_as file_text _ _ _ _ _ c.in-Missing.is c.put-in-Missing.ensures.text
