use Rattle.run_messages.specs.Lines.{refusal_text}
use Rattle.run_messages.proofs.Writing.{text_as}
use Rattle.run_messages.proofs.line.write_refusal.Goals as goal

pub returns-in-BadByte-clause-text : goal.returns-in-BadByte-clause-text
returns-in-BadByte-clause-text g c = text_as refusal_text _ _ _ _ _ c.in-BadByte.is c.write_number.ensures.text

pub returns-in-OpenComment-clause-text : goal.returns-in-OpenComment-clause-text
returns-in-OpenComment-clause-text g c = text_as refusal_text _ _ _ _ _ c.in-OpenComment.is c.write_number-in-OpenComment.ensures.text

pub returns-in-NumberTooLarge-clause-text : goal.returns-in-NumberTooLarge-clause-text
returns-in-NumberTooLarge-clause-text g c = text_as refusal_text _ _ _ _ _ c.in-NumberTooLarge.is c.write_number-in-NumberTooLarge.ensures.text

pub returns-in-Unexpected-clause-text : goal.returns-in-Unexpected-clause-text
returns-in-Unexpected-clause-text g c = text_as refusal_text _ _ _ _ _ c.in-Unexpected.is c.write_number-in-Unexpected.ensures.text

pub returns-in-TooDeep-clause-text : goal.returns-in-TooDeep-clause-text
returns-in-TooDeep-clause-text g c = text_as refusal_text _ _ _ _ _ c.in-TooDeep.is c.write_number-in-TooDeep.ensures.text

pub returns-in-UnknownName-clause-text : goal.returns-in-UnknownName-clause-text
returns-in-UnknownName-clause-text g c = text_as refusal_text _ _ _ _ _ c.in-UnknownName.is c.write_number-in-UnknownName.ensures.text

pub returns-in-Duplicate-clause-text : goal.returns-in-Duplicate-clause-text
returns-in-Duplicate-clause-text g c = text_as refusal_text _ _ _ _ _ c.in-Duplicate.is c.write_number-in-Duplicate.ensures.text

pub returns-in-Mismatch-clause-text : goal.returns-in-Mismatch-clause-text
returns-in-Mismatch-clause-text g c = text_as refusal_text _ _ _ _ _ c.in-Mismatch.is c.write_number-in-Mismatch.ensures.text

pub returns-in-ZeroDivisor-clause-text : goal.returns-in-ZeroDivisor-clause-text
returns-in-ZeroDivisor-clause-text g c = text_as refusal_text _ _ _ _ _ c.in-ZeroDivisor.is c.write_number-in-ZeroDivisor.ensures.text

pub returns-in-Recursive-clause-text : goal.returns-in-Recursive-clause-text
returns-in-Recursive-clause-text g c = text_as refusal_text _ _ _ _ _ c.in-Recursive.is c.write_number-in-Recursive.ensures.text

pub returns-in-NotDefined-clause-text : goal.returns-in-NotDefined-clause-text
returns-in-NotDefined-clause-text g c = text_as refusal_text _ _ _ _ _ c.in-NotDefined.is c.write_number-in-NotDefined.ensures.text

pub returns-in-FutureKept-clause-text : goal.returns-in-FutureKept-clause-text
returns-in-FutureKept-clause-text g c = text_as refusal_text _ _ _ _ _ c.in-FutureKept.is c.write_number-in-FutureKept.ensures.text

pub returns-in-NestedAsync-clause-text : goal.returns-in-NestedAsync-clause-text
returns-in-NestedAsync-clause-text g c = text_as refusal_text _ _ _ _ _ c.in-NestedAsync.is c.write_number-in-NestedAsync.ensures.text

pub returns-in-Limit-clause-text : goal.returns-in-Limit-clause-text
returns-in-Limit-clause-text g c = text_as refusal_text _ _ _ _ _ c.in-Limit.is c.write_passed.ensures.text

pub returns-in-NoNode-clause-text : goal.returns-in-NoNode-clause-text
returns-in-NoNode-clause-text g c = text_as refusal_text _ _ _ _ _ c.in-NoNode.is c.put.ensures.text

pub returns-in-FutureInterface-clause-text : goal.returns-in-FutureInterface-clause-text
returns-in-FutureInterface-clause-text g c = text_as refusal_text _ _ _ _ _ c.in-FutureInterface.is c.write_number-in-FutureInterface.ensures.text

pub returns-in-NoClock-clause-text : goal.returns-in-NoClock-clause-text
returns-in-NoClock-clause-text g c = text_as refusal_text _ _ _ _ _ c.in-NoClock.is c.write_number-in-NoClock.ensures.text

pub returns-in-MayBeNil-clause-text : goal.returns-in-MayBeNil-clause-text
returns-in-MayBeNil-clause-text g c = text_as refusal_text _ _ _ _ _ c.in-MayBeNil.is c.write_number-in-MayBeNil.ensures.text

pub returns-in-NotServed-clause-text : goal.returns-in-NotServed-clause-text
returns-in-NotServed-clause-text g c = text_as refusal_text _ _ _ _ _ c.in-NotServed.is c.put-in-NotServed.ensures.text

pub returns-in-TooLarge-clause-text : goal.returns-in-TooLarge-clause-text
returns-in-TooLarge-clause-text g c = text_as refusal_text _ _ _ _ _ c.in-TooLarge.is c.write_too_large.ensures.text
