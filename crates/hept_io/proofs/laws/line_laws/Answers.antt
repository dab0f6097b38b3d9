use Rattle.hept_io.proofs.LineLaws.{GivesLines-all, GivesLines-more, GivesLines-none, joined-lines_of, lines_of-last, lines_of-line, lines_of-none}
use Rattle.hept_io.proofs.laws.line_laws.Goals as goal

pub returns : goal.returns
returns c = record { none = lines_of-none; line = lines_of-line; last = lines_of-last; joined = joined-lines_of; none_given = GivesLines-none; one_more_given = GivesLines-more; all_given = GivesLines-all }
