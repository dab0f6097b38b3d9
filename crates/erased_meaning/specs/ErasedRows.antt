-- What the rows of the erased program are answered by.
use Rattle.hept_ast.specs.Meaning.{Setting}
use Rattle.hept_ast.specs.Settings.{of_program, no_marks, no_replies}
use Rattle.hept_ast.specs.ClockMaps.{clock_in}
use Rattle.hept_ast.specs.Erasure.{erased}
use Rattle.hept_ast.specs.Stages.{ClockedProgram}

-- the setting of the erased program, whose variables have the clocks of the program
abbrev pub setting_of_erased : ClockedProgram → Setting
setting_of_erased c = of_program (erased c.program) (clock_in c.clocks) no_marks no_replies
