use Rattle.line_break.proofs.break_tests.breaks_are_those_of_least_demerits.Given as goal

abbrev pub ghosts-wrong_rows : goal.ghosts-wrong_rows
ghosts-wrong_rows g a = record { name = a.blank.name; parts = a.blank.parts }
