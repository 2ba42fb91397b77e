use Rattle.line_break.proofs.break_tests.glue_that_shrinks_without_end_is_refused.Given as goal

abbrev pub ghosts-answer_to : goal.ghosts-answer_to
ghosts-answer_to g a = record { name = a.blank.name; parts = a.blank.parts }
