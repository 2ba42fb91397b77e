use Rattle.list_tests.proofs.finished.random_lists_are_as_each_gap_is_worked_out_anew.Given as goal

abbrev pub ghosts-compared : goal.ghosts-compared
ghosts-compared g a = record { name = a.blank.name; parts = a.blank.parts }
