use Rattle.list_tests.proofs.finished.skips_stand_where_no_metric_space_does.Given as goal

abbrev pub ghosts-wrong : goal.ghosts-wrong
ghosts-wrong g a = record { name = a.blank.name; parts = a.blank.parts }
