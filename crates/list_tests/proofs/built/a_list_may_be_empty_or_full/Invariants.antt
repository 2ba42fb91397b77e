use Rattle.list_tests.proofs.built.a_list_may_be_empty_or_full.Given as goal

abbrev pub ghosts-limits : goal.ghosts-limits
ghosts-limits g a = record { name = a.blank.name; parts = a.blank.parts }
