use Rattle.list_tests.proofs.built.letters_join_and_the_last_one_is_held_back.Given as goal

abbrev pub ghosts-wrong : goal.ghosts-wrong
ghosts-wrong g a = record { name = a.blank.name; parts = a.blank.parts }
