use Rattle.list_tests.proofs.built.spaces_and_penalties_come_with_japanese_characters.Given as goal

abbrev pub ghosts-wrong : goal.ghosts-wrong
ghosts-wrong g a = record { name = a.blank.name; parts = a.blank.parts }
