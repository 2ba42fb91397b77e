use Rattle.list_tests.proofs.finished.letters_allow_gaps_and_japanese_characters_forbid_them.Given as goal

abbrev pub ghosts-gaps : goal.ghosts-gaps
ghosts-gaps g a = record { name = a.blank.name; parts = a.blank.parts }
