use Rattle.list_tests.proofs.finished.the_last_kanji_or_kana_of_a_paragraph_has_a_penalty.Given as goal

abbrev pub ghosts-wrong : goal.ghosts-wrong
ghosts-wrong g a = record { name = a.blank.name; parts = a.blank.parts }
