use Rattle.node_links.proofs.tests.lists_grow_at_the_end_and_between_their_items.Given as goal

abbrev pub ghosts-answers : goal.ghosts-answers
ghosts-answers g a = record { name = a.blank.name; parts = a.blank.parts }
