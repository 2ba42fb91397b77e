use Rattle.list_commands.proofs.ending.end_hbox.Given as goal

abbrev pub ghosts-end_list : goal.ghosts-end_list
ghosts-end_list a = record { name = a.blank.name; parts = a.blank.parts }
