use Rattle.list_commands.proofs.characters.put_char.Given as goal

abbrev pub ghosts-add_char : goal.ghosts-add_char
ghosts-add_char a = record { name = a.blank.name; parts = a.blank.parts }
