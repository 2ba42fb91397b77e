use Rattle.open_lists.specs.Characters.{kanji_entry, roman_entry}
use Rattle.list_commands.proofs.Fonts.{put_keeps}
use Rattle.list_commands.proofs.characters.add_char.Goals as goal

pub returns-in-Ja-clause-of_fonts : goal.returns-in-Ja-clause-of_fonts
returns-in-Ja-clause-of_fonts g c = λ k.
    put_keeps c.glyphs_stay_of_fonts.ensures.put c.args.fonts.now c.args.lists.now c.kanji.new.self
    (λ dir. kanji_entry c.args.fonts.now c.args.env.now dir c.in-Ja.cell) c.kanji.result
    (λ dir. c.entries_are_of_fonts.ensures.kanji c.args.fonts.now c.args.env.now dir c.in-Ja.cell c.cell_is_there.ensures)
    c.kanji.ensures.exact c.kanji.ensures.refused c.kanji.ensures.situation c.kanji.ensures.around k

pub returns-clause-of_fonts : goal.returns-clause-of_fonts
returns-clause-of_fonts g c = λ k.
    put_keeps c.glyphs_stay_of_fonts.ensures.put c.args.fonts.now c.args.lists.now c.roman.new.self
    (λ dir. roman_entry c.args.fonts.now c.args.env.now dir c.in-One.code) c.roman.result
    (λ dir. c.entries_are_of_fonts.ensures.roman c.args.fonts.now c.args.env.now dir c.in-One.code)
    c.roman.ensures.exact c.roman.ensures.refused c.roman.ensures.situation c.roman.ensures.around k
