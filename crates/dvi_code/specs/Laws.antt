-- Laws of what DVI files mean.
use Rattle.std.specs.Prelude.{◌≡◌, ℕ, ◌+◌, ◌<◌, ◌≤◌, List, [], ◌∷◌, ◌++◌, length, Ok, ℤ, Some, true, false}
use Rattle.ts_outside.specs.Names.{is_file_name}
use Rattle.dvi_commands.specs.declared.font.FontDef.{FontDef}
use Rattle.dvi_code.specs.declared.page.DviPage.{DviPage}
use Rattle.dvi_commands.specs.Commands as c
use Rattle.dvi_commands.specs.Commands.{Command, Postamble, command}
use Rattle.dvi_structure.specs.Places.{said, fill, is_last, placed}
use Rattle.dvi_structure.specs.Structure.{Sheet, Shape, Inside, obeyed, font_of, is_sound_font, whole_sheets}
use Rattle.dvi_code.specs.Pages.{Widths, Pen, drawn, file_pages, whole_pages}
use Rattle.dvi_commands.specs.Spelling.{Spells}
use Rattle.dvi_code.specs.Reading.{Leads, Draws, all_inside, paged}

-- the whole pages of a prefix of a file that has pages are the first of these
abbrev pub WholePagesAreFirst : Type 0
WholePagesAreFirst =
    (widths : Widths) (x y : List ℕ) (pages : List DviPage) → file_pages widths (x ++ y) ≡ Ok pages
    → (first : List DviPage) × (more : List DviPage) × (whole_pages widths x ≡ Ok first)
    × (pages ≡ first ++ more)

-- the whole pages of a prefix are the first of those of all the bytes, whatever they are
abbrev pub SheetsGrow : Type 0
SheetsGrow = (x y : List ℕ)
    → (more : List Sheet) × (whole_sheets (x ++ y) ≡ whole_sheets x ++ more)

-- the bytes of one command lead to the structure after it
abbrev pub CommandsLead : Type 0
CommandsLead = (at : ℕ) (s t : Shape) (front : List ℕ) (cmd : Command)
    → command front ≡ Ok (cmd, []) → is_last cmd ≡ false → obeyed s s.phase at cmd ≡ Ok t
    → Leads at s front t

-- one after the other, bytes lead on
abbrev pub BytesLeadOn : Type 0
BytesLeadOn = (at : ℕ) (s t u : Shape) (x y : List ℕ) → Leads at s x t → Leads (at + length x) t y u
    → Leads at s (x ++ y) u

-- commands draw one after the other
abbrev pub CommandsDrawOn : Type 0
CommandsDrawOn = (widths : Widths) (fonts : List FontDef) (p q r : Pen) (cs ds : List Command)
    → Draws widths fonts p cs q → Draws widths fonts q ds r → Draws widths fonts p (cs ++ ds) r

-- a number keeps its definition
abbrev pub DefinitionsStay : Type 0
DefinitionsStay = (fonts more : List FontDef) (n : ℤ) (f : FontDef) → font_of fonts n ≡ Some f
    → font_of (fonts ++ more) n ≡ Some f

-- commands that are right within a page join
abbrev pub BodiesJoin : Type 0
BodiesJoin = (fonts : List FontDef) (cs ds : List Command) (i j k : Inside)
    → all_inside fonts i cs ≡ Ok j → all_inside fonts j ds ≡ Ok k
    → all_inside fonts i (cs ++ ds) ≡ Ok k

-- bytes that say such commands lead on within it
abbrev pub BodiesLead : Type 0
BodiesLead = (cs : List Command) (s : Shape) (counts : List ℤ) (body : List Command)
    (places : List ℕ) (i j : Inside) (at : ℕ) (bytes : List ℕ) → Spells bytes cs
    → all_inside s.fonts i cs ≡ Ok j
    → (ps : List ℕ) × Leads at (paged s counts body places i) bytes
    (paged s counts (body ++ cs) ps j)

-- post_post is the last command, and the fill comes after it
abbrev pub LastPlaced : Type 0
LastPlaced =
    (front : List ℕ) (p : ℤ) (id at : ℕ) (y : List ℕ) → command front ≡ Ok (c.post_post p id, [])
    → placed at 0 (front ++ y) ≡ record { at = at; item = said (c.post_post p id) }
    ∷ record { at = at + length front; item = fill y } ∷ []

-- no command leaves the pen, and one before others draws before them
abbrev pub NothingDrawn : Type 0
NothingDrawn = (widths : Widths) (fonts : List FontDef) (p : Pen) → Draws widths fonts p [] p

abbrev pub OneDrawn : Type 0
OneDrawn = (widths : Widths) (fonts : List FontDef) (p q r : Pen) (cmd : Command)
    (cs : List Command) → drawn widths fonts p cmd ≡ Ok q → Draws widths fonts q cs r
    → Draws widths fonts p (cmd ∷ cs) r

-- a name of at most 251 bytes leaves room for the ending of a metric file
abbrev pub ShortNamesSound : Type 0
ShortNamesSound = (f : FontDef) → is_file_name f.name ≡ true → length f.name ≤ 251 → 1 ≤ f.size
    → f.size < 8388608 → is_sound_font f ≡ true
