-- The boxes of which pages were given, and the bytes that were given for them.
use Rattle.std.specs.Prelude.{◌≡◌, ℕ, List, [], ◌∷◌, length, map, ℤ, negsuc, All, Bool, true, false, ◌||◌, nat_eq, if◌then◌else◌, Ok}
use Rattle.dvi_commands.specs.Commands as c
use Rattle.dvi_commands.specs.Commands.{Command}
use Rattle.dvi_commands.specs.declared.font.FontDef.{FontDef}
use Rattle.dvi_structure.specs.Structure.{Sheet, Shape, start, between}
use Rattle.dvi_code.specs.declared.page.DviPage.{DviPage}
use Rattle.dvi_code.specs.Pages.{Widths, pages_of}
use Rattle.dvi_code.specs.Reading.{Leads}
use Rattle.box_tree.specs.Trees.{BoxTree}
use Rattle.box_marks.specs.Glyphs.{WidthsAreGiven}
use Rattle.box_marks.specs.Marks.{page_marks}
use Rattle.dvi_writer.specs.declared.kept.Kept.{Kept}
use Rattle.dvi_writer.specs.Tables.{numbered_from, width_in}

-- ---- pages that were asked for

pub record Asked : Type 0 where
  pub counts : List ℤ
  pub fonts : List FontDef
  pub node : BoxTree

abbrev pub asked_for : List ℤ → List FontDef → BoxTree → Asked
asked_for counts fonts b = record { counts = counts; fonts = fonts; node = b }

-- the page of its counts and the marks of its box
abbrev pub page_asked : Asked → DviPage
page_asked a = record { counts = a.counts; marks = page_marks a.fonts a.node }

-- widths that give each glyph of the box its item's
abbrev pub HasWidths : Widths → Asked → Type 0
HasWidths widths a = WidthsAreGiven (width_in widths a.fonts) a.node

-- ---- what was given

-- between two pages
abbrev pub gap : ℤ → List FontDef → List Sheet → Shape
gap last fonts sheets = record { last = last; fonts = fonts; sheets = sheets; phase = between }

-- nothing is given before the first page
abbrev pub stood : Bool → ℤ → List FontDef → List Sheet → Shape
stood fresh last fonts sheets =
    if fresh then start else gap last (numbered_from 0 fonts) sheets

abbrev pub is_turn : Command → Bool
is_turn (c.direction n) = true
is_turn _ = false

abbrev pub has_turn : List Command → Bool
has_turn [] = false
has_turn (cmd ∷ cmds) = is_turn cmd || has_turn cmds

abbrev pub have_turn : List Sheet → Bool
have_turn [] = false
have_turn (s ∷ ss) = has_turn s.body || have_turn ss

-- no page came
pub record IsFresh (k : Kept) (fonts : List FontDef) : Type 0 where
  pub given : k.given ≡ 0
  pub last : k.last ≡ negsuc 0
  pub none : fonts ≡ []

-- The bytes, with more after them, are read as the pages of these boxes and then what the more
-- says.
pub record StandsFor (k : Kept) (fonts : List FontDef) (pages : List Asked) (bytes : List ℕ)
    : Type 0 where
  pub sheets : List Sheet
  pub len : length bytes ≡ k.given
  pub count : length sheets ≡ k.pages
  pub asked : length pages ≡ k.pages
  pub leads : Leads 0 start bytes (stood (nat_eq k.pages 0) k.last fonts sheets)
  pub reads : (widths : Widths) → All (HasWidths widths) pages
      → pages_of widths sheets ≡ Ok (map page_asked pages)
  pub turned : k.turned ≡ have_turn sheets
  pub fresh : k.pages ≡ 0 → IsFresh k fonts
