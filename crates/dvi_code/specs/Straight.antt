-- The pages of a file whose structure is right, read straight on with the definitions of the whole
-- file: what a second pass does.
use Rattle.std.specs.Prelude.{ℕ, List, [], ◌∷◌, ◌++◌, Result, Ok, Err, Option, Some, None, ℤ, pos, Bool, true, false, if◌then◌else◌, ◌&&◌, replicate}
use Rattle.ts_base.specs.Agreement.{◌>>=◌}
use Rattle.dvi_commands.specs.declared.fault.DviKind.{DviKind}
use Rattle.dvi_commands.specs.declared.fault.DviKind.TheVariants as kinds
use Rattle.dvi_commands.specs.declared.fault.DviBad.{DviBad}
use Rattle.ts_geometry.specs.declared.measure.Point.{Point}
use Rattle.ts_geometry.specs.declared.measure.Sp.{Sp}
use Rattle.ts_geometry.specs.Directions.{sp}
use Rattle.dvi_commands.specs.declared.font.FontDef.{FontDef}
use Rattle.dvi_code.specs.declared.mark.Mark.{Mark}
use Rattle.dvi_code.specs.declared.page.DviPage.{DviPage}
use Rattle.dvi_code.specs.declared.pen.Spot as spots
use Rattle.dvi_code.specs.declared.pen.Pen as pens
use Rattle.dvi_code.specs.declared.pages.Reader as readers
use Rattle.dvi_commands.specs.declared.command.Command as code
use Rattle.dvi_commands.specs.declared.command.Command.TheVariants as read
use Rattle.dvi_commands.specs.Commands as c
use Rattle.dvi_commands.specs.Commands.{Command}
use Rattle.dvi_structure.specs.Places.{Item, Placed, said, bad, fill}
use Rattle.dvi_structure.specs.Structure.{placed_at, fault_at}
use Rattle.dvi_structure.specs.FontPlaces.{at_place}
use Rattle.dvi_code.specs.Pages.{Widths, Spot, Pen, clean, drawn, is_in_range}

-- the counts of the page that was begun last, and its pen
pub record Reader : Type 0 where
  pub counts : List ℤ
  pub pen : Pen

abbrev pub reader : List ℤ → Pen → Reader
reader counts pen = record { counts = counts; pen = pen }

abbrev pub start_reader : Reader
start_reader = reader (replicate 10 (pos 0)) clean

unfoldable pub read_on : Widths → List FontDef → Reader → Command → Result Reader DviKind
read_on widths fonts r (c.bop counts back) = Ok (reader counts clean)
read_on widths fonts r c.eop = Ok (reader r.counts clean)
read_on widths fonts r (c.font_def d) = Ok r
read_on widths fonts r (c.pre p) = Ok r
read_on widths fonts r cmd = drawn widths fonts r.pen cmd >>= λ pen. Ok (reader r.counts pen)

-- the page that a command ends
abbrev pub page_ended : Reader → Command → List DviPage
page_ended r c.eop = record { counts = r.counts; marks = r.pen.marks } ∷ []
page_ended r _ = []

-- no page follows
abbrev pub ends_pages : Command → Bool
ends_pages (c.post p) = true
ends_pages (c.post_post at id) = true
ends_pages _ = false

abbrev pub after_item : Widths → List FontDef → Reader → (Reader → Result (List DviPage) DviBad) → ℕ
    → Item → Result (List DviPage) DviBad
after_item widths fonts r others at (said cmd) =
    if ends_pages cmd then Ok []
    else (placed_at at (read_on widths fonts r cmd) >>= λ q. others q
    >>= λ pages. Ok (page_ended r cmd ++ pages))
after_item widths fonts r others at (bad kind) = Err (fault_at at kind)
after_item widths fonts r others at (fill bytes) = others r

unfoldable pub pages_on : Widths → List FontDef → Reader → List Placed
    → Result (List DviPage) DviBad
pages_on widths fonts r [] = Ok []
pages_on widths fonts r (p ∷ ps) =
    after_item widths fonts r (λ q. pages_on widths fonts q ps) p.at p.item

-- ---- what the reader keeps

abbrev pub spot_of : spots.Spot → Spot
spot_of s = record { at = s.at; dir = s.dir; w = s.w.0; x = s.x.0; y = s.y.0; z = s.z.0 }

-- the last that was pushed is kept last
abbrev pub saved_of : List spots.Spot → List Spot
saved_of [] = []
saved_of (s ∷ ss) = saved_of ss ++ spot_of s ∷ []

abbrev pub pen_of : List FontDef → pens.Pen → Pen
pen_of fonts p = record {
  spot = spot_of p.spot;
  saved = saved_of p.saved.items;
  chosen = at_place fonts p.chosen;
  marks = p.marks;
}

-- the point, unless a coordinate is out of range
abbrev pub near_point : Point → Result Point DviKind
near_point p = if is_in_range p.x.0 && is_in_range p.y.0 then Ok p else Err kinds.Range

-- a coordinate, unless it is out of range
abbrev pub coordinate : ℤ → Option Sp
coordinate z = if is_in_range z then Some (sp z) else None

abbrev pub point_of : Option Sp → Option Sp → Result Point DviKind
point_of (Some x) (Some y) = Ok (record { x = x; y = y })
point_of _ _ = Err kinds.Range

abbrev pub marks_of : Option Mark → List Mark
marks_of None = []
marks_of (Some mark) = mark ∷ []

abbrev pub pushed : Pen → Result Pen DviKind
pushed p =
    Ok (record { spot = p.spot; saved = p.spot ∷ p.saved; chosen = p.chosen; marks = p.marks })

abbrev pub moves_right : code.Command → Bool
moves_right (read.Right n) = true
moves_right read.W0 = true
moves_right (read.W n) = true
moves_right read.X0 = true
moves_right (read.X n) = true
moves_right _ = false

abbrev pub moves_down : code.Command → Bool
moves_down (read.Down n) = true
moves_down read.Y0 = true
moves_down (read.Y n) = true
moves_down read.Z0 = true
moves_down (read.Z n) = true
moves_down _ = false

abbrev pub reader_of : List FontDef → readers.Reader → Reader
reader_of fonts r = reader r.counts (pen_of fonts r.pen)
