-- The pages of marks that a DVI file means (TeX: The Program, sections 585 to 586): a second pass
-- over the commands of each page, with the widths of characters and the positions.
use Rattle.std.specs.Prelude.{ℕ, ◌+◌, List, [], ◌∷◌, ◌++◌, Result, Ok, Err, Option, Some, None, ℤ, pos, neg_ℤ, int_le, int_lt, Bool, ◌&&◌, if◌then◌else◌, get_or}
use Rattle.ts_geometry.specs.declared.measure.Sp.{Sp}
use Rattle.ts_geometry.specs.declared.measure.Point.{Point}
use Rattle.ts_geometry.specs.declared.direction.Dir.{Dir}
use Rattle.ts_geometry.specs.declared.direction.Dir.TheVariants.{Yoko}
use Rattle.ts_geometry.specs.Directions.{sp, point, step}
use Rattle.ts_base.specs.Agreement.{◌>>=◌}
use Rattle.dvi_commands.specs.declared.fault.DviKind.{DviKind}
use Rattle.dvi_commands.specs.declared.fault.DviKind.TheVariants as kinds
use Rattle.dvi_commands.specs.declared.fault.DviBad.{DviBad}
use Rattle.dvi_commands.specs.declared.font.FontDef.{FontDef}
use Rattle.dvi_code.specs.declared.mark.What.TheVariants.{Glyph, Rule}
use Rattle.dvi_code.specs.declared.mark.Mark.{Mark}
use Rattle.dvi_code.specs.declared.page.DviPage.{DviPage}
use Rattle.dvi_commands.specs.Commands as c
use Rattle.dvi_commands.specs.Commands.{Command, dir_of}
use Rattle.dvi_structure.specs.Structure.{font_of, Sheet, structure, whole_sheets, fault_at}

-- the width of a character of a font at its size, if the font has it
abbrev pub Widths : Type 0
Widths = FontDef → ℕ → Option Sp

-- what push saves: the point, the direction, and the last measures of movements, w and x along and
-- y and z across
pub record Spot : Type 0 where
  pub at : Point
  pub dir : Dir
  pub w : ℤ
  pub x : ℤ
  pub y : ℤ
  pub z : ℤ

-- where the next mark is set, what was pushed, the last first, the chosen font, and the marks so
-- far
pub record Pen : Type 0 where
  pub spot : Spot
  pub saved : List Spot
  pub chosen : Option FontDef
  pub marks : List Mark

-- a point with a direction before any movement by w, x, y and z
abbrev pub spot : ℤ → ℤ → Dir → Spot
spot x y dir = record { at = point x y; dir = dir; w = pos 0; x = pos 0; y = pos 0; z = pos 0 }

-- the pen at bop
abbrev pub clean : Pen
clean = record { spot = spot (pos 0) (pos 0) Yoko; saved = []; chosen = None; marks = [] }

-- so far along the direction, and so far across it
abbrev pub stepped : Spot → ℤ → ℤ → Spot
stepped s along across = record s { at = step s.at s.dir (sp along) (sp across) }

abbrev pub is_in_range : ℤ → Bool
is_in_range z = int_le (neg_ℤ (pos 2147483647)) z && int_le z (pos 2147483647)

-- the pen with marks more and then at a new spot
abbrev pub moved : Pen → Spot → List Mark → Result Pen DviKind
moved p s more =
    if is_in_range s.at.x.0 && is_in_range s.at.y.0
    then Ok (record { spot = s; saved = p.saved; chosen = p.chosen; marks = p.marks ++ more })
    else Err kinds.Range

abbrev pub glyph : FontDef → ℕ → Spot → Mark
glyph f code s = record { what = Glyph f.name f.size code; at = s.at; dir = s.dir }

-- a glyph of a width, which is stepped along
abbrev pub glyph_set : Pen → FontDef → ℕ → Option Sp → Result Pen DviKind
glyph_set p f code None = Err kinds.Width
glyph_set p f code (Some width) =
    moved p (stepped p.spot width.0 (pos 0)) (glyph f code p.spot ∷ [])

abbrev pub set_by : Widths → Pen → ℕ → Option FontDef → Result Pen DviKind
set_by widths p code None = Err kinds.FontUndefined
set_by widths p code (Some f) = glyph_set p f code (widths f code)

-- a glyph that the font has, and no step
abbrev pub glyph_put : Pen → FontDef → ℕ → Option Sp → Result Pen DviKind
glyph_put p f code None = Err kinds.Width
glyph_put p f code (Some width) = moved p p.spot (glyph f code p.spot ∷ [])

abbrev pub put_by : Widths → Pen → ℕ → Option FontDef → Result Pen DviKind
put_by widths p code None = Err kinds.FontUndefined
put_by widths p code (Some f) = glyph_put p f code (widths f code)

-- a rule is a mark where its height and its width are above 0
abbrev pub rule : ℤ → ℤ → Spot → List Mark
rule height width s =
    if int_lt (pos 0) height && int_lt (pos 0) width
    then record { what = Rule (sp height) (sp width); at = s.at; dir = s.dir } ∷ []
    else []

abbrev pub along : Pen → Spot → ℤ → Result Pen DviKind
along p s n = moved p (stepped s n (pos 0)) []

abbrev pub across : Pen → Spot → ℤ → Result Pen DviKind
across p s n = moved p (stepped s (pos 0) n) []

abbrev pub turned_to : Pen → Option Dir → Result Pen DviKind
turned_to p None = Err kinds.Direction
turned_to p (Some dir) = Ok (record p { spot = record p.spot { dir = dir } })

abbrev pub back_to : Pen → List Spot → Result Pen DviKind
back_to p [] = Err kinds.Stack
back_to p (s ∷ ss) = Ok (record { spot = s; saved = ss; chosen = p.chosen; marks = p.marks })

-- a command of a page's body
unfoldable pub drawn : Widths → List FontDef → Pen → Command → Result Pen DviKind
drawn widths fonts p (c.set code) = set_by widths p code p.chosen
drawn widths fonts p (c.put code) = put_by widths p code p.chosen
drawn widths fonts p (c.set_rule height width) =
    moved p (stepped p.spot width (pos 0)) (rule height width p.spot)
drawn widths fonts p (c.put_rule height width) = moved p p.spot (rule height width p.spot)
drawn widths fonts p c.nop = Ok p
drawn widths fonts p c.push =
    Ok (record { spot = p.spot; saved = p.spot ∷ p.saved; chosen = p.chosen; marks = p.marks })
drawn widths fonts p c.pop = back_to p p.saved
drawn widths fonts p (c.right n) = along p p.spot n
drawn widths fonts p c.w0 = along p p.spot p.spot.w
drawn widths fonts p (c.w n) = along p (record p.spot { w = n }) n
drawn widths fonts p c.x0 = along p p.spot p.spot.x
drawn widths fonts p (c.x n) = along p (record p.spot { x = n }) n
drawn widths fonts p (c.down n) = across p p.spot n
drawn widths fonts p c.y0 = across p p.spot p.spot.y
drawn widths fonts p (c.y n) = across p (record p.spot { y = n }) n
drawn widths fonts p c.z0 = across p p.spot p.spot.z
drawn widths fonts p (c.z n) = across p (record p.spot { z = n }) n
drawn widths fonts p (c.font n) =
    Ok (record { spot = p.spot; saved = p.saved; chosen = font_of fonts n; marks = p.marks })
drawn widths fonts p (c.xxx text) = Ok p
drawn widths fonts p (c.direction d) = turned_to p (dir_of d)
drawn widths fonts p _ = Err kinds.Misplaced

-- a fault with the number of commands before it
abbrev pub counted : ℕ → Result Pen DviKind → Result Pen (ℕ × DviKind)
counted before (Ok p) = Ok p
counted before (Err kind) = Err (before, kind)

-- commands one after the other, after so many
unfoldable pub all_drawn : Widths → List FontDef → ℕ → Pen → List Command → Result Pen (ℕ × DviKind)
all_drawn widths fonts before p [] = Ok p
all_drawn widths fonts before p (cmd ∷ cmds) =
    counted before (drawn widths fonts p cmd) >>= λ q. all_drawn widths fonts (before + 1) q cmds

abbrev pub page_from : Sheet → Result Pen (ℕ × DviKind) → Result DviPage DviBad
page_from s (Ok p) = Ok (record { counts = s.counts; marks = p.marks })
page_from s (Err fault) = Err (fault_at (get_or s.places fault.0 0) fault.1)

abbrev pub page_of : Widths → Sheet → Result DviPage DviBad
page_of widths s = page_from s (all_drawn widths s.fonts 0 clean s.body)

unfoldable pub pages_of : Widths → List Sheet → Result (List DviPage) DviBad
pages_of widths [] = Ok []
pages_of widths (s ∷ ss) = do
  first ← page_of widths s
  others ← pages_of widths ss
  Ok (first ∷ others)

-- the pages of a file, or its first fault, those of the structure before any other
abbrev pub file_pages : Widths → List ℕ → Result (List DviPage) DviBad
file_pages widths bytes = structure bytes >>= λ s. pages_of widths s.sheets

-- the pages of a prefix of a file that are whole: those whose eop is in it
abbrev pub whole_pages : Widths → List ℕ → Result (List DviPage) DviBad
whole_pages widths bytes = pages_of widths (whole_sheets bytes)
