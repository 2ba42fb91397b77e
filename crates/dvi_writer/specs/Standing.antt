-- What a writer stands for, and what a page more makes of it.
use Rattle.std.specs.Prelude.{◌≡◌, ℕ, ◌+◌, List, [], ◌++◌, max, if◌then◌else◌, Option, Some, None, Result, Ok, Err}
use Rattle.ts_base.specs.Agreement.{Cause, Determined, Free}
use Rattle.dvi_commands.specs.declared.font.FontDef.{FontDef}
use Rattle.box_tree.specs.Trees.{BoxTree}
use Rattle.box_tree.specs.Weights.{weight}
use Rattle.box_marks.specs.Marks.{page_placed}
use Rattle.dvi_writer.specs.declared.fault.WriteFault.{WriteFault}
use Rattle.dvi_writer.specs.declared.fault.WriteFault.TheVariants.{PagesFull, JobTooLarge, PlaceRange, NoMemory}
use Rattle.dvi_writer.specs.declared.writer.Writer.{Writer}
use Rattle.dvi_writer.specs.Keeping.{limit_of, height_of, width_of}
use Rattle.dvi_writer.specs.Saying.{all_fit}
use Rattle.dvi_writer.specs.Written.{end_bytes}
use Rattle.dvi_writer.specs.Reading.{Asked, StandsFor}
use Rattle.dvi_writer.specs.Tables.{known}

-- ---- what a writer keeps

abbrev pub page_count : Writer → ℕ
page_count w = w.kept.pages

abbrev pub weight_shipped : Writer → ℕ
weight_shipped w = w.kept.weight

-- the greatest height and width of what the boxes cover
abbrev pub greatest_height : Writer → ℕ
greatest_height w = w.kept.high

abbrev pub greatest_width : Writer → ℕ
greatest_width w = w.kept.wide

-- the fonts of the table of the last page
abbrev pub fonts_so_far : Writer → List FontDef
fonts_so_far w = w.fonts

-- the bytes of the end
abbrev pub last_bytes : Writer → List ℕ
last_bytes w = end_bytes w.kept w.fonts

-- the bytes, with more after them, are read as the pages of these boxes and then what the more says
abbrev pub Stands : Writer → List Asked → List ℕ → Type 0
Stands w pages bytes = StandsFor w.kept w.fonts pages bytes

-- no page came
pub record IsNew (w : Writer) : Type 0 where
  pub pages : page_count w ≡ 0
  pub weight : weight_shipped w ≡ 0
  pub high : greatest_height w ≡ 0
  pub wide : greatest_width w ≡ 0
  pub fonts : fonts_so_far w ≡ []

-- ---- a page more

-- the table of the page begins with that of the page before
abbrev pub Begins : List FontDef → Writer → Type 0
Begins fonts w = (more : List FontDef) × (known fonts ≡ fonts_so_far w ++ more)

pub record Counted (old : Writer) (b : BoxTree) (table : List FontDef) (new : Writer) : Type 0 where
  pub pages : page_count new ≡ page_count old + 1
  pub weight : weight_shipped new ≡ weight_shipped old + weight b
  pub high : greatest_height new ≡ max (greatest_height old) (height_of b)
  pub wide : greatest_width new ≡ max (greatest_width old) (width_of b)
  pub fonts : fonts_so_far new ≡ known table

-- the first limit that a page would pass
abbrev pub limit_passed : Option WriteFault → BoxTree → Option WriteFault
limit_passed (Some fault) b = Some fault
limit_passed None b = if all_fit (page_placed b) then None else Some PlaceRange

abbrev pub unless : Option WriteFault → Result (Unit {0}) WriteFault
unless None = Ok tt
unless (Some fault) = Err fault

-- whether a page may come after so many of so much weight, and why not
abbrev pub permitted_after : ℕ → ℕ → BoxTree → Result (Unit {0}) WriteFault
permitted_after pages weight_so_far b = unless (limit_passed (limit_of pages weight_so_far b) b)

-- whether a page may be written, and why not
abbrev pub permitted : Writer → BoxTree → Result (Unit {0}) WriteFault
permitted w b = permitted_after (page_count w) (weight_shipped w) b

abbrev pub write_cause : WriteFault → Cause
write_cause PagesFull = Determined
write_cause JobTooLarge = Determined
write_cause PlaceRange = Determined
write_cause NoMemory = Free
