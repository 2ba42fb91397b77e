-- What a writer keeps after a page, and the bounds of it.
use Rattle.std.specs.Prelude.{ℕ, ◌+◌, ◌*◌, ◌≤◌, max, ℤ, pos, ◌-ℤ◌, Bool, ◌||◌, unsigned_abs, int_le, nat_eq, nat_lt, negsuc, false, Option, Some, None, if◌then◌else◌}
use Rattle.ts_geometry.specs.declared.measure.Rect.{Rect}
use Rattle.ts_geometry.specs.Directions.{rect}
use Rattle.box_tree.specs.Trees.{BoxTree, size_of, dir_of}
use Rattle.box_tree.specs.Weights.{weight}
use Rattle.box_marks.specs.Marks.{corner}
use Rattle.dvi_writer.specs.declared.fault.WriteFault.{WriteFault}
use Rattle.dvi_writer.specs.declared.fault.WriteFault.TheVariants.{PagesFull, JobTooLarge}
use Rattle.dvi_writer.specs.declared.kept.Kept.{Kept}

-- a number, or 0 where it is below
abbrev pub at_least_0 : ℤ → ℕ
at_least_0 z = if int_le (pos 0) z then unsigned_abs z else 0

-- what a box covers, at whatever point it is set
abbrev pub covered : BoxTree → Rect
covered b = rect (size_of b) corner (dir_of b)

abbrev pub height_of : BoxTree → ℕ
height_of b = at_least_0 ((covered b).bottom.0 -ℤ (covered b).top.0)

abbrev pub width_of : BoxTree → ℕ
width_of b = at_least_0 ((covered b).right.0 -ℤ (covered b).left.0)

-- where the page begins: after the preamble, if that comes with it
abbrev pub page_place : Kept → ℕ
page_place k = k.given + (if nat_eq k.pages 0 then 15 else 0)

-- after the page of a box that has so many bytes
abbrev pub kept_after : Kept → BoxTree → ℕ → Bool → Kept
kept_after k b len turned = record {
  given = k.given + len;
  last = pos (page_place k);
  pages = k.pages + 1;
  weight = k.weight + weight b;
  high = max k.high (height_of b);
  wide = max k.wide (width_of b);
  turned = k.turned || turned;
}

-- A page has at most 61 bytes, 271 for each font that it defines, and 45 for each unit of weight.
pub record IsBounded (k : Kept) (fonts : ℕ) : Type 0 where
  pub given : k.given ≤ 61 * k.pages + 271 * fonts + 45 * k.weight
  pub pages : k.pages ≤ 65535
  pub weight : k.weight ≤ 20000000
  pub few : fonts ≤ 256

-- the first limit that the page of a box would pass, after so many pages of so much weight
abbrev pub limit_of : ℕ → ℕ → BoxTree → Option WriteFault
limit_of pages weight_so_far b = if nat_eq pages 65535 then Some PagesFull
    else (if nat_lt 20000000 (weight_so_far + weight b) then Some JobTooLarge else None)

-- of the first page
abbrev pub start_kept : Kept
start_kept = record {
  given = 0;
  last = negsuc 0;
  pages = 0;
  weight = 0;
  high = 0;
  wide = 0;
  turned = false;
}
