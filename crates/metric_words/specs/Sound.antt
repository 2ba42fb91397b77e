-- What is true of the lengths and the tables of a metric file that has no fault.
use Rattle.std.specs.Prelude.{ℕ, ◌+◌, ◌*◌, ◌≤◌, ◌<◌, ℤ, pos, negsuc, Bool, List, length, nat_lt, ◌&&◌, IsTrue}
use Rattle.std.specs.List.{list_all}
use Rattle.metric_words.specs.declared.lengths.Lengths.{Lengths}
use Rattle.metric_words.specs.declared.characters.CharInfo.{CharInfo}
use Rattle.ts_geometry.specs.declared.measure.Measures.{Measures}
use Rattle.ts_geometry.specs.Numbers.{IsWithin}
use Rattle.metric_words.specs.Lengths.{file_end}
use Rattle.metric_words.specs.Characters.{Character}

-- The lengths of a file of so many bytes don't contradict each other, and the parts lie in the file.
pub record AreSound (l : Lengths) (size : ℕ) : Type 0 where
  pub inside : 4 * file_end l ≤ size
  pub whole : file_end l ≤ 65535
  pub header : 2 ≤ l.lh
  pub first_char : l.bc ≤ l.ec + 1
  pub last_char : l.ec ≤ 255
  pub widths : 1 ≤ l.nw
  pub heights : 1 ≤ l.nh
  pub depths : 1 ≤ l.nd
  pub italics : 1 ≤ l.ni

-- The places are in tables of these lengths.
abbrev pub has_places : ℕ → ℕ → ℕ → CharInfo → Bool
has_places nw nh nd info = nat_lt info.width nw && nat_lt info.height nh && nat_lt info.depth nd

-- a fix word within 16 of 0
abbrev pub is_fix : ℤ → Bool
is_fix (pos n) = nat_lt n 16777216
is_fix (negsuc n) = nat_lt n 16777216

-- a character whose measures are fix words within 16 of 0
abbrev pub has_fix_measures : Character → Bool
has_fix_measures c = is_fix c.width && (is_fix c.height && is_fix c.depth)

-- measures that are at most so far from 0
pub record AreWithin (most : ℕ) (m : Measures) : Type 0 where
  pub wd : IsWithin most m.wd.0
  pub ht : IsWithin most m.ht.0
  pub dp : IsWithin most m.dp.0

-- a design size in scaled points, from 1 point on
pub record IsDesign (design : ℕ) : Type 0 where
  pub least : 65536 ≤ design
  pub most : design < 134217728

-- The tables of characters fit each other.
pub record AreCharacters (infos : List CharInfo) (widths heights depths : List ℤ) : Type 0 where
  pub places : IsTrue (list_all (has_places (length widths) (length heights) (length depths)) infos)
  pub fix_widths : IsTrue (list_all is_fix widths)
  pub fix_heights : IsTrue (list_all is_fix heights)
  pub fix_depths : IsTrue (list_all is_fix depths)
