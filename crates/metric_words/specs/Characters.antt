-- What a metric file says of each of its characters or classes: its measures and its program (TeX: The Program, sections 543
-- and 544).
use Rattle.std.specs.Prelude.{ℕ, ◌/◌, ◌%◌, ℤ, pos, Bool, false, List, [], ◌∷◌, map, slice_index_or, Option, Some, None, Result, ◌==◌, nat_lt, ◌&&◌, ◌||◌, not, if◌then◌else◌}
use Rattle.ts_geometry.specs.declared.fault.BadKind.{BadKind}
use Rattle.ts_geometry.specs.declared.fault.BadKind.TheVariants.{Index}
use Rattle.ts_geometry.specs.declared.fault.MetricFault.{MetricFault}
use Rattle.ts_geometry.specs.declared.measure.Measures.{Measures}
use Rattle.ts_geometry.specs.Numbers.{scale}
use Rattle.metric_words.specs.declared.lengths.Lengths.{Lengths}
use Rattle.metric_words.specs.declared.characters.CharInfo.{CharInfo}
use Rattle.metric_words.specs.Words.{words, first_byte, second_byte, third_byte, fourth_byte}
use Rattle.metric_words.specs.Checking.{checked, joined}
use Rattle.metric_words.specs.Lengths.{char_count, char_info_start, width_start, height_start, depth_start, italic_start}
use Rattle.metric_words.specs.FixWords.{fix_of, table_kinds}

-- The word of a character: places in the tables of widths (8 bits), heights (4), depths (4) and italic corrections (6), a tag (2)
-- and, where the tag is 1, the place where its program starts (8).
unfoldable pub char_info_of : ℕ → CharInfo
char_info_of w = record {
  width = first_byte w;
  height = second_byte w / 16;
  depth = second_byte w % 16;
  program = if third_byte w % 4 == 1 then Some (fourth_byte w) else None;
}

unfoldable pub info_kind : Lengths → ℕ → Option BadKind
info_kind l w =
    if nat_lt (first_byte w) l.nw && nat_lt (second_byte w / 16) l.nh && nat_lt (second_byte w % 16) l.nd
    && nat_lt (third_byte w / 4) l.ni && (not (third_byte w % 4 == 1) || nat_lt (fourth_byte w) l.nl)
    then None else Some Index

-- A character: its measures as fix words; is its width another than that of the place 0, which in a TFM says that the character
-- isn't there; where its program starts, if it has one.
pub record Character : Type 0 where
  pub width : ℤ
  pub height : ℤ
  pub depth : ℤ
  pub is_there : Bool
  pub program : Option ℕ

abbrev pub no_character : Character
no_character = record { width = pos 0; height = pos 0; depth = pos 0; is_there = false; program = None }

-- a character, by the tables of widths, heights and depths
abbrev pub character_in : List ℤ → List ℤ → List ℤ → CharInfo → Character
character_in widths heights depths info = record {
  width = slice_index_or widths info.width (pos 0);
  height = slice_index_or heights info.height (pos 0);
  depth = slice_index_or depths info.depth (pos 0);
  is_there = not (info.width == 0);
  program = info.program;
}

-- the words of each part that says something of characters
abbrev pub info_words : List ℕ → Lengths → List ℕ
info_words file l = words file (char_info_start l) (char_count l)

abbrev pub width_words : List ℕ → Lengths → List ℕ
width_words file l = words file (width_start l) l.nw

abbrev pub height_words : List ℕ → Lengths → List ℕ
height_words file l = words file (height_start l) l.nh

abbrev pub depth_words : List ℕ → Lengths → List ℕ
depth_words file l = words file (depth_start l) l.nd

abbrev pub italic_words : List ℕ → Lengths → List ℕ
italic_words file l = words file (italic_start l) l.ni

-- the characters that a file has
unfoldable pub characters_of : List ℕ → Lengths → List Character
characters_of file l =
    map (character_in (map fix_of (width_words file l)) (map fix_of (height_words file l)) (map fix_of (depth_words file l)))
    (map char_info_of (info_words file l))

-- what is wrong with each word from those of the characters up to the italic corrections
unfoldable pub character_kinds : List ℕ → Lengths → List (Option BadKind)
character_kinds file l = joined (
    map (info_kind l) (info_words file l)
    ∷ table_kinds (width_words file l)
    ∷ table_kinds (height_words file l)
    ∷ table_kinds (depth_words file l)
    ∷ table_kinds (italic_words file l)
    ∷ []
    )

-- the characters, or the fault of the first bad word of these parts
abbrev pub characters_in : List ℕ → Lengths → Result (List Character) MetricFault
characters_in file l = checked (char_info_start l) (character_kinds file l) (characters_of file l)

abbrev pub character_at : List Character → ℕ → Character
character_at characters i = slice_index_or characters i no_character

-- the measures of a character at a size of so many scaled points
abbrev pub measures_at : Character → ℕ → Measures
measures_at c z = record {
  wd = record { 0 = scale c.width z };
  ht = record { 0 = scale c.height z };
  dp = record { 0 = scale c.depth z };
}
