-- Words for the readers alone: the parts that say something of characters, read one after the other.
use Rattle.std.specs.Prelude.{ℕ, List, map, Result, Ok}
use Rattle.ts_geometry.specs.declared.fault.MetricFault.{MetricFault}
use Rattle.ts_base.specs.Agreement.{◌>>=◌}
use Rattle.metric_words.specs.declared.lengths.Lengths.{Lengths}
use Rattle.metric_words.specs.declared.characters.CharInfo.{CharInfo}
use Rattle.metric_words.specs.Checking.{checked}
use Rattle.metric_words.specs.Lengths.{char_info_start, width_start, height_start, depth_start, italic_start}
use Rattle.metric_words.specs.FixWords.{table_in}
use Rattle.metric_words.specs.Characters.{Character, character_in, char_info_of, info_kind, info_words}

abbrev pub infos_in : List ℕ → Lengths → Result (List CharInfo) MetricFault
infos_in file l = checked (char_info_start l) (map (info_kind l) (info_words file l)) (map char_info_of (info_words file l))

abbrev pub characters_in_parts : List ℕ → Lengths → Result (List Character) MetricFault
characters_in_parts file l = do
  infos ← infos_in file l
  widths ← table_in file (width_start l) l.nw
  heights ← table_in file (height_start l) l.nh
  depths ← table_in file (depth_start l) l.nd
  italics ← table_in file (italic_start l) l.ni
  Ok (map (character_in widths heights depths) infos)
