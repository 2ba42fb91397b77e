-- The worked metric of one class, and faults of it, are what the definition gives.
use Rattle.std.proofs.Common.{◌≡◌, ℕ, List, [], ◌∷◌, refl, pos, negsuc, true, false, Some, None, Ok, Err, take, set, ◌++◌}
use Rattle.ts_geometry.specs.declared.fault.BadKind.TheVariants.{Truncated, Index}
use Rattle.ts_geometry.specs.declared.fault.MetricFault.TheVariants.{Bad}
use Rattle.ts_geometry.specs.Numbers.{scale}
use Rattle.metric_words.specs.Words.{halfword, word}
use Rattle.metric_words.specs.Lengths.{lengths_at, contradict}
use Rattle.metric_words.specs.FixWords.{design_kind, fix_kind, zero_kind}
use Rattle.metric_words.specs.Characters.{char_info_of, info_kind, characters_of, character_kinds}
use Rattle.metric_words.specs.Programs.{command_of}
use Rattle.jfm_load.specs.declared.programs.Space.TheVariants.{Nothing, Glue, Kern}
use Rattle.jfm_load.specs.CharTypes.{is_jis, char_type_of, first_type_kind, type_kind}
use Rattle.jfm_load.specs.Programs.{program_kind, space_after}
use Rattle.jfm_load.specs.Metrics.{Metric, metric_of, lengths_of, is_odd, lengths_in, kinds_of, spelt, class_of, measures_of, param_of}

abbrev jp10 : List ℕ
jp10 = 0 ∷ 11 ∷ 0 ∷ 1 ∷ 0 ∷ 24 ∷ 0 ∷ 2 ∷ 0 ∷ 0 ∷ 0 ∷ 0 ∷ 0 ∷ 2 ∷ 0 ∷ 2 ∷ 0 ∷ 2 ∷ 0 ∷ 1 ∷ 0 ∷ 0 ∷ 0 ∷ 0 ∷ 0 ∷ 0 ∷ 0 ∷ 6 ∷ 0 ∷ 0 ∷ 0 ∷ 0 ∷ 0 ∷ 160 ∷ 0 ∷ 0 ∷ 0 ∷ 0 ∷ 0 ∷ 0 ∷ 1 ∷ 17 ∷ 0 ∷ 0 ∷ 0 ∷ 0 ∷ 0 ∷ 0 ∷ 0 ∷ 16 ∷ 0 ∷ 0 ∷ 0 ∷ 0 ∷ 0 ∷ 0 ∷ 0 ∷ 14 ∷ 0 ∷ 0 ∷ 0 ∷ 0 ∷ 0 ∷ 0 ∷ 0 ∷ 2 ∷ 0 ∷ 0 ∷ 0 ∷ 0 ∷ 0 ∷ 0 ∷ 0 ∷ 0 ∷ 0 ∷ 0 ∷ 0 ∷ 0 ∷ 0 ∷ 0 ∷ 0 ∷ 0 ∷ 0 ∷ 0 ∷ 0 ∷ 0 ∷ 0 ∷ 0 ∷ 0 ∷ 16 ∷ 0 ∷ 0 ∷ 0 ∷ 16 ∷ 0 ∷ 0 ∷ []

-- the metric that jp10 spells
abbrev full_width : Metric
full_width = record {
  is_tate = false;
  check_sum = 0;
  design = 655360;
  char_types = record { code = 0; class = 0 } ∷ [];
  classes = record { width = pos 1048576; height = pos 917504; depth = pos 131072; is_there = true; program = None } ∷ [];
  commands = [];
  kerns = [];
  glues = [];
  params = pos 0 ∷ pos 0 ∷ pos 0 ∷ pos 0 ∷ pos 1048576 ∷ pos 1048576 ∷ [];
}

jp10_is_read : metric_of (jp10 ++ 1 ∷ 2 ∷ []) ≡ Ok full_width
unfolding metric_of halfword word lengths_at contradict design_kind fix_kind zero_kind char_info_of info_kind characters_of character_kinds command_of is_jis char_type_of first_type_kind type_kind program_kind lengths_of is_odd lengths_in kinds_of spelt
jp10_is_read = refl

cut_to_27 : metric_of (take 27 jp10) ≡ Err (Bad Truncated 27)
unfolding metric_of halfword word lengths_at contradict design_kind fix_kind zero_kind char_info_of info_kind characters_of character_kinds command_of is_jis char_type_of first_type_kind type_kind program_kind lengths_of is_odd lengths_in kinds_of spelt
cut_to_27 = refl

a_width_index_2 : metric_of (set jp10 40 2) ≡ Err (Bad Index 40)
unfolding metric_of halfword word lengths_at contradict design_kind fix_kind zero_kind char_info_of info_kind characters_of character_kinds command_of is_jis char_type_of first_type_kind type_kind program_kind lengths_of is_odd lengths_in kinds_of spelt
a_width_index_2 = refl

measures_at_ten_points : measures_of full_width 0 655360 ≡ record { wd = record { 0 = pos 655360 }; ht = record { 0 = pos 573440 }; dp = record { 0 = pos 81920 } }
measures_at_ten_points = refl

class_of_a_cell : class_of full_width (record { row = 4; cell = 2 }) ≡ 0
class_of_a_cell = refl

zw_and_zh : (scale (param_of full_width 6) 655360 ≡ pos 655360) × (scale (param_of full_width 5) 655360 ≡ pos 655360)
zw_and_zh = (refl, refl)

-- a program of a glue before class 2 and a kern before class 1, which goes on after its first word
a_program : (space_after (record { skip = 0; next = 2; op = 0; remainder = 1 } ∷ record { skip = 128; next = 1; op = 128; remainder = 0 } ∷ []) (negsuc 4 ∷ []) (pos 1 ∷ pos 2 ∷ pos 3 ∷ pos 4 ∷ pos 5 ∷ pos 6 ∷ []) (Some 0) 2 ≡ Glue (pos 4) (pos 5) (pos 6))
    × (space_after (record { skip = 0; next = 2; op = 0; remainder = 1 } ∷ record { skip = 128; next = 1; op = 128; remainder = 0 } ∷ []) (negsuc 4 ∷ []) (pos 1 ∷ pos 2 ∷ pos 3 ∷ pos 4 ∷ pos 5 ∷ pos 6 ∷ []) (Some 0) 1 ≡ Kern (negsuc 4))
    × (space_after (record { skip = 128; next = 2; op = 0; remainder = 1 } ∷ record { skip = 128; next = 1; op = 128; remainder = 0 } ∷ []) (negsuc 4 ∷ []) [] (Some 0) 1 ≡ Nothing)
a_program = (refl, refl, refl)
