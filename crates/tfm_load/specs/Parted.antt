-- Words for the readers alone: the parts of a TFM, read one after the other.
use Rattle.std.specs.Prelude.{ℕ, List, Result, Ok}
use Rattle.ts_geometry.specs.declared.fault.MetricFault.{MetricFault}
use Rattle.ts_base.specs.Agreement.{◌>>=◌}
use Rattle.metric_words.specs.declared.lengths.Lengths.{Lengths}
use Rattle.metric_words.specs.Words.{word}
use Rattle.metric_words.specs.Lengths.{header_start, kern_start, param_start}
use Rattle.metric_words.specs.FixWords.{design_in, fix_words_in, params_in}
use Rattle.metric_words.specs.Characters.{characters_in}
use Rattle.tfm_load.specs.Programs.{commands_in}
use Rattle.tfm_load.specs.Metrics.{Metric}

-- the metric of a file with these lengths and this design size, or the fault of its first bad word after the header
abbrev pub tables_in : List ℕ → Lengths → ℕ → Result Metric MetricFault
tables_in file l design = do
  characters ← characters_in file l
  commands ← commands_in file l
  kerns ← fix_words_in file (kern_start l) l.nk
  params ← params_in file (param_start l) l.np
  Ok (record {
    check_sum = word file (header_start l);
    design = design;
    first = l.bc;
    characters = characters;
    commands = commands;
    kerns = kerns;
    params = params;
  })

-- the metric of a file with these lengths, or the fault of its first bad word
unfoldable pub parts_in : List ℕ → Lengths → Result Metric MetricFault
parts_in file l = design_in file l >>= tables_in file l
