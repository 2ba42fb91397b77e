-- A font gets its number: that of an equal font which is there, or the next one (TeX: The Program, sections 1260 to 1262).
use Rattle.std.specs.Prelude.{ℕ, List, [], ◌∷◌, ◌++◌, Option, Some, None, Result, Ok}
use Rattle.ts_base.specs.Agreement.{◌>>=◌, with_fault}
use Rattle.ts_outside.specs.States.{Held}
use Rattle.box_tree.specs.declared.item.FontNo.{FontNo}
use Rattle.env_groups.specs.Environments.{Nest, next_font}
use Rattle.font_store.specs.declared.fonts.Font.{Font}
use Rattle.font_store.specs.declared.metric.Metric.{Metric}
use Rattle.font_store.specs.Store.{number_of}
use Rattle.font_store.specs.Widths.{metric_named}
use Rattle.control_faults.specs.declared.turn_fault.TurnFault.{TurnFault}
use Rattle.control_faults.specs.declared.turn_fault.TurnFault.TheVariants.{Kind}
use Rattle.control_faults.specs.TurnFaults.{of_env, of_load}
use Rattle.known_fonts.specs.Sizes.{font_size}
use Rattle.known_fonts.specs.Metrics.{design_of, facts_in}
use Rattle.known_fonts.specs.declared.sizes.Sizing.{Sizing}

-- a font that is wanted: its name as it is spelt, and how its size is said
abbrev pub Wanted : Type 0
Wanted = List ℕ × Sizing

abbrev pub sized : Wanted → Metric → Result Font TurnFault
sized wanted metric =
    with_fault Kind (font_size (design_of metric) wanted.1)
    >>= λ size. Ok (record { name = wanted.0; size = size; metric = metric })

-- The metric of the file of its name, then the size; the metric is read also where the font is there.
abbrev pub loaded_font : List Held → Wanted → Result Font TurnFault
loaded_font held wanted = with_fault of_load (metric_named held wanted.0) >>= sized wanted

-- the number of a font, the fonts, and the environment
abbrev pub Placed : Type 0
Placed = (FontNo × List Font) × Nest

abbrev pub with_facts : Nest → Font → Nest
with_facts nest font = record nest { fonts = nest.fonts ++ facts_in font ∷ [] }

-- FontsFull comes only where the font is new.
abbrev pub placed_as : Option FontNo → Font → List Font → Nest → Result Placed TurnFault
placed_as (Some number) font fonts nest = Ok ((number, fonts), nest)
placed_as None font fonts nest =
    with_fault of_env (next_font nest) >>= λ number. Ok ((number, fonts ++ font ∷ []), with_facts nest font)

-- Fonts are equal where their names, as they are spelt, and their sizes are.
abbrev pub placed : List Font → Nest → Font → Result Placed TurnFault
placed fonts nest font = placed_as (number_of fonts font.name font.size) font fonts nest

-- a font that is wanted, with its metric among the files that are held
abbrev pub placed_wanted : List Held → Wanted → List Font → Nest → Result Placed TurnFault
placed_wanted held wanted fonts nest = loaded_font held wanted >>= placed fonts nest
