-- Fonts that are selected: a European one beside the Japanese ones, of yoko and of tate lines (The TeXbook, chapter 4; pTeX).
use Rattle.std.specs.Prelude.{Bool, List, Option, Some, None}
use Rattle.box_tree.specs.declared.item.FontNo.{FontNo}
use Rattle.env_groups.specs.declared.font.FontSlot.{FontSlot}
use Rattle.env_groups.specs.declared.font.FontSlot.TheVariants as slots
use Rattle.env_groups.specs.Environments.{Nest, font_set}
use Rattle.font_store.specs.declared.fonts.Font.{Font}
use Rattle.font_store.specs.declared.metric.Metric.{Metric}
use Rattle.font_store.specs.Store.{metric_at}
use Rattle.known_fonts.specs.Metrics.{slot_of}

abbrev pub slot_in : Option Metric → FontSlot
slot_in (Some metric) = slot_of metric
slot_in None = slots.Roman

-- where the font of a number is selected
abbrev pub slot_at : List Font → FontNo → FontSlot
slot_at fonts font = slot_in (metric_at fonts font)

abbrev pub font_selected : Nest → List Font → FontNo → Bool → Nest
font_selected nest fonts font is_global = font_set nest (slot_at fonts font) font is_global
