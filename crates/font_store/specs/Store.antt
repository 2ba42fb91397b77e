-- Fonts by number: the fonts in the order in which they were added, each with its name as it was spelt, its size and its metric.
use Rattle.std.specs.Prelude.{◌≡◌, ℕ, Bool, List, ◌++◌, ◌==◌, ◌&&◌, Option, slice_get, position}
use Rattle.std.specs.Option.{option_map}
use Rattle.std.specs.Str.{bytes_eq}
use Rattle.box_tree.specs.declared.item.FontNo.{FontNo}
use Rattle.font_store.specs.declared.metric.Metric.{Metric}
use Rattle.font_store.specs.declared.fonts.Font.{Font}

-- Has a font this name and this size?
abbrev pub is_font : List ℕ → ℕ → Font → Bool
is_font name size font = font.size == size && bytes_eq font.name name

abbrev pub font_no : ℕ → FontNo
font_no n = record { 0 = n }

-- the number of the first font of a name and a size
abbrev pub number_of : List Font → List ℕ → ℕ → Option FontNo
number_of fonts name size = option_map font_no (position (is_font name size) fonts)

-- the font of a number
abbrev pub font_at : List Font → FontNo → Option Font
font_at fonts font = slice_get fonts font.0

abbrev pub metric_at : List Font → FontNo → Option Metric
metric_at fonts font = option_map (λ f. f.metric) (font_at fonts font)

abbrev pub name_at : List Font → FontNo → Option (List ℕ)
name_at fonts font = option_map (λ f. f.name) (font_at fonts font)

abbrev pub size_at : List Font → FontNo → Option ℕ
size_at fonts font = option_map (λ f. f.size) (font_at fonts font)

-- The fonts begin with these: fonts only come after those that are there.
abbrev pub BeginWith : List Font → List Font → Type 0
BeginWith fonts first = (more : List Font) × (fonts ≡ first ++ more)
