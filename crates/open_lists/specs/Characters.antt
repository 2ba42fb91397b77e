-- What a character is in a horizontal list, by the fonts that are selected and the codes, as these are when it comes
-- (TeX: The Program, sections 1034 to 1040; pTeX). A character without a font, or which its font lacks, is no entry.
use Rattle.std.specs.Prelude.{ℕ, List, Option, Some, None, if◌then◌else◌}
use Rattle.ts_geometry.specs.declared.direction.Dir.{Dir}
use Rattle.ts_geometry.specs.declared.direction.Dir.TheVariants.{Yoko, Tate, Dtou}
use Rattle.jis_codes.specs.Kuten.{Kuten}
use Rattle.jis_codes.specs.declared.Char.{Char}
use Rattle.jis_codes.specs.declared.Char.TheVariants as chars
use Rattle.box_tree.specs.declared.item.FontNo.{FontNo}
use Rattle.tfm_load.specs.Metrics.{has_character}
use Rattle.font_store.specs.declared.metric.Metric.{Metric}
use Rattle.font_store.specs.declared.metric.Metric.TheVariants as metrics
use Rattle.font_store.specs.declared.fonts.Font.{Font}
use Rattle.font_store.specs.Store as store
use Rattle.env_groups.specs.declared.font.FontSlot.{FontSlot}
use Rattle.env_groups.specs.declared.font.FontSlot.TheVariants as slots
use Rattle.env_groups.specs.declared.parameter.DimParam.{DimParam}
use Rattle.env_groups.specs.declared.parameter.DimParam.TheVariants.{TBaselineShift, YBaselineShift}
use Rattle.env_groups.specs.CharCodes.{kind_number, pre_of, post_of}
use Rattle.env_groups.specs.Environments.{Nest, kind_at, penalty_at, font_at}
use Rattle.jlist_builder.specs.declared.character.Kinsoku.{Kinsoku}
use Rattle.jlist_builder.specs.Entries.{Entry, Japanese, European, japanese, european}
use Rattle.open_lists.specs.EndCodes.{dim_param}

-- the penalties before and after a character
abbrev pub kinsoku_at : Nest → Char → Kinsoku
kinsoku_at nest c = record { pre = pre_of (penalty_at nest c); post = post_of (penalty_at nest c) }

-- the slot of the Japanese font in lists of a direction
abbrev pub kanji_slot : Dir → FontSlot
kanji_slot Yoko = slots.Yoko
kanji_slot Tate = slots.Tate
kanji_slot Dtou = slots.Yoko

-- the parameter by which a European character is moved across
abbrev pub shift_param : Dir → DimParam
shift_param Yoko = YBaselineShift
shift_param Tate = TBaselineShift
shift_param Dtou = YBaselineShift

-- ---- by the font

abbrev pub kanji_by : Nest → Kuten → FontNo → ℕ → Metric → Option Entry
kanji_by nest cell number z (metrics.Japanese m) = Some (Japanese
    (japanese m number z cell (kind_number (kind_at nest cell)) (kinsoku_at nest (chars.Ja cell))))
kanji_by nest cell number z (metrics.Roman m) = None

abbrev pub roman_by : Nest → Dir → ℕ → FontNo → ℕ → Metric → Option Entry
roman_by nest dir code number z (metrics.Japanese m) = None
roman_by nest dir code number z (metrics.Roman m) =
    if has_character m code
    then Some (European (european m number z code (dim_param nest (shift_param dir)) (kinsoku_at nest (chars.One code))))
    else None

-- a font that is selected, where it is one of those that were added
abbrev pub by_font : (FontNo → ℕ → Metric → Option Entry) → FontNo → Option Font → Option Entry
by_font by number None = None
by_font by number (Some font) = by number font.size font.metric

abbrev pub by_number : List Font → (FontNo → ℕ → Metric → Option Entry) → Option FontNo → Option Entry
by_number fonts by None = None
by_number fonts by (Some number) = by_font by number (store.font_at fonts number)

-- ---- the entry of a character in a list of a direction

abbrev pub kanji_entry : List Font → Nest → Dir → Kuten → Option Entry
kanji_entry fonts nest dir cell = by_number fonts (λ number z m. kanji_by nest cell number z m) (font_at nest (kanji_slot dir))

abbrev pub roman_entry : List Font → Nest → Dir → ℕ → Option Entry
roman_entry fonts nest dir code = by_number fonts (λ number z m. roman_by nest dir code number z m) (font_at nest slots.Roman)

abbrev pub entry_of : List Font → Nest → Dir → Char → Option Entry
entry_of fonts nest dir (chars.Ja cell) = kanji_entry fonts nest dir cell
entry_of fonts nest dir (chars.One code) = roman_entry fonts nest dir code
