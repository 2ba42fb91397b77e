-- What commands take from the metric of a font.
use Rattle.std.specs.Prelude.{ℕ, pos, Bool, if◌then◌else◌}
use Rattle.ts_geometry.specs.declared.measure.Sp.{Sp}
use Rattle.ts_geometry.specs.Numbers.{scale}
use Rattle.tfm_load.specs.Metrics as tfm
use Rattle.jfm_load.specs.Metrics as jfm
use Rattle.env_groups.specs.declared.font.FontFacts.{FontFacts}
use Rattle.env_groups.specs.declared.font.FontSlot.{FontSlot}
use Rattle.env_groups.specs.declared.font.FontSlot.TheVariants as slots
use Rattle.font_store.specs.declared.metric.Metric.{Metric}
use Rattle.font_store.specs.declared.metric.Metric.TheVariants.{Roman, Japanese}
use Rattle.font_store.specs.declared.fonts.Font.{Font}

abbrev pub design_of : Metric → ℕ
design_of (Roman m) = m.design
design_of (Japanese m) = m.design

abbrev pub check_sum_of : Metric → ℕ
check_sum_of (Roman m) = m.check_sum
check_sum_of (Japanese m) = m.check_sum

abbrev pub none : Sp
none = record { 0 = pos 0 }

-- Parameters 6 and 5 at a size are em and ex of a European font (The TeXbook, appendix F), zw and zh of a Japanese one (pTeX).
abbrev pub facts_of : Metric → ℕ → FontFacts
facts_of (Roman m) size =
    record { em = record { 0 = scale (tfm.param_of m 6) size }; ex = record { 0 = scale (tfm.param_of m 5) size }; zw = none; zh = none }
facts_of (Japanese m) size =
    record { em = none; ex = none; zw = record { 0 = scale (jfm.param_of m 6) size }; zh = record { 0 = scale (jfm.param_of m 5) size } }

abbrev pub facts_in : Font → FontFacts
facts_in font = facts_of font.metric font.size

abbrev pub japanese_slot : Bool → FontSlot
japanese_slot is_tate = if is_tate then slots.Tate else slots.Yoko

-- where a font is selected
abbrev pub slot_of : Metric → FontSlot
slot_of (Roman m) = slots.Roman
slot_of (Japanese m) = japanese_slot m.is_tate
