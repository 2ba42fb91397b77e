-- The units of the fonts that are selected (The TeXbook, chapter 10; pTeX).
use Rattle.std.specs.Prelude.{ℤ, pos, List, slice_get, Option, Some, None}
use Rattle.ts_geometry.specs.declared.direction.Dir.{Dir}
use Rattle.ts_geometry.specs.declared.direction.Dir.TheVariants as dirs
use Rattle.box_tree.specs.declared.item.FontNo.{FontNo}
use Rattle.env_groups.specs.declared.font.FontFacts.{FontFacts}
use Rattle.env_groups.specs.declared.font.FontSlot.{FontSlot}
use Rattle.env_groups.specs.declared.font.FontSlot.TheVariants as slots
use Rattle.env_groups.specs.Environments.{Nest, font_at}
use Rattle.scan_numbers.specs.declared.measure.FontUnit.{FontUnit}
use Rattle.scan_numbers.specs.declared.measure.FontUnit.TheVariants.{Em, Ex, Zw, Zh}

-- what is known of a font, where one is selected
abbrev pub facts_of : Option FontNo → List FontFacts → Option FontFacts
facts_of (Some font) fonts = slice_get fonts font.0
facts_of None fonts = None

abbrev pub facts_at : Nest → FontSlot → Option FontFacts
facts_at nest slot = facts_of (font_at nest slot) nest.fonts

-- the slot of the Japanese font of a direction
abbrev pub japanese_slot : Dir → FontSlot
japanese_slot dirs.Yoko = slots.Yoko
japanese_slot dirs.Tate = slots.Tate
japanese_slot dirs.Dtou = slots.Yoko

abbrev pub slot_of : FontUnit → Nest → FontSlot
slot_of Em nest = slots.Roman
slot_of Ex nest = slots.Roman
slot_of Zw nest = japanese_slot nest.situation.dir
slot_of Zh nest = japanese_slot nest.situation.dir

abbrev pub fact : FontUnit → Option FontFacts → ℤ
fact unit None = pos 0
fact Em (Some f) = f.em.0
fact Ex (Some f) = f.ex.0
fact Zw (Some f) = f.zw.0
fact Zh (Some f) = f.zh.0

-- how much a unit of the fonts is, in scaled points
unfoldable pub font_unit : FontUnit → Nest → ℤ
font_unit unit nest = fact unit (facts_at nest (slot_of unit nest))
