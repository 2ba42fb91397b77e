-- Where the selected fonts stand.
use Rattle.std.specs.Prelude.{ℕ}
use Rattle.env_groups.specs.declared.font.FontSlot.{FontSlot}
use Rattle.env_groups.specs.declared.font.FontSlot.TheVariants.{Roman, Yoko, Tate}

abbrev pub slot_place : FontSlot → ℕ
slot_place Roman = 0
slot_place Yoko = 1
slot_place Tate = 2
