-- What registers, parameters, codes and boxes hold (The TeXbook, chapter 24; pTeX).
use Rattle.std.specs.Prelude.{ℕ, ℤ, pos, negsuc, neg_ℤ, int_lt, nat_lt, Bool, true, false, if◌then◌else◌, Option, Some, None, Result, Ok, Err}
use Rattle.ts_geometry.specs.declared.direction.Dir.{Dir}
use Rattle.ts_geometry.specs.declared.glue.Glue.{Glue}
use Rattle.ts_geometry.specs.declared.measure.Sp.{Sp}
use Rattle.ts_geometry.specs.declared.measure.Measures.{Measures}
use Rattle.ts_geometry.specs.Directions.{sp}
use Rattle.ts_geometry.specs.Crossings.{seen}
use Rattle.jis_codes.specs.Kuten.{Kuten}
use Rattle.jis_codes.specs.Numbers.{cell_of}
use Rattle.jis_codes.specs.Spellings.{euc}
use Rattle.jis_codes.specs.declared.Char.{Char}
use Rattle.jis_codes.specs.declared.Char.TheVariants as chars
use Rattle.box_tree.specs.Trees.{BoxTree, size_of, dir_of}
use Rattle.box_tree.specs.declared.node.Side.{Side}
use Rattle.box_tree.specs.declared.node.Side.TheVariants.{Wd, Ht, Dp}
use Rattle.env_groups.specs.declared.fault.EnvFault.{EnvFault}
use Rattle.env_groups.specs.declared.code.CodeKey.{CodeKey}
use Rattle.env_groups.specs.declared.code.CodeKey.TheVariants as codes
use Rattle.env_groups.specs.declared.key.IntKey.{IntKey}
use Rattle.env_groups.specs.declared.key.IntKey.TheVariants as ints
use Rattle.env_groups.specs.declared.key.DimKey.{DimKey}
use Rattle.env_groups.specs.declared.key.DimKey.TheVariants as dims
use Rattle.env_groups.specs.declared.key.GlueKey.{GlueKey}
use Rattle.env_groups.specs.declared.key.GlueKey.TheVariants as glues
use Rattle.env_groups.specs.Environments.{Nest, int_at, dim_at, glue_at, box_at, code_at}
use Rattle.scan_numbers.specs.declared.fault.ScanKind.{ScanKind}
use Rattle.scan_numbers.specs.declared.fault.ScanKind.TheVariants.{RegisterRange, CodeRange}
use Rattle.scan_numbers.specs.declared.quantity.HeldGlue.{HeldGlue}
use Rattle.scan_numbers.specs.declared.quantity.Quantity.{Quantity}
use Rattle.scan_numbers.specs.declared.quantity.Quantity.TheVariants as quantities
use Rattle.scan_numbers.specs.declared.quantity.Register.{Register}
use Rattle.scan_numbers.specs.declared.quantity.Register.TheVariants as registers
use Rattle.scan_numbers.specs.declared.quantity.CodeKind.{CodeKind}
use Rattle.scan_numbers.specs.declared.quantity.CodeKind.TheVariants as kinds

-- the coercion of an internal quantity to an integer
abbrev pub integer_of : Quantity → ℤ
integer_of (quantities.Integer n) = n
integer_of (quantities.Dimen d) = d
integer_of (quantities.Glue g) = g.width

abbrev pub is_negative : ℤ → Bool
is_negative (pos n) = false
is_negative (negsuc n) = true

abbrev pub held_glue : Glue → HeldGlue
held_glue g = record {
  width = g.width.0;
  stretch = g.stretch.0;
  stretch_order = g.stretch_order;
  shrink = g.shrink.0;
  shrink_order = g.shrink_order;
}

-- what the environment holds
abbrev pub from_env : {A : Type 0} → (A → Quantity) → Result A EnvFault → Result Quantity ScanKind
from_env quantity (Ok a) = Ok (quantity a)
from_env quantity (Err fault) = Err RegisterRange

abbrev pub int_held : IntKey → Nest → Result Quantity ScanKind
int_held key nest = from_env quantities.Integer (int_at nest key)

abbrev pub dim_held : DimKey → Nest → Result Quantity ScanKind
dim_held key nest = from_env (λ d. quantities.Dimen d.0) (dim_at nest key)

abbrev pub glue_held : GlueKey → Nest → Result Quantity ScanKind
glue_held key nest = from_env (λ g. quantities.Glue (held_glue g)) (glue_at nest key)

-- ---- the measures of boxes, as the innermost list sees them

-- A box that a list holds has measures within 2^30 - 1 of 0, and what is seen of it is within 2^31 - 1. Other boxes are brought
-- within these bounds.
abbrev pub bounded : Sp → Sp
bounded s =
    if int_lt s.0 (neg_ℤ (pos 1073741823)) then sp (neg_ℤ (pos 1073741823))
    else (if int_lt (pos 1073741823) s.0 then sp (pos 1073741823) else s)

abbrev pub narrowed : ℤ → ℤ
narrowed z =
    if int_lt z (neg_ℤ (pos 2147483647)) then neg_ℤ (pos 2147483647)
    else (if int_lt (pos 2147483647) z then pos 2147483647 else z)

abbrev pub all_bounded : BoxTree → Dir → Measures
all_bounded b dir =
    seen (record { wd = bounded (size_of b).wd; ht = bounded (size_of b).ht; dp = bounded (size_of b).dp }) (dir_of b) dir

abbrev pub measure_of : Side → BoxTree → Dir → ℤ
measure_of Wd b dir = narrowed (all_bounded b dir).wd.0
measure_of Ht b dir = narrowed (all_bounded b dir).ht.0
measure_of Dp b dir = narrowed (all_bounded b dir).dp.0

-- a void box measures nothing
abbrev pub measure_if_there : Side → Option BoxTree → Dir → ℤ
measure_if_there side (Some b) dir = measure_of side b dir
measure_if_there side None dir = pos 0

abbrev pub box_held : Side → ℕ → Nest → Result Quantity ScanKind
box_held side n nest = from_env (λ b. quantities.Dimen (measure_if_there side b nest.situation.dir)) (box_at nest n)

-- ---- the codes of characters

-- the character of a number: a byte, or an internal code
abbrev pub japanese : Option Kuten → Option Char
japanese (Some k) = Some (chars.Ja k)
japanese None = None

abbrev pub char_of : ℕ → Option Char
char_of n = if nat_lt n 256 then Some (chars.One n) else japanese (cell_of euc n)

-- the code of a character, where the character may have one
abbrev pub key_of : CodeKind → Char → Option CodeKey
key_of kinds.Cat (chars.One c) = Some (codes.Cat c)
key_of kinds.Cat (chars.Ja k) = None
key_of kinds.Kcat (chars.One c) = None
key_of kinds.Kcat (chars.Ja k) = Some (codes.Kcat k)
key_of kinds.Xsp (chars.One c) = Some (codes.Xsp c)
key_of kinds.Xsp (chars.Ja k) = None
key_of kinds.InhibitXsp (chars.One c) = None
key_of kinds.InhibitXsp (chars.Ja k) = Some (codes.InhibitXsp k)
key_of kinds.Pre c = Some (codes.Pre c)
key_of kinds.Post c = Some (codes.Post c)

abbrev pub code_key : CodeKind → Option Char → Option CodeKey
code_key kind (Some c) = key_of kind c
code_key kind None = None

abbrev pub code_value : Option CodeKey → Nest → Result Quantity ScanKind
code_value (Some key) nest = Ok (quantities.Integer (code_at nest key))
code_value None nest = Err CodeRange

abbrev pub code_held : CodeKind → ℕ → Nest → Result Quantity ScanKind
code_held kind n nest = code_value (code_key kind (char_of n)) nest

-- ---- registers

-- what the register of this number holds
unfoldable pub held : Register → ℕ → Nest → Result Quantity ScanKind
held registers.Count n nest = int_held (ints.Register n) nest
held registers.Dimen n nest = dim_held (dims.Register n) nest
held registers.Skip n nest = glue_held (glues.Register n) nest
held (registers.Measure side) n nest = box_held side n nest
held (registers.Code kind) n nest = code_held kind n nest

-- the fault of a number that no register has, or no character
abbrev pub range_of : Register → ScanKind
range_of (registers.Code kind) = CodeRange
range_of _ = RegisterRange

-- No register and no character has a number of more than 16 bits, or one below 0.
unfoldable pub reading : Register → ℤ → Nest → Result Quantity ScanKind
reading r (pos n) nest = if nat_lt n 65536 then held r n nest else Err (range_of r)
reading r (negsuc n) nest = Err (range_of r)
