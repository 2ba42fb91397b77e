-- What \advance, \multiply and \divide make of an integer, a dimension or glue, or nothing where
-- there is no result (The TeXbook, chapter 24; TeX: The Program, sections 1236 to 1240).
use Rattle.std.specs.Prelude.{◌≡◌, ℕ, ℤ, pos, ◌+ℤ◌, ◌*ℤ◌, neg_ℤ, int_le, Bool, true, false, ◌&&◌, not, nat_eq, nat_lt, if◌then◌else◌, Option, Some, None, option_map}
use Rattle.std.specs.Ordering.{int_eq}
use Rattle.std.specs.Int.RustNames.{int_div}
use Rattle.ts_geometry.specs.declared.glue.Glue.{Glue}
use Rattle.ts_geometry.specs.declared.glue.Order.{Order}
use Rattle.ts_geometry.specs.declared.glue.Order.TheVariants as orders
use Rattle.ts_geometry.specs.declared.measure.Sp.{Sp}
use Rattle.ts_geometry.specs.Directions.{sp}
use Rattle.ts_geometry.specs.Numbers.{max_dimen}
use Rattle.env_groups.specs.Bounds.{max_int}
use Rattle.arithmetic.specs.declared.glues.Part.{Part}

-- ---- integers

-- a number that is at most so far from 0
abbrev pub in_range : ℤ → ℤ → Option ℤ
in_range most z = if int_le (neg_ℤ most) z && int_le z most then Some z else None

-- a quotient, cut towards 0
abbrev pub quotient : ℤ → ℤ → Option ℤ
quotient z by = if int_eq by (pos 0) then None else Some (int_div z by)

abbrev pub integer_advanced : ℤ → ℤ → Option ℤ
integer_advanced old by = in_range (pos max_int) (old +ℤ by)

abbrev pub integer_multiplied : ℤ → ℤ → Option ℤ
integer_multiplied old by = in_range (pos max_int) (old *ℤ by)

abbrev pub integer_divided : ℤ → ℤ → Option ℤ
integer_divided old by = quotient old by

-- ---- dimensions

abbrev pub dimen_advanced : Sp → Sp → Option Sp
dimen_advanced old by = option_map sp (in_range (pos max_dimen) (old.0 +ℤ by.0))

abbrev pub dimen_multiplied : ℤ → Sp → Option Sp
dimen_multiplied by old = option_map sp (in_range (pos max_dimen) (old.0 *ℤ by))

abbrev pub dimen_divided : ℤ → Sp → Option Sp
dimen_divided by old = option_map sp (quotient old.0 by)

-- ---- glue

-- how high an order is
abbrev pub rank : Order → ℕ
rank orders.Normal = 0
rank orders.Fil = 1
rank orders.Fill = 2
rank orders.Filll = 3

abbrev pub part : Order → Sp → Part
part order size = record { size = size; order = order }

-- the order of a stretch or a shrink that is added: Normal where it is 0
abbrev pub order_advanced : Part → Order
order_advanced by = if int_eq by.size.0 (pos 0) then orders.Normal else by.order

-- Where an order is added to another: equal orders add, and else the higher counts, if its size
-- isn't 0.
abbrev pub part_ordered : Part → Sp → Order → Option Part
part_ordered old by order =
    if nat_eq (rank old.order) (rank order)
    then option_map (part order) (dimen_advanced old.size by)
    else (if nat_lt (rank order) (rank old.order) && not (int_eq old.size.0 (pos 0)) then Some old
    else Some (part order by))

abbrev pub part_advanced : Part → Part → Option Part
part_advanced old by = part_ordered old by.size (order_advanced by)

infixl 10 ◌>>=◌
abbrev ◌>>=◌ : {A B : Type 0} → Option A → (A → Option B) → Option B
None >>= step = None
(Some x) >>= step = step x

abbrev pub glue : Sp → Part → Part → Glue
glue width stretch shrink = record {
  width = width;
  stretch = stretch.size;
  stretch_order = stretch.order;
  shrink = shrink.size;
  shrink_order = shrink.order;
}

abbrev pub stretch_of : Glue → Part
stretch_of g = part g.stretch_order g.stretch

abbrev pub shrink_of : Glue → Part
shrink_of g = part g.shrink_order g.shrink

unfoldable pub glue_advanced : Glue → Glue → Option Glue
glue_advanced old by = do
  width ← dimen_advanced old.width by.width
  stretch ← part_advanced (stretch_of old) (stretch_of by)
  shrink ← part_advanced (shrink_of old) (shrink_of by)
  Some (glue width stretch shrink)

-- width, stretch and shrink alike, with their orders
abbrev pub each : (Sp → Option Sp) → Glue → Option Glue
each f g = do
  width ← f g.width
  stretch ← f g.stretch
  shrink ← f g.shrink
  Some (glue width (part g.stretch_order stretch) (part g.shrink_order shrink))

unfoldable pub glue_multiplied : ℤ → Glue → Option Glue
glue_multiplied by g = each (dimen_multiplied by) g

unfoldable pub glue_divided : ℤ → Glue → Option Glue
glue_divided by g = each (dimen_divided by) g
