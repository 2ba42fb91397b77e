-- Where the definition of a number stands among definitions, so that it is found without a search.
use Rattle.std.specs.Prelude.{◌≡◌, ℕ, ◌+◌, List, [], ◌∷◌, Option, Some, None, Bool, ℤ, slice_get, if◌then◌else◌}
use Rattle.std.specs.Ordering.{int_eq}
use Rattle.std.specs.HashMap.{HashMap, get}
use Rattle.ts_outside.specs.declared.name.NameFault.{NameFault}
use Rattle.ts_outside.specs.declared.name.NameFault.TheVariants as names
use Rattle.dvi_commands.specs.declared.fault.DviKind.TheVariants as kinds
use Rattle.dvi_commands.specs.declared.font.FontDef.{FontDef}
use Rattle.dvi_structure.specs.declared.definitions.Numbers.{Numbers}
use Rattle.dvi_structure.specs.Structure.{is_same_font}
use Rattle.dvi_structure.specs.declared.refusal.Refusal.{Refusal}
use Rattle.dvi_structure.specs.declared.refusal.Refusal.TheVariants as refusals

-- a definition of these numbers and this name
abbrev pub named_font : Numbers → List ℕ → FontDef
named_font n name = record {
  number = n.number;
  check_sum = n.check_sum;
  size = n.size;
  design = n.design;
  name = name;
}

abbrev pub place_from : ℕ → List FontDef → ℤ → Option ℕ
place_from at [] n = None
place_from at (f ∷ fs) n = if int_eq f.number n then Some at else place_from (at + 1) fs n

abbrev pub place_of : List FontDef → ℤ → Option ℕ
place_of fonts n = place_from 0 fonts n

-- whether the definition that a number has is this one
abbrev pub compared : FontDef → Option FontDef → Option Bool
compared f None = None
compared f (Some g) = Some (is_same_font f g)

abbrev pub at_place : List FontDef → Option ℕ → Option FontDef
at_place fonts None = None
at_place fonts (Some place) = slice_get fonts place

-- The map has the place of each number that is defined.
pub record ArePlaces {S : Type 0} (fonts : List FontDef) (places : HashMap ℤ ℕ S) : Type 0 where
  pub at : (n : ℤ) → get int_eq places n ≡ place_of fonts n

abbrev pub name_refused : NameFault → Refusal
name_refused names.BadName = refusals.Kind kinds.FontDef
name_refused names.NoMemory = refusals.NoMemory
