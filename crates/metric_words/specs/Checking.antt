-- The first bad word of a metric file: what is wrong with each word, in the order of the file, and the fault of the first.
use Rattle.std.specs.Prelude.{◌≡◌, ℕ, zero, suc, ◌+◌, ◌*◌, ◌<◌, List, [], ◌∷◌, ◌++◌, Option, Some, None, get_or, Result, Ok, Err}
use Rattle.ts_geometry.specs.declared.fault.BadKind.{BadKind}
use Rattle.ts_geometry.specs.declared.fault.MetricFault.{MetricFault}
use Rattle.ts_geometry.specs.declared.fault.MetricFault.TheVariants.{Bad, NoMemory}
use Rattle.ts_base.specs.Agreement.{Cause, Determined, Free}

-- What the words from that one on give, each with what is wrong with it; or the fault of the first bad one, at its first byte.
abbrev pub checked : {A : Type 0} → ℕ → List (Option BadKind) → A → Result A MetricFault
checked at [] value = Ok value
checked at (None ∷ kinds) value = checked (at + 1) kinds value
checked at (Some kind ∷ kinds) value = Err (Bad kind (4 * at))

-- so many words that can't be bad
abbrev pub good : ℕ → List (Option BadKind)
good zero = []
good (suc n) = None ∷ good n

-- what is wrong with the words of one part after another
abbrev pub joined : List (List (Option BadKind)) → List (Option BadKind)
joined [] = []
joined (part ∷ parts) = part ++ joined parts

-- The word of that number is bad in this way, and no word before it is bad.
pub record IsFirstBad (kinds : List (Option BadKind)) (i : ℕ) (kind : BadKind) : Type 0 where
  pub bad : get_or kinds i None ≡ Some kind
  pub good : (j : ℕ) → j < i → get_or kinds j None ≡ None

-- the bytes determine each fault but want of memory
abbrev pub cause : MetricFault → Cause
cause (Bad kind at) = Determined
cause NoMemory = Free
