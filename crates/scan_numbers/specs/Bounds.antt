-- How far from 0 internal quantities lie (The TeXbook, chapter 24).
use Rattle.std.specs.Prelude.{ℕ, ◌≤◌, Result, Ok}
use Rattle.ts_geometry.specs.Numbers.{IsWithin, max_dimen}
use Rattle.env_groups.specs.Bounds.{IsInt}
use Rattle.scan_numbers.specs.declared.fault.ScanFault.{ScanFault}
use Rattle.scan_numbers.specs.declared.step.Step.{Step}
use Rattle.scan_numbers.specs.declared.step.Step.TheVariants.{Done}
use Rattle.scan_numbers.specs.declared.quantity.HeldGlue.{HeldGlue}
use Rattle.scan_numbers.specs.declared.quantity.Quantity.{Quantity}
use Rattle.scan_numbers.specs.declared.quantity.Quantity.TheVariants as quantities
use Rattle.scan_numbers.specs.declared.start.Start.{Start}
use Rattle.scan_numbers.specs.declared.start.Start.TheVariants as starts

-- Each number of glue is within the greatest dimension.
abbrev pub HasDimens : HeldGlue → Type 0
HasDimens g = IsWithin max_dimen g.width × IsWithin max_dimen g.stretch × IsWithin max_dimen g.shrink

-- An integer, and a measure as it is seen, is within 2^31 - 1.
abbrev pub IsBounded : Quantity → Type 0
IsBounded (quantities.Integer n) = IsInt n
IsBounded (quantities.Dimen d) = IsInt d
IsBounded (quantities.Glue g) = HasDimens g

-- A whole quantity is so.
abbrev pub BeginsBounded : Start → Type 0
BeginsBounded (starts.Internal q) = IsBounded q
BeginsBounded _ = Unit {0}

-- A number that is whole is not greater.
abbrev pub IsDoneWithin : {S : Type 0} → ℕ → Result (Step S ℕ) ScanFault → Type 0
IsDoneWithin most (Ok (Done n taken)) = n ≤ most
IsDoneWithin most _ = Unit {0}
