-- The places of a find.
use Rattle.std.proofs.Common.{ℕ, ◌≤◌, arith}
use Rattle.kcat_eyes.specs.declared.find.Find.{Find}
use Rattle.kcat_eyes.specs.declared.find.Find.TheVariants as finds
use Rattle.kcat_eyes.specs.Finds.{IsInLine}

-- What is found after a place is found after an earlier one.
pub found_later : (least later n : ℕ) (find : Find) → IsInLine later n find → least ≤ later → IsInLine least n find
found_later least later n (finds.Token token state at) found before = (omega (arith, found.0), found.1, found.2)
found_later least later n (finds.Name active from to state) found before = (found.0, omega (arith, found.1), found.2)
found_later least later n finds.Paragraph found before = omega (arith, found)
found_later least later n finds.Invalid found before = tt
found_later least later n finds.Nothing found before = tt
