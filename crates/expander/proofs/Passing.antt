-- Conditionals that are passed over, one after the other.
use Rattle.std.proofs.Common.{◌≡◌, ◌<◌, ◌+◌, ℕ, zero, suc, refl, arith, Ok}
use Rattle.ts_base.specs.Agreement.{Cause, Determined, Counted, Free, AgreesFault}
use Rattle.env_groups.specs.Environments.{Nest}
use Rattle.mouth.specs.Reading.{Reading, Stop}
use Rattle.raw_texts.specs.declared.limb.Limb.TheVariants as limbs
use Rattle.expander.specs.declared.fault.StepFault.{StepFault}
use Rattle.expander.specs.Conditionals.{branch_ended, passed_over}

-- One more is passed over.
pub over_on : (nest : Nest) (n m : ℕ) (r r1 : Reading) → n ≡ m + 1 → branch_ended nest limbs.Else r ≡ Ok r1 → passed_over nest n r ≡ passed_over nest m r1
unfolding passed_over
over_on nest zero m r r1 more is = absurd (omega (arith, more))
over_on nest (suc n) m r r1 more is = let same : n ≡ m = omega (arith, more) in rw (is, same) refl

pub over_done : (nest : Nest) (n : ℕ) (r : Reading) → n ≡ 0 → passed_over nest n r ≡ Ok r
unfolding passed_over
over_done nest zero r none = refl
over_done nest (suc n) r none = absurd (omega (arith, none))

-- One isn't.
pub over_refused : (cause : Cause) (nest : Nest) (n : ℕ) (r : Reading) (e : Stop StepFault) → 0 < n → AgreesFault cause e (branch_ended nest limbs.Else r) → AgreesFault cause e (passed_over nest n r)
unfolding passed_over
over_refused Determined nest zero r e more refuses = absurd (omega (arith, more))
over_refused Determined nest (suc n) r e more refuses = rw refuses refl
over_refused Counted nest n r e more refuses = tt
over_refused Free nest n r e more refuses = tt
