-- Turns of the loop that skips cases.
use Rattle.std.proofs.Common.{◌≡◌, ◌<◌, ◌+◌, ◌∙◌, ℕ, zero, suc, Bool, true, false, Option, Some, None, Ok, refl, arith}
use Rattle.std.proofs.lemmas.Bool.{eqb-true}
use Rattle.ts_base.specs.Agreement.{Cause, Determined, Counted, Free, with_fault, AgreesFault}
use Rattle.env_groups.specs.Environments.{Nest}
use Rattle.mouth.specs.declared.allowed.Allowed.TheVariants as allowed
use Rattle.mouth.specs.Reading.{Reading, Stop}
use Rattle.mouth.specs.Changes.{changed}
use Rattle.mouth.specs.Sizes.{size}
use Rattle.raw_texts.specs.declared.skipping.Until.TheVariants as until
use Rattle.raw_texts.specs.declared.skipping.Ended.{Ended}
use Rattle.raw_texts.specs.declared.skipping.Ended.TheVariants as ended
use Rattle.raw_texts.specs.Skipping.{skipped}
use Rattle.expander.specs.declared.fault.StepFault.{StepFault}
use Rattle.expander.specs.Faults.{of_text}
use Rattle.expander.specs.Worlds.{Outcome}
use Rattle.expander.specs.Conditionals.{after_false}
use Rattle.expander.specs.Choices.{case_met, case_after, cases_before, is_or, is_first, fewer}

pub or_is : (end : Ended) → is_or end ≡ true → end ≡ ended.Or
or_is ended.Or is = refl
or_is ended.Else is = absurd cc
or_is ended.Fi is = absurd cc

-- so many cases are left, or more than there is to read
pub Lefts : Option ℕ → ℕ → Reading → Type 0
Lefts (Some n) count r = count ≡ n
Lefts None count r = size r < count

-- what the loop keeps
pub record CasesLeft (told : Type 0) (nest : Nest) (number : ℕ) (left : Option ℕ) (whole : Outcome Reading) (r : Reading) : Type 0 where
  pub count : ℕ
  pub lefts : Lefts left count r
  pub same : told → whole ≡ case_after nest number count r

first_lefts : (n : Option ℕ) (r : Reading) → Lefts n (cases_before n r) r
unfolding Lefts
first_lefts (Some n) r = refl
first_lefts None r = omega arith

pub cases_first : (told : Type 0) (nest : Nest) (number : ℕ) (n : Option ℕ) (r : Reading) → CasesLeft told nest number n (case_after nest number (cases_before n r) r) r
cases_first told nest number n r = record { count = cases_before n r; lefts = first_lefts n r; same = λ _. refl }

module _ (told : Type 0) (nest : Nest) (number : ℕ) (whole : Outcome Reading) where
  -- One case more is skipped.
  one_fewer : (left : Option ℕ) (count : ℕ) (r v : Reading) → is_first left ≡ false → Lefts left count r → size v < size r → (told → with_fault of_text (skipped nest until.Or r) ≡ Ok (ended.Or, v))
      → (told → whole ≡ case_after nest number count r) → CasesLeft told nest number (fewer left) whole v
  unfolding Lefts case_after
  one_fewer (Some zero) count r v more lefts less skips same = absurd cc
  one_fewer (Some (suc n)) zero r v more lefts less skips same = absurd (omega (arith, lefts))
  one_fewer (Some (suc n)) (suc count) r v more lefts less skips same =
      record { count = count; lefts = omega (arith, lefts); same = λ is_told. same is_told ∙ rw (skips is_told) refl }
  one_fewer None zero r v more lefts less skips same = absurd (omega (arith, lefts))
  one_fewer None (suc count) r v more lefts less skips same =
      record { count = count; lefts = omega (arith, less, lefts); same = λ is_told. same is_told ∙ rw (skips is_told) refl }

  pub cases_on : (left : Option ℕ) (r v : Reading) → CasesLeft told nest number left whole r → is_first left ≡ false → size v < size r → (told → with_fault of_text (skipped nest until.Or r) ≡ Ok (ended.Or, v))
      → CasesLeft told nest number (fewer left) whole v
  cases_on left r v was more less skips = one_fewer left was.count r v more was.lefts less skips was.same

  none_left : (left : Option ℕ) (count : ℕ) (r : Reading) → is_first left ≡ true → Lefts left count r → count ≡ 0
  unfolding Lefts
  none_left (Some n) count r none lefts = lefts ∙ eqb-true n 0 none
  none_left None count r none lefts = absurd cc

  some_left : (left : Option ℕ) (count : ℕ) (r : Reading) → is_first left ≡ false → Lefts left count r → 0 < count
  unfolding Lefts
  some_left (Some zero) count r more lefts = absurd cc
  some_left (Some (suc n)) count r more lefts = omega (arith, lefts)
  some_left None count r more lefts = omega (arith, lefts)

  none_case : (count : ℕ) (r : Reading) → count ≡ 0 → case_after nest number count r ≡ Ok (changed number allowed.Or r)
  unfolding case_after
  none_case zero r none = refl
  none_case (suc count) r none = absurd (omega (arith, none))

  pub cases_done : (left : Option ℕ) (r : Reading) → CasesLeft told nest number left whole r → is_first left ≡ true → told → whole ≡ Ok (changed number allowed.Or r)
  cases_done left r was none is_told = was.same is_told ∙ none_case was.count r (none_left left was.count r none was.lefts)

  met_end : (next : Reading → Outcome Reading) (end : Ended) (r : Reading) → is_or end ≡ false → case_met next number end r ≡ Ok (after_false number end r)
  met_end next ended.Or r other = absurd cc
  met_end next ended.Else r other = refl
  met_end next ended.Fi r other = refl

  end_case : (count : ℕ) (end : Ended) (r v : Reading) → 0 < count → is_or end ≡ false → with_fault of_text (skipped nest until.Or r) ≡ Ok (end, v)
      → case_after nest number count r ≡ Ok (after_false number end v)
  unfolding case_after
  end_case zero end r v some other skips = absurd (omega (arith, some))
  end_case (suc count) end r v some other skips = rw skips (met_end (case_after nest number count) end v other)

  pub cases_ended : (left : Option ℕ) (end : Ended) (r v : Reading) → CasesLeft told nest number left whole r → is_first left ≡ false → is_or end ≡ false
      → (told → with_fault of_text (skipped nest until.Or r) ≡ Ok (end, v)) → told → whole ≡ Ok (after_false number end v)
  cases_ended left end r v was more other skips is_told =
      was.same is_told ∙ end_case was.count end r v (some_left left was.count r more was.lefts) other (skips is_told)

  refused_case : (cause : Cause) (count : ℕ) (r : Reading) (e : Stop StepFault) → 0 < count → AgreesFault cause e (with_fault of_text (skipped nest until.Or r)) → AgreesFault cause e (case_after nest number count r)
  unfolding case_after
  refused_case Determined zero r e some refuses = absurd (omega (arith, some))
  refused_case Determined (suc count) r e some refuses = rw refuses refl
  refused_case Counted count r e some refuses = tt
  refused_case Free count r e some refuses = tt

  pub cases_refused : (cause : Cause) (left : Option ℕ) (r : Reading) (e : Stop StepFault) (was : CasesLeft told nest number left whole r) → is_first left ≡ false
      → AgreesFault cause e (with_fault of_text (skipped nest until.Or r)) → AgreesFault cause e (case_after nest number was.count r)
  cases_refused cause left r e was more refuses = refused_case cause was.count r e (some_left left was.count r more was.lefts) refuses
