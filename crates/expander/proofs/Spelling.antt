-- The characters of a name, and turns of the loop that reads them.
use Rattle.std.proofs.Common.{◌≡◌, ◌<◌, ◌+◌, ◌*◌, ℕ, Bool, true, false, List, [], ◌∷◌, ◌++◌, Option, Some, None, Result, Ok, Err, refl, arith, ◌∙◌}
use Rattle.std.specs.Prelude.{if◌then◌else◌}
use Rattle.ts_base.specs.Agreement.{Cause, Determined, Counted, Free, AgreesFault, Agrees, with_fault}
use Rattle.jis_codes.specs.declared.Char.{Char}
use Rattle.tok_lists.specs.declared.token.Token.{Token}
use Rattle.mouth.specs.Reading.{Stop, at_place, place_of, stop_cause}
use Rattle.mouth.specs.Sizes.{size}
use Rattle.expander.specs.declared.fault.StepFault.{StepFault}
use Rattle.expander.specs.declared.fault.StepFault.TheVariants as faults
use Rattle.expander.specs.Faults.{step_cause, stopped}
use Rattle.expander.specs.Worlds.{World, Outcome}
use Rattle.expander.specs.Naming.{char_of, ends_name}
use Rattle.expander.specs.Steps.{Next, Chars, chars_with, chars_on, chars_step}
use Rattle.expander.specs.Expansion.{rank, below, run}
use Rattle.expander.proofs.Equations.{run_is, below_run}
use Rattle.expander.proofs.Falling.{bind_same}
use Rattle.expander.proofs.Sized.{next_size}

with_same : (k : ℕ) (before : List Char) (found : Option Char) (token : Token) (w : World) → 8 * size w.at + 1 < k → chars_with (below k run) before found token w ≡ chars_with run before found token w
with_same k before (Some c) token w less = below_run k (Chars (before ++ c ∷ [])) w less
with_same k before None token w less = refl

pub chars_is : (before : List Char) (w : World) → run (Chars before) w ≡ chars_step run before w
unfolding chars_step
chars_is before w = run_is (Chars before) w ∙ rw (below_run (rank (Chars before) w) Next w (omega arith))
    (bind_same (run Next w) _ _ (λ t from. let fewer = next_size w t from in with_same (rank (Chars before) w) before (char_of t.0) t.0 t.1 (omega (arith, fewer))))

-- A character is one of the name, and the loop goes on.
pub chars_turn : (before : List Char) (w v : World) (t : Token) (c : Char) → run Next w ≡ Ok (t, v) → char_of t ≡ Some c → run (Chars before) w ≡ run (Chars (before ++ c ∷ [])) v
unfolding chars_step
chars_turn before w v t c reads is = chars_is before w ∙ rw (reads, is) refl

-- Something else ends the name.
pub chars_done : (before : List Char) (w v : World) (t : Token) → run Next w ≡ Ok (t, v) → char_of t ≡ None
    → run (Chars before) w ≡ (if ends_name v.nest t then Ok (before, v) else Err (stopped faults.CsnameEnd v.at))
unfolding chars_step
chars_done before w v t reads is = chars_is before w ∙ rw (reads, is) refl

pub chars_refused : (cause : Cause) (before : List Char) (w : World) (e : Stop StepFault) → AgreesFault cause e (run Next w) → AgreesFault cause e (run (Chars before) w)
unfolding chars_step
chars_refused Determined before w e refuses = chars_is before w ∙ rw refuses refl
chars_refused Counted before w e refuses = tt
chars_refused Free before w e refuses = tt

-- What the end of a name answers.
ended_as : (b : Bool) (before : List Char) (v : World) (result : Result (List Char) StepFault) → result ≡ (if b then Ok before else Err faults.CsnameEnd)
    → Agrees {Y = List Char × World} (λ list. (list, v)) (stop_cause step_cause) (with_fault (at_place (place_of v.at)) result) (if b then Ok (before, v) else Err (stopped faults.CsnameEnd v.at))
ended_as true before v result is = rw is refl
ended_as false before v result is = rw is refl

pub end_agrees : (before : List Char) (v : World) (token : Token) (result : Result (List Char) StepFault) → result ≡ (if ends_name v.nest token then Ok before else Err faults.CsnameEnd)
    → Agrees {Y = List Char × World} (λ list. (list, v)) (stop_cause step_cause) (with_fault (at_place (place_of v.at)) result) (if ends_name v.nest token then Ok (before, v) else Err (stopped faults.CsnameEnd v.at))
end_agrees before v token result is = ended_as (ends_name v.nest token) before v result is
