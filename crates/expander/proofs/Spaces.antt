-- The next token past spaces, and turns of the loop that gives it.
use Rattle.std.proofs.Common.{◌≡◌, ◌<◌, ◌+◌, ◌*◌, ℕ, Bool, true, false, Ok, refl, arith, ap, ◌∙◌}
use Rattle.std.specs.Prelude.{if◌then◌else◌}
use Rattle.ts_base.specs.Agreement.{Cause, Determined, Counted, Free, AgreesFault}
use Rattle.tok_lists.specs.declared.token.Token.{Token}
use Rattle.mouth.specs.Reading.{Stop}
use Rattle.mouth.specs.Sizes.{size}
use Rattle.scan_numbers.specs.Contexts.{around as in_context}
use Rattle.scan_numbers.specs.Tokens.{is_space}
use Rattle.expander.specs.declared.fault.StepFault.{StepFault}
use Rattle.expander.specs.Worlds.{World, Outcome}
use Rattle.expander.specs.Steps.{Next, PastSpaces, past_on, past_step}
use Rattle.expander.specs.Expansion.{rank, below, run}
use Rattle.expander.proofs.Equations.{run_is, below_run}
use Rattle.expander.proofs.Falling.{bind_same}
use Rattle.expander.proofs.Sized.{next_size}

past_on_same : (k : ℕ) (t : Token × World) → 8 * size t.1.at + 1 < k → past_on (below k run) t ≡ past_on run t
past_on_same k t less = ap (λ (x : Outcome (Token × World)). if is_space t.0 (in_context t.1.nest t.1.at.names) then x else Ok t) (below_run k PastSpaces t.1 less)

pub past_is : (w : World) → run PastSpaces w ≡ past_step run w
unfolding past_step
past_is w = run_is PastSpaces w ∙ rw (below_run (rank PastSpaces w) Next w (omega arith))
    (bind_same (run Next w) _ _ (λ t from. let fewer = next_size w t from in past_on_same (rank PastSpaces w) t (omega (arith, fewer))))

-- A space is taken, and the loop goes on.
pub past_turn : (w v : World) (t : Token) → run Next w ≡ Ok (t, v) → is_space t (in_context v.nest v.at.names) ≡ true → run PastSpaces w ≡ run PastSpaces v
unfolding past_step
past_turn w v t reads space = past_is w ∙ rw (reads, space) refl

pub past_done : (w v : World) (t : Token) → run Next w ≡ Ok (t, v) → is_space t (in_context v.nest v.at.names) ≡ false → run PastSpaces w ≡ Ok (t, v)
unfolding past_step
past_done w v t reads other = past_is w ∙ rw (reads, other) refl

pub past_refused : (cause : Cause) (w : World) (e : Stop StepFault) → AgreesFault cause e (run Next w) → AgreesFault cause e (run PastSpaces w)
unfolding past_step
past_refused Determined w e refuses = past_is w ∙ rw refuses refl
past_refused Counted w e refuses = tt
past_refused Free w e refuses = tt
