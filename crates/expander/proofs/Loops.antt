-- Turns of the loop that gives the next unexpandable token.
use Rattle.std.proofs.Common.{◌≡◌, ◌<◌, refl, arith, ap, ◌∙◌, true, false, Ok}
use Rattle.std.specs.Prelude.{if◌then◌else◌}
use Rattle.std.proofs.lemmas.Bool.{lt-ltb}
use Rattle.ts_base.specs.Agreement.{Cause, Determined, Counted, Free, ◌>>=◌, AgreesFault}
use Rattle.tok_lists.specs.declared.token.Token.{Token}
use Rattle.mouth.specs.Reading.{Reading, Stop}
use Rattle.mouth.specs.Sizes.{size}
use Rattle.expander.specs.declared.fault.StepFault.{StepFault}
use Rattle.expander.specs.Worlds.{World, world, Outcome, token_from}
use Rattle.expander.specs.Actions.{expands}
use Rattle.expander.specs.Steps.{Next, Expand, next_step}
use Rattle.expander.specs.Expansion.{rank, run, goes_on, near_on}
use Rattle.expander.proofs.Equations.{run_is, below_run}
use Rattle.expander.proofs.Falling.{bind_same, token_less}

pub next_near : (w : World) → run Next w ≡ (token_from w.nest w.at >>= near_on w)
unfolding next_step
next_near w = run_is Next w ∙ bind_same (token_from w.nest w.at) _ _ (λ t first.
    let less = token_less w.nest w.at t first in
    ap (λ (x : Outcome World). if expands w.nest t.0 then (x >>= goes_on w) else Ok (t.0, world t.1 w.nest))
    (below_run (rank Next w) (Expand t.0) (world t.1 w.nest) (omega (arith, less))))

-- A token is expanded, and the loop goes on.
pub next_turn : (w v : World) (t : Token) (r : Reading) → token_from w.nest w.at ≡ Ok (t, r) → expands w.nest t ≡ true → run (Expand t) (world r w.nest) ≡ Ok v → size v.at < size w.at
    → run Next w ≡ run Next v
next_turn w v t r reads expandable expanded less = next_near w ∙ rw (reads, expandable, expanded, lt-ltb (rank Next v) (rank Next w) (omega (arith, less))) refl

-- A token isn't expandable.
pub next_done : (w : World) (t : Token) (r : Reading) → token_from w.nest w.at ≡ Ok (t, r) → expands w.nest t ≡ false → run Next w ≡ Ok (t, world r w.nest)
next_done w t r reads not = next_near w ∙ rw (reads, not) refl

-- No token is read.
pub next_unread : (cause : Cause) (w : World) (e : Stop StepFault) → AgreesFault cause e (token_from w.nest w.at) → AgreesFault cause e (run Next w)
next_unread Determined w e reads = next_near w ∙ rw reads refl
next_unread Counted w e reads = tt
next_unread Free w e reads = tt

-- An expansion is refused.
pub next_refused : (cause : Cause) (w : World) (t : Token) (r : Reading) (e : Stop StepFault) → token_from w.nest w.at ≡ Ok (t, r) → expands w.nest t ≡ true
    → AgreesFault cause e (run (Expand t) (world r w.nest)) → AgreesFault cause e (run Next w)
next_refused Determined w t r e reads expandable expanded = next_near w ∙ rw (reads, expandable, expanded) refl
next_refused Counted w t r e reads expandable expanded = tt
next_refused Free w t r e reads expandable expanded = tt
