use Rattle.std.proofs.Common.{ℕ, refl, [], ◌∷◌}
use Rattle.ts_base.proofs.Composing.{first_refuses}
use Rattle.ts_base.specs.Agreement.{with_fault}
use Rattle.tok_lists.specs.declared.token.Token.TheVariants as tokens
use Rattle.mouth.specs.Reading.{Reading, at_place}
use Rattle.mouth.specs.Changes.{named}
use Rattle.mouth.specs.Keeping.{reading, place_in}
use Rattle.expander.specs.Faults.{step_cause, of_mouth}
use Rattle.expander.specs.Worlds.{world, put, in_world}
use Rattle.expander.specs.Naming.{spelling_of, with_relax}
use Rattle.expander.proofs.Exits.{step_refuses, world_agrees}
use Rattle.expander.proofs.naming.put_name.Goals as goal

pub returns-in_err-name-clause-exact : goal.returns-in_err-name-clause-exact
returns-in_err-name-clause-exact c = λ state.
    let e = c.in_err-name.field-0.0 in
    let place = place_in c.intern.new.mouth in
    step_refuses _ place c.from_residual.result e _ _ c.from_residual.ensures refl
    (first_refuses (step_cause e) (at_place place e) (with_fault of_mouth (named (spelling_of c.args.chars.now) (reading c.args.mouth.now state)))
    (λ (n : ℕ × Reading). in_world (world n.1 (with_relax n.0 c.args.env.now)) (put (tokens.Name (record { 0 = n.0 }) ∷ []) n.1)) (c.in_err-name.ensures.exact state))

pub returns-clause-exact : goal.returns-clause-exact
returns-clause-exact c = λ state.
    rw (c.in_ok-name.ensures.exact state, c.in_ok-define_as_relax.ensures.value)
    (world_agrees c.put.result _ (reading c.put.new.mouth state) _ _ (c.put.ensures.exact state))
