use Rattle.std.proofs.Common.{w64, ap, sym, ◌∙◌}
use Rattle.std.specs.Option.{ok_or}
use Rattle.std.proofs.lemmas.Int.{to_z-of_z}
use Rattle.env_groups.specs.declared.fault.EnvFault.TheVariants.{CodeRange}
use Rattle.env_groups.proofs.Rows.{spacings, set_to}
use Rattle.env_groups.proofs.env.Env.set_spacing.Goals as goal

pub returns-clause-exact : goal.returns-clause-exact
returns-clause-exact c =
    let value = rw (to_z-of_z w64 c.args.value c.ranges.value) at c.new.ensures in
    let stands = ap (λ o. ok_or o CodeRange) (sym value ∙ c.in_ok-spacing.ensures.ok_part) in
    let is = c.in_ok-set.ensures.ok in
    rw (← c.self.view_is) (set_to spacings c.self.inside _ _ c.args.global _ _ stands is c.self.invariant.tall.spacings)
