use Rattle.std.proofs.Common.{◌≡◌, false, subst}
use Rattle.expander.specs.Leaving.{but_meanings}
use Rattle.expander.proofs.Leaving.{setting_keeps}
use Rattle.env_groups.specs.declared.prim.PrimitiveName.TheVariants as prims
use Rattle.env_groups.specs.declared.meaning.Meaning.TheVariants as meanings
use Rattle.env_groups.specs.Environments.{Nest, meaning_set}
use Rattle.expander.specs.Holding.{AreFit}
use Rattle.expander.proofs.Fitting.{fit_after_meaning}
use Rattle.expander.proofs.naming.define_as_relax.Goals as goal

pub returns-in-Ok-clause-fit : goal.returns-in-Ok-clause-fit
returns-in-Ok-clause-fit c = λ names fit.
    let relax = meanings.Primitive prims.Relax in
    let same : meaning_set c.args.env.now c.args.name.0 relax false ≡ c.set_meaning.new.self = let given = c.in-Ok.ensures.exact in cc in
    subst (λ (n : Nest). AreFit names n) same (fit_after_meaning names c.args.env.now c.args.name.0 relax false tt fit)

pub returns-in-Ok-clause-kept : goal.returns-in-Ok-clause-kept
returns-in-Ok-clause-kept c =
    let relax = meanings.Primitive prims.Relax in
    let same : meaning_set c.args.env.now c.args.name.0 relax false ≡ c.set_meaning.new.self = let given = c.in-Ok.ensures.exact in cc in
    subst (λ (n : Nest). but_meanings n ≡ but_meanings c.args.env.now) same (setting_keeps c.args.env.now c.args.name.0 relax)
