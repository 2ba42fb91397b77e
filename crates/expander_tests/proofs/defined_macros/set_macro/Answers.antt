use Rattle.std.proofs.Common.{◌≡◌, false, subst}
use Rattle.env_groups.specs.declared.meaning.Meaning.TheVariants as meanings
use Rattle.env_groups.specs.Environments.{Nest, meaning_set}
use Rattle.expander.specs.Holding.{AreFit}
use Rattle.expander_tests.proofs.defined_macros.set_macro.Goals as goal

pub returns-in-Ok : goal.returns-in-Ok
returns-in-Ok c =
    let same : meaning_set c.args.env.now c.args.name.0 (meanings.Macro c.args.definition) false ≡ c.set_meaning.new.self = let given = c.in-Ok.ensures.exact in cc in
    record {
      fit = λ names is fit. subst (λ (n : Nest). AreFit names n) same
          (c.environments_stay_fit.ensures.meaning names c.args.env.now c.args.name.0 (meanings.Macro c.args.definition) false (record { params = is.params; body = is.body; plain = is.braces }) fit);
    }
