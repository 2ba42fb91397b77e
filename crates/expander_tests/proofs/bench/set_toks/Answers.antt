use Rattle.std.specs.Prelude.{false}
use Rattle.tok_lists.specs.StartNames.{start_names}
use Rattle.env_groups.specs.declared.key.ToksKey.TheVariants as keys
use Rattle.expander.specs.Holding.{IsPlainList}
use Rattle.expander_tests.proofs.bench.set_toks.Goals as goal

pub returns-in-Ok : goal.returns-in-Ok
returns-in-Ok c =
    let plain : IsPlainList start_names c.in_ok-list.list = rw c.in_ok-list.ensures ((tt, tt), (tt, tt)) in
    record { fit = c.environments_stay_fit.ensures.toks start_names c.args.env.now c.set_toks.new.self (keys.Register 0) c.in_ok-list.list false c.in-Ok.ensures.exact plain c.requires.fit }
