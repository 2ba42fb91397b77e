use Rattle.std.proofs.Common.{refl, true}
use Rattle.std.specs.Prelude.{pos}
use Rattle.env_groups.specs.declared.key.IntKey.TheVariants as keys
use Rattle.env_groups.specs.declared.parameter.IntParam.TheVariants.{DeadCycles}
use Rattle.main_control.proofs.Going.{apart_going}
use Rattle.main_control.proofs.Boxing.{revived_keeps}
use Rattle.main_control.proofs.control.Control.revive.Goals as goal

pub returns-clause-going : goal.returns-clause-going
returns-clause-going c =
    let was = rw (← c.self.view_is) at c.requires.going in
    let made = c.in_ok-set_int.ensures.exact in
    let kept = revived_keeps c.self.inside.env c.set_int.new.self made in
    apart_going _ _ was was.readable (c.environments_stay_fit.ensures.int _ _ _ (keys.Param DeadCycles) (pos 0) true made was.fit) kept.0 kept.1 (record { fonts = refl; table = refl; lists = refl })
