use Rattle.std.proofs.Common.{w64}
use Rattle.std.proofs.lemmas.Int.{to_z-of_z}
use Rattle.env_groups.proofs.Rows.{ints, set_by}
use Rattle.env_groups.proofs.env.Env.set_int.Goals as goal

pub returns-clause-exact : goal.returns-clause-exact
returns-clause-exact c =
    let value = rw (to_z-of_z w64 c.args.value c.ranges.value) at c.new.ensures in
    let is = rw value at c.in_ok-set.ensures.ok in
    rw (← c.self.view_is) (set_by ints c.self.inside _ c.args.value c.args.global _ _ c.in_ok-place.ensures is c.self.invariant.tall.ints)
