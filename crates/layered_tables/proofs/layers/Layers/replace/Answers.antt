use Rattle.std.proofs.Common.{inr}
use Rattle.layered_tables.proofs.Sound.{sound-longer, sound-set, replaced}
use Rattle.layered_tables.proofs.layers.Layers.replace.Goals as goal

pub invariant_of-self : goal.invariant_of-self
invariant_of-self g c = (sound-longer _ _ _ _ c.self.invariant.0 c.grow.ensures.same c.grow.ensures.longer, c.self.invariant.1)

pub invariant_of-self-2 : goal.invariant_of-self-2
invariant_of-self-2 g c =
    let member = rw c.deref.ensures.value at c.member_of-member.ensures in (
      sound-set _ _ _ _ _ c.args.place c.args.value _ c.self.invariant.0 c.grow.ensures.same c.grow.ensures.longer (inr member)
          c.exchange-old.ensures.table c.exchange-old.ensures.len,
      c.self.invariant.1,
    )

pub returns-clause-ok : goal.returns-clause-ok
returns-clause-ok g c =
    let member = rw c.deref.ensures.value at c.member_of-member.ensures in
    rw (← c.self.view_is) (replaced _ _ _ _ _ c.args.place c.args.value _ c.grow.ensures.same member c.exchange-old.ensures.table c.self.invariant.0.saved (c.self.invariant.0.homes c.args.place))
