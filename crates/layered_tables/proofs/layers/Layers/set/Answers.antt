use Rattle.std.proofs.Common.{◌∙◌, inl, inr, refl, arith}
use Rattle.layered_tables.proofs.Sound.{sound-longer, sound-set, sound-set_first, set_everywhere, set_again, set_first}
use Rattle.layered_tables.proofs.layers.Layers.set.Goals as goal
use Rattle.layered_tables.proofs.layers.Layers.set.Goals.{then-global-via-then-global, then-global-via-else-global+then-self-eq0}

pub invariant_of-self : goal.invariant_of-self
invariant_of-self g c = (sound-longer _ _ _ _ c.self.invariant.0 c.grow.ensures.same c.grow.ensures.longer, c.self.invariant.1)

pub invariant_of-self-then-global : goal.invariant_of-self-then-global
invariant_of-self-then-global g c = (
  sound-set _ _ _ _ _ c.args.place c.args.value 1 c.self.invariant.0 c.grow.ensures.same c.grow.ensures.longer (inl refl)
      c.exchange-old.ensures.table c.exchange-old.ensures.len,
  c.self.invariant.1,
)

pub returns-then-global-clause-ok : goal.returns-then-global-clause-ok
returns-then-global-clause-ok g c =
    rw (← c.self.view_is) (set_everywhere _ _ _ _ _ c.args.place c.args.value c.args.global c.grow.ensures.same c.exchange-old.ensures.table
    (elim c.then-global.branch [
      | then-global-via-then-global w ↦ inl w.if-global.true
      | then-global-via-else-global+then-self-eq0 w ↦ inr w.if-self-eq0.true
    ]))

pub invariant_of-self-then-member-member_of : goal.invariant_of-self-then-member-member_of
invariant_of-self-then-member-member_of g c =
    let member = rw c.deref.ensures.value at c.member_of.ensures in (
      sound-set _ _ _ _ _ c.args.place c.args.value _ c.self.invariant.0 c.grow.ensures.same c.grow.ensures.longer (inr (c.if-member-member_of.true ∙ member))
          c.exchange-old-then-member-member_of.ensures.table c.exchange-old-then-member-member_of.ensures.len,
      c.self.invariant.1,
    )

pub returns-then-member-member_of-clause-ok : goal.returns-then-member-member_of-clause-ok
returns-then-member-member_of-clause-ok g c =
    let member = rw c.deref.ensures.value at c.member_of.ensures in
    rw (← c.self.view_is, c.if-global.false) (set_again _ _ _ _ _ _ c.args.place c.args.value c.grow.ensures.same c.exchange-old-then-member-member_of.ensures.table
    (omega arith) (c.if-member-member_of.true ∙ member) c.self.invariant.0.saved (c.self.invariant.0.homes c.args.place))

pub invariant_of-self-in_err-save : goal.invariant_of-self-in_err-save
invariant_of-self-in_err-save g c =
    let items = c.in_err-save.ensures.unsaved in
    let grown = sound-longer _ _ _ _ c.self.invariant.0 c.grow.ensures.same c.grow.ensures.longer in
    (rw items (sound-longer _ _ _ _ grown c.in_err-save.ensures.same (omega (arith, c.save.ensures.len))), c.self.invariant.1)

pub invariant_of-self-2 : goal.invariant_of-self-2
invariant_of-self-2 g c = (
  sound-set_first _ _ _ _ _ _ c.args.place c.args.value c.self.invariant.0 c.grow.ensures.same c.grow.ensures.longer c.in_ok-grow.ensures.room (omega arith)
      c.in_ok-save.ensures.table c.save.ensures.len c.in_ok-save.ensures.saved,
  c.self.invariant.1,
)

pub returns-clause-ok : goal.returns-clause-ok
returns-clause-ok g c =
    rw (← c.self.view_is, c.if-global.false) (set_first _ _ _ _ _ c.args.place c.args.value c.grow.ensures.same c.in_ok-save.ensures.table (omega arith) _ c.in_ok-save.ensures.saved)
