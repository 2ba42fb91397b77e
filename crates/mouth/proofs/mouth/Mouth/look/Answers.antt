use Rattle.std.proofs.Common.{◌≡◌, subst, Ok}
use Rattle.mouth.specs.Tokens.{looked}
use Rattle.mouth.specs.Keeping.{MouthView, AreTold, reading}
use Rattle.mouth.specs.contracts.mouth.Mouth.{the_view}
use Rattle.mouth.proofs.Numbers.{open_after_read, told_after_read}
use Rattle.mouth.proofs.Mouths.{kept_mouth, with_innermost, look_ok}
use Rattle.mouth.proofs.mouth.Mouth.look.Goals as goal

pub invariant_of-self : goal.invariant_of-self
invariant_of-self g c =
    let inside = c.self.inside in
    let next = c.in_err-next.ensures in
    kept_mouth inside.innermost c.next.new.self _ inside.names c.next.new.names inside.begun c.self.invariant next.same.1 next.held next.names

pub invariant_of-self-2 : goal.invariant_of-self-2
invariant_of-self-2 g c =
    let inside = c.self.inside in
    let next = c.in_ok-next.ensures in
    kept_mouth inside.innermost c.next.new.self _ inside.names c.next.new.names inside.begun c.self.invariant next.same.1 next.held next.names

pub returns-in_err-next-clause-opened : goal.returns-in_err-next-clause-opened
returns-in_err-next-clause-opened g c =
    let opened = rw (← c.self.view_is) at c.requires.opened in
    let next = c.in_err-next.ensures in
    rw next.same.1 (open_after_read _ _ _ _ c.self.invariant.apart next.reads opened)

pub returns-in_err-next-clause-told : goal.returns-in_err-next-clause-told
returns-in_err-next-clause-told g c =
    let opened = rw (← c.self.view_is) at c.requires.opened in
    let next = c.in_err-next.ensures in
    rw (next.same.1, ← c.self.view_is) (λ told. (rw next.reads.2.0 told.0, told_after_read _ _ _ _ c.self.invariant.apart next.reads opened told.1))

pub returns-clause-opened : goal.returns-clause-opened
returns-clause-opened g c =
    let opened = rw (← c.self.view_is) at c.requires.opened in
    let next = c.in_ok-next.ensures in
    rw next.same.1 (open_after_read _ _ _ _ c.self.invariant.apart next.reads opened)

pub returns-clause-told : goal.returns-clause-told
returns-clause-told g c =
    let opened = rw (← c.self.view_is) at c.requires.opened in
    let next = c.in_ok-next.ensures in
    rw (next.same.1, ← c.self.view_is) (λ told. (rw next.reads.2.0 told.0, told_after_read _ _ _ _ c.self.invariant.apart next.reads opened told.1))

pub returns-clause-exact : goal.returns-clause-exact
returns-clause-exact g c =
    let opened = rw (← c.self.view_is) at c.requires.opened in
    let next = c.in_ok-next.ensures in
    let codes = g.C.CodeTable.codes c.args.codes.now in
    let old = g.F.Files.state c.args.files.now in
    let new = g.F.Files.state c.next.new.files in
    let now = with_innermost (the_view c.self.inside) c.next.new.self c.next.new.names in
    let P : MouthView → Type 0 = λ mouth. AreTold mouth old → looked codes (reading mouth old) ≡ Ok (c.in_ok-next.field-0, reading now new) in
    subst P c.self.view_is (λ told.
    look_ok codes (the_view c.self.inside) c.next.new.self c.next.new.names c.in_ok-next.field-0 old new c.self.invariant.apart opened next.reads (next.exact told.1.0))
