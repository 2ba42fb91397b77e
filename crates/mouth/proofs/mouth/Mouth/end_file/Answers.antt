use Rattle.std.proofs.Common.{◌≡◌, arith, reverse, subst, Ok}
use Rattle.mouth.specs.Tokens.{file_ended}
use Rattle.mouth.specs.Keeping.{MouthView, AreTold, reading}
use Rattle.mouth.specs.contracts.mouth.Mouth.{the_view}
use Rattle.mouth.proofs.Mouths.{gone_files, gone_on, ended_ok}
use Rattle.mouth.proofs.mouth.Mouth.end_file.Goals as goal

pub returns-clause-opened : goal.returns-clause-opened
returns-clause-opened g c =
    let opened = rw (← c.self.view_is) at c.requires.opened in
    let inside = c.self.inside in
    let gone = gone_files inside.innermost c.in-Some.file (reverse inside.below.items) (reverse c.pop_file.new.below.items) _ (g.F.Files.state c.close.new.files)
    c.in-Some.ensures c.self.invariant.apart opened (rw c.replace-ended.ensures.value at c.close.ensures.closes) in
    rw c.replace-ended.ensures.after gone.opened

pub returns-clause-told : goal.returns-clause-told
returns-clause-told g c =
    let opened = rw (← c.self.view_is) at c.requires.opened in
    let inside = c.self.inside in
    let closes = rw c.replace-ended.ensures.value at c.close.ensures.closes in
    let gone = gone_files inside.innermost c.in-Some.file (reverse inside.below.items) (reverse c.pop_file.new.below.items) _ (g.F.Files.state c.close.new.files)
    c.in-Some.ensures c.self.invariant.apart opened closes in
    rw (c.replace-ended.ensures.after, ← c.self.view_is) (λ told. (rw closes.1.0 told.0, gone.told told.1))

pub returns-clause-exact : goal.returns-clause-exact
returns-clause-exact g c =
    let opened = rw (← c.self.view_is) at c.requires.opened in
    let inside = c.self.inside in
    let closes = rw c.replace-ended.ensures.value at c.close.ensures.closes in
    let gone = gone_files inside.innermost c.in-Some.file (reverse inside.below.items) (reverse c.pop_file.new.below.items) _ (g.F.Files.state c.close.new.files)
    c.in-Some.ensures c.self.invariant.apart opened closes in
    let none : inside.inside ≡ 0 = omega (arith, c.if-self-gt0.false) in
    let old = g.F.Files.state c.args.files.now in
    let new = g.F.Files.state c.close.new.files in
    let now = gone_on (the_view inside) c.in-Some.file (reverse c.pop_file.new.below.items) in
    let P : MouthView → Type 0 = λ mouth. AreTold mouth old → file_ended (reading mouth old) ≡ Ok (reading now new) in
    rw c.replace-ended.ensures.after
    (subst P c.self.view_is (λ told. ended_ok (the_view inside) c.in-Some.file (reverse c.pop_file.new.below.items) old new none closes.1.0 gone.same))
