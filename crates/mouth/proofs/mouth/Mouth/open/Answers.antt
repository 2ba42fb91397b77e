use Rattle.std.proofs.Common.{◌≤◌, ◌∷◌, length, reverse, arith}
use Rattle.mouth.specs.Keeping.{numbers}
use Rattle.mouth.specs.contracts.mouth.Mouth.{the_view}
use Rattle.mouth.proofs.Numbers.{open_kept, told_kept}
use Rattle.mouth.proofs.Sizing.{opened_size, same_size}
use Rattle.mouth.proofs.Mouths.{opened_mouth, opened_files, open_ok}
use Rattle.mouth.proofs.mouth.Mouth.open.Goals as goal

pub returns-in_err-file-clause-opened : goal.returns-in_err-file-clause-opened
returns-in_err-file-clause-opened g c =
    let opened = rw (← c.self.view_is) at c.requires.opened in
    rw c.reserve.ensures.items (open_kept (numbers (the_view c.self.inside)) (g.F.Files.state c.args.files.now) (g.F.Files.state c.open.new.files) c.in_err-file.ensures.leaves opened)

pub returns-in_err-file-clause-told : goal.returns-in_err-file-clause-told
returns-in_err-file-clause-told g c =
    let opened = rw (← c.self.view_is) at c.requires.opened in
    let keeps = c.in_err-file.ensures.leaves in
    rw (c.reserve.ensures.items, ← c.self.view_is) (λ told. (rw keeps.0 told.0, told_kept (numbers (the_view c.self.inside)) (g.F.Files.state c.args.files.now) (g.F.Files.state c.open.new.files) keeps opened told.1))

pub returns-in_err-file-clause-size : goal.returns-in_err-file-clause-size
returns-in_err-file-clause-size g c =
    let old = g.F.Files.state c.args.files.now in
    let new = g.F.Files.state c.open.new.files in
    let same = same_size (the_view c.self.inside) old new in
    rw (c.reserve.ensures.items, ← c.self.view_is) (omega (arith, same))

pub invariant_of-self-2 : goal.invariant_of-self-2
invariant_of-self-2 g c =
    let inside = c.self.inside in
    let readable = rw (← c.self.view_is) at c.requires.readable in
    let opened = rw (← c.self.view_is) at c.requires.opened in
    let few : length (reverse inside.below.items) ≤ 13 = omega (arith, c.if-count-ge-MOST_FILES.false, c.count.ensures) in
    let file = c.in_ok-file.ensures in
    rw (c.replace-below.ensures.after, c.push_file.ensures, c.reserve.ensures.items, c.replace-below.ensures.value)
    (opened_mouth inside.innermost c.in_ok-file.file (reverse inside.below.items) inside.names inside.begun (g.F.Files.state c.args.files.now) c.self.invariant few readable file.pending file.leaves.0 opened)

pub returns-clause-opened : goal.returns-clause-opened
returns-clause-opened g c =
    let inside = c.self.inside in
    let opened = rw (← c.self.view_is) at c.requires.opened in
    let left = opened_files c.in_ok-file.file (inside.innermost ∷ reverse inside.below.items) (g.F.Files.state c.args.files.now) (g.F.Files.state c.open.new.files) c.in_ok-file.ensures.leaves opened in
    rw (c.replace-below.ensures.after, c.push_file.ensures, c.reserve.ensures.items, c.replace-below.ensures.value) left.opened

pub returns-clause-told : goal.returns-clause-told
returns-clause-told g c =
    let inside = c.self.inside in
    let opened = rw (← c.self.view_is) at c.requires.opened in
    let file = c.in_ok-file.ensures in
    let left = opened_files c.in_ok-file.file (inside.innermost ∷ reverse inside.below.items) (g.F.Files.state c.args.files.now) (g.F.Files.state c.open.new.files) file.leaves opened in
    rw (c.replace-below.ensures.after, c.push_file.ensures, c.reserve.ensures.items, c.replace-below.ensures.value, ← c.self.view_is)
    (λ told. (rw file.leaves.2.0 told.0, (file.told told.0, left.told told.1)))

pub returns-clause-exact : goal.returns-clause-exact
returns-clause-exact g c =
    let inside = c.self.inside in
    let opened = rw (← c.self.view_is) at c.requires.opened in
    let few : length (reverse inside.below.items) ≤ 13 = omega (arith, c.if-count-ge-MOST_FILES.false, c.count.ensures) in
    let file = c.in_ok-file.ensures in
    let left = opened_files c.in_ok-file.file (inside.innermost ∷ reverse inside.below.items) (g.F.Files.state c.args.files.now) (g.F.Files.state c.open.new.files) file.leaves opened in
    rw (c.replace-below.ensures.after, c.push_file.ensures, c.reserve.ensures.items, c.replace-below.ensures.value, ← c.self.view_is)
    (λ told. open_ok (the_view inside) c.args.name.now c.in_ok-file.file (g.F.Files.state c.args.files.now) (g.F.Files.state c.open.new.files) few told.0 file.opens file.leaves.2.0 left.same)

pub returns-clause-size : goal.returns-clause-size
returns-clause-size g c =
    let inside = c.self.inside in
    let more = opened_size (the_view inside) c.in_ok-file.file (g.F.Files.state c.args.files.now) (g.F.Files.state c.open.new.files) c.in_ok-file.ensures.size in
    rw (c.replace-below.ensures.after, c.push_file.ensures, c.reserve.ensures.items, c.replace-below.ensures.value, ← c.self.view_is) more
