use Rattle.std.proofs.Common.{map, reverse, ◌∙◌}
use Rattle.ts_outside.proofs.Leaving.{open_still}
use Rattle.mouth.specs.Keeping.{number_of, numbers}
use Rattle.mouth.proofs.Leaving.{leaves_closing}
use Rattle.mouth.proofs.Mouths.{closed_turn}
use Rattle.mouth.proofs.mouth.Mouth.close_all.Goals as goal

pub loop-file-init : goal.loop-file-init
loop-file-init g c =
    let opened = rw (← c.self.view_is) at c.requires in
    let first = c.self.inside.innermost in
    let below = map number_of (reverse c.self.inside.below.items) in
    let old = g.F.Files.state c.args.files.now in
    let new = g.F.Files.state c.close.new.files in
    let closes = c.close.ensures.closes in
    record {
      opened = open_still below (number_of first) old new c.self.invariant.apart.0 closes.1 opened.1;
      apart = c.self.invariant.apart.1;
      others = rw (← c.self.view_is) (leaves_closing (number_of first) below old new closes);
      counted = c.close.ensures.counted;
    }

pub loop-file-preserved : goal.loop-file-preserved
loop-file-preserved g c =
    let was = c.loop-file.invariant in
    let turn = closed_turn c.in-Some.file (reverse c.loop-file.below.items) (reverse c.pop_file.new.below.items) (numbers c.args.self) (g.F.Files.state c.args.files.now)
    (g.F.Files.state c.loop-file.files) (g.F.Files.state c.close-in-Some.new.files) c.in-Some.ensures was.apart was.opened was.others c.close-in-Some.ensures.closes in
    record {
      opened = turn.0;
      apart = turn.1;
      others = turn.2;
      counted = c.close-in-Some.ensures.counted ∙ was.counted;
    }
