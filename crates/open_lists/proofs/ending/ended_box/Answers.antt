use Rattle.std.proofs.Common.{false}
use Rattle.open_lists.specs.EndCodes.{codes_in}
use Rattle.open_lists.proofs.ending.ended_box.Goals as goal

pub packed-requires-clause-sound : goal.packed-requires-clause-sound
packed-requires-clause-sound g c =
    let built = c.requires.built in
    rw (c.in-Ok.ensures built.entries built.stands)
    (c.finished_lists_are_sound.ensures.entries c.args.dir (codes_in c.args.env.now) false built.entries c.skips_are_sound.ensures built.sound)
