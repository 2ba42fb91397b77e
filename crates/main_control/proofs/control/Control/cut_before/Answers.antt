use Rattle.std.proofs.Common.{◌≡◌, Ok, refl}
use Rattle.jlist_builder.specs.Entries.{Cut}
use Rattle.main_control.specs.Worlds.{scene_of}
use Rattle.main_control.specs.Lists.{cut_by}
use Rattle.main_control.proofs.Sets.{stands_so}
use Rattle.main_control.proofs.Going.{marked_going}
use Rattle.main_control.proofs.control.Control.cut_before.Goals as goal

pub returns-then-cuts-clause-going : goal.returns-then-cuts-clause-going
returns-then-cuts-clause-going c =
    let was = rw (← c.self.view_is) at c.requires.going in
    marked_going Cut _ _ c.glyphs_stay_of_fonts.ensures.marked tt was refl refl (record { fonts = refl; table = refl }) c.cut.ensures.situation c.cut.ensures.list

pub returns-else-cuts-clause-exact : goal.returns-else-cuts-clause-exact
returns-else-cuts-clause-exact c state entries stand =
    stands_so c.args.self.now state entries (Ok (cut_by c.args.command.now (scene_of c.args.self.now state entries))) (rw (← c.if-cuts.ensures) refl) stand
