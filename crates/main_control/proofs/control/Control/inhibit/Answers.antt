use Rattle.std.proofs.Common.{refl}
use Rattle.jlist_builder.specs.Entries.{Inhibit}
use Rattle.main_control.proofs.Going.{marked_going}
use Rattle.main_control.proofs.control.Control.inhibit.Goals as goal

pub returns-clause-going : goal.returns-clause-going
returns-clause-going c =
    let was = rw (← c.self.view_is) at c.requires.going in
    marked_going Inhibit _ _ c.glyphs_stay_of_fonts.ensures.marked tt was refl refl (record { fonts = refl; table = refl }) c.inhibit.ensures.situation c.inhibit.ensures.list
