use Rattle.std.proofs.Common.{length}
use Rattle.jfm_load.proofs.Codes.{class_in-below}
use Rattle.jfm_load.proofs.japanese.Japanese.class.Goals as goal

pub returns-clause-in_font : goal.returns-clause-in_font
returns-clause-in_font c =
    rw (← c.self.view_is, c.class_in.ensures, c.deref.ensures.value)
    (class_in-below (length c.self.inside.classes) c.self.inside.char_types.items _ c.self.invariant.some_class c.self.invariant.with_class)
