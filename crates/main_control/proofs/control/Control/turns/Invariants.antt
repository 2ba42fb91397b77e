use Rattle.std.proofs.Common.{◌≡◌, List, Some}
use Rattle.ts_outside.specs.States.{Held}
use Rattle.jlist_builder.specs.Entries.{Entry}
use Rattle.mouth.specs.Sizes.{size}
use Rattle.mouth.specs.Keeping.{numbers, reading, AreOpen, AreTold, LeavesOthers}
use Rattle.open_lists.specs.Standing.{StandFor}
use Rattle.dvi_writer.specs.Reading.{Asked}
use Rattle.shipping.specs.Faults.{StaysWhole}
use Rattle.known_fonts.specs.Standing.{AreAsHeld}
use Rattle.main_control.specs.Worlds.{world, scene_of}
use Rattle.main_control.specs.Standing.{IsGoing, Holds, Ships}
use Rattle.main_control.proofs.Runs.{Going}
use Rattle.main_control.proofs.control.Control.turns.Given as goal

abbrev pub invariant-loop-halt : goal.invariant-loop-halt
invariant-loop-halt g l = record {
  run : AreTold l.fn.self.gullet (g.F.Files.state l.fn.files) → (held : List Held) → (g.F.Files.state l.fn.files).held ≡ Some held → AreAsHeld held l.fn.self.fonts
      → (entries : List (List Entry)) → StandFor l.fn.self.lists entries → (boxes : List Asked) → Holds (g.P.Shipper.stands l.fn.shipper) held boxes
      → Going (Holds (g.P.Shipper.stands l.shipper) held) (world (scene_of l.fn.self (g.F.Files.state l.fn.files) entries) boxes) l.self (g.F.Files.state l.files);
  held : (held : List Held) → (g.F.Files.state l.fn.files).held ≡ Some held → AreAsHeld held l.fn.self.fonts
      → ((g.F.Files.state l.files).held ≡ Some held) × AreAsHeld held l.self.fonts;
  told : AreTold l.fn.self.gullet (g.F.Files.state l.fn.files) → AreTold l.self.gullet (g.F.Files.state l.files);
  opened : AreOpen l.self.gullet (g.F.Files.state l.files);
  going : IsGoing l.self;
  ships : Ships (g.P.Shipper.stands l.shipper) l.self.table;
  others : LeavesOthers (numbers l.fn.self.gullet) (g.F.Files.state l.fn.files) (numbers l.self.gullet) (g.F.Files.state l.files);
  whole : StaysWhole (g.P.Shipper.broken l.fn.shipper) (g.P.Shipper.broken l.shipper);
  origin : g.P.Shipper.origin l.shipper ≡ g.P.Shipper.origin l.fn.shipper;
  read : (g.F.Files.state l.files).faults ≡ (g.F.Files.state l.fn.files).faults;
  shipped : g.P.Shipper.faults l.shipper ≡ g.P.Shipper.faults l.fn.shipper;
}

abbrev pub decreases-loop-halt : goal.decreases-loop-halt
decreases-loop-halt g l = size (reading l.self.gullet (g.F.Files.state l.files))
