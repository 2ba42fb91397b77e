use Rattle.std.proofs.Common.{◌≡◌, ◌≤◌, ◌-◌, ◌+◌, ◌*◌, true, false, length, drop, IsSome}
use Rattle.ts_outside.specs.States.{ReadsOn}
use Rattle.input_codings.specs.Reading.{unread}
use Rattle.kcat_eyes.specs.Eyes.{next, in_line}
use Rattle.kcat_eyes.specs.Finds.{glance_of, IsInLine}
use Rattle.kcat_eyes.specs.Sights.{line_in, sight_of, sight_in}
use Rattle.kcat_eyes.proofs.eyes.Eyes.next.Given as goal

abbrev pub invariant-loop-found : goal.invariant-loop-found
invariant-loop-found g l =
    let codes = g.C.CodeTable.codes l.codes in
    let file = l.fn.self.lines.file in
    let present = l.self-inside.present in
    record {
      sight : IsSome ((g.F.Files.state l.fn.files).left file) → next codes l.fn.names (sight_of l.fn.self ((g.F.Files.state l.fn.files).left file))
          ≡ next codes l.fn.names (sight_in present.state present.at present.line (unread l.self-inside.lines ((g.F.Files.state l.files).left file)) l.self-inside.ends);
      names : l.names ≡ l.fn.names;
      rises : l.fn.self.lines.line_no ≤ l.self-inside.lines.line_no;
      found : glance_of (line_in present.line) l.found ≡ in_line codes present.state (drop present.at (line_in present.line));
      places : IsInLine (present.at + 1) (length (line_in present.line)) l.found;
      within : present.at ≤ length (line_in present.line);
      lowers : (1000000 - l.self-inside.lines.line_no) * 65536 + length (drop present.at (line_in present.line))
          ≤ (1000000 - l.fn.self.lines.line_no) * 65536 + length l.fn.self.rest;
      same : l.self-inside.lines.file ≡ file;
      unfailed : l.self-inside.lines.failed ≡ false;
      reads : ReadsOn file (g.F.Files.state l.fn.files) (g.F.Files.state l.files);
      counted : (g.F.Files.state l.files).faults ≡ (g.F.Files.state l.fn.files).faults;
    }

abbrev pub decreases-loop-found : goal.decreases-loop-found
decreases-loop-found g l = 1000000 - l.self-inside.lines.line_no
