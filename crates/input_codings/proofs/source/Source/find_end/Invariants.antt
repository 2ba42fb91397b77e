use Rattle.std.proofs.Common.{◌≡◌, ◌≤◌, ◌+◌, ◌-◌, length, drop}
use Rattle.ts_outside.specs.States.{ReadsOn}
use Rattle.input_codings.specs.Reading.{KeepsBytes, before_ten}
use Rattle.input_codings.proofs.source.Source.find_end.Given as goal

abbrev pub invariant-find : goal.invariant-find
invariant-find g l = record {
  same : l.self.file ≡ l.fn.self.file;
  scanned : before_ten l.self.buffered ≡ l.seen + before_ten (drop l.seen l.self.buffered);
  within : l.seen ≤ length l.self.buffered;
  bytes : KeepsBytes l.fn.self ((g.F.Files.state l.fn.files).left l.fn.self.file) l.self ((g.F.Files.state l.files).left l.fn.self.file);
  reads : ReadsOn l.fn.self.file (g.F.Files.state l.fn.files) (g.F.Files.state l.files);
  more : length l.fn.self.buffered ≤ length l.self.buffered;
  counted : (g.F.Files.state l.files).faults ≡ (g.F.Files.state l.fn.files).faults;
}

abbrev pub decreases-find : goal.decreases-find
decreases-find g l = 65536 - length l.self.buffered
