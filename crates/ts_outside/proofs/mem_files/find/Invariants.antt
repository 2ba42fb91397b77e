use Rattle.std.proofs.Common.{◌≡◌, drop, map}
use Rattle.ts_outside.specs.Reading.{bytes_of}
use Rattle.ts_outside.specs.Holding.{held_of}
use Rattle.ts_outside.proofs.mem_files.find.Given as goal

abbrev pub invariant-loop-i : goal.invariant-loop-i
invariant-loop-i l = bytes_of (map held_of l.files) l.name ≡ bytes_of (map held_of (drop l.i l.files)) l.name
