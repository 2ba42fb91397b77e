use Rattle.std.proofs.Common.{◌≡◌, ◌-◌, ◌≤◌, length, drop}
use Rattle.dvi_structure.specs.Places.{placed}
use Rattle.dvi_structure.specs.Outline.{outline_walk, start_outline, outline_of, depth_of}
use Rattle.dvi_structure.proofs.structure.walked.Given as goal

abbrev pub invariant-commands : goal.invariant-commands
invariant-commands l = record {
  within : l.at ≤ length l.bytes;
  pages : l.standing.pages ≤ l.at;
  depth : depth_of l.standing.stage ≤ l.at;
  same : outline_walk (outline_of l.fonts l.standing) (placed l.at 0 (drop l.at l.bytes)) ≡ outline_walk start_outline (placed 0 0 l.bytes);
}

abbrev pub decreases-commands : goal.decreases-commands
decreases-commands l = length l.bytes - l.at
