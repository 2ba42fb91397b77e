use Rattle.std.proofs.Common.{◌≡◌, ◌-◌, ◌≤◌, List, length, drop, true}
use Rattle.dvi_commands.specs.declared.font.FontDef.{FontDef}
use Rattle.dvi_structure.specs.Places.{placed}
use Rattle.dvi_structure.specs.Outline.{outline_walk, outline_of, stage_of, has_font}
use Rattle.dvi_structure.proofs.structure.after_sets.Given as goal

abbrev pub invariant-sets : goal.invariant-sets
invariant-sets l = record {
  on : l.fn.at ≤ l.place;
  within : l.place ≤ length l.bytes;
  chosen : has_font (stage_of l.standing.stage) ≡ true;
  same : (fonts : List FontDef) → outline_walk (outline_of fonts l.standing) (placed l.place 0 (drop l.place l.bytes)) ≡ outline_walk (outline_of fonts l.standing) (placed l.fn.at 0 (drop l.fn.at l.bytes));
}

abbrev pub decreases-sets : goal.decreases-sets
decreases-sets l = length l.bytes - l.place
