use Rattle.std.proofs.Common.{◌≡◌, ◌<◌, ℕ, ◌++◌, ◌∷◌, [], take, get_or, pos, w32}
use Rattle.std.specs.Int.RustNames.{FitsSigned}
use Rattle.std.specs.List.{flat_map}
use Rattle.dvi_commands.specs.Fields.{signed_bytes}
use Rattle.dvi_writer.proofs.ends.put_bop.Given as goal

abbrev pub invariant-loop-count : goal.invariant-loop-count
invariant-loop-count l = record {
  bytes : l.out.items ≡ l.fn.out.items ++ (139 ∷ [] ++ flat_map signed_bytes (take l.count-index l.counts));
  fit : (k : ℕ) → k < l.count-index → FitsSigned w32 (get_or l.counts k (pos 0));
}
