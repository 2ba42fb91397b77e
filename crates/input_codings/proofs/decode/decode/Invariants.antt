use Rattle.std.proofs.Common.{length, drop, ◌-◌, ◌≡◌, ◌≤◌, ◌++◌}
use Rattle.std.proofs.Math.ListN.{replicate}
use Rattle.jis_codes.specs.declared.Char.TheVariants.{One}
use Rattle.input_codings.specs.Decoding.{trimmed, decoded, decoded_from}
use Rattle.input_codings.proofs.Decodes.{after_all}
use Rattle.input_codings.proofs.decode.decode.Given as goal

abbrev pub invariant-loop-at : goal.invariant-loop-at
invariant-loop-at l = record {
  few : l.spaces ≤ l.at;
  whole : trimmed l.chars ≡ l.chars;
  same : decoded l.coding l.bytes ≡ after_all (l.chars ++ replicate l.spaces (One 32)) (decoded_from l.coding l.state 0 l.at (drop l.at l.bytes));
}

abbrev pub decreases-loop-at : goal.decreases-loop-at
decreases-loop-at l = length l.bytes - l.at
