use Rattle.std.proofs.Common.{◌≡◌, ◌++◌}
use Rattle.std.proofs.Math.ListN.{replicate}
use Rattle.jis_codes.specs.declared.Char.TheVariants.{One}
use Rattle.input_codings.proofs.decode.push_spaces.Given as goal

abbrev pub invariant-loop-pushed : goal.invariant-loop-pushed
invariant-loop-pushed l = l.chars ≡ l.fn.chars ++ replicate l.pushed (One 32)
