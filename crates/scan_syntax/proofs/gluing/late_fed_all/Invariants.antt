use Rattle.std.proofs.Common.{◌≡◌, List, ◌++◌, drop}
use Rattle.scan_numbers.specs.Tokens.{FedToken, put_back}
use Rattle.scan_syntax.specs.Gluing.{late_left}
use Rattle.scan_syntax.proofs.gluing.late_fed_all.Given as goal

abbrev pub invariant-loop-k : goal.invariant-loop-k
invariant-loop-k l = (rest : List FedToken) → late_left l.initial.late (put_back l.context l.tokens ++ rest) ≡ late_left l.late (put_back l.context (drop l.k l.tokens) ++ rest)
