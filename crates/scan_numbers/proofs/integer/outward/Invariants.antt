use Rattle.std.proofs.Common.{◌≡◌, List, length}
use Rattle.scan_numbers.specs.Tokens.{FedToken}
use Rattle.scan_numbers.specs.Machines.{outward as the_outward, whole_integer}
use Rattle.scan_numbers.proofs.integer.outward.Given as goal

abbrev pub invariant-loop-innermost : goal.invariant-loop-innermost
invariant-loop-innermost l = (rest : List FedToken) →
    the_outward l.initial.opens.items whole_integer l.initial.number.value l.context rest ≡ the_outward l.opens.items whole_integer l.number.value l.context rest

abbrev pub decreases-loop-innermost : goal.decreases-loop-innermost
decreases-loop-innermost l = length l.opens.items
