use Rattle.macros.specs.contracts.delimited.Delimited.{the_view}
use Rattle.macros.proofs.Invariant.{many_within}
use Rattle.macros.proofs.delimited.Delimited.argument.Goals as goal

pub slice_bounds-stripped-count : goal.slice_bounds-stripped-count
slice_bounds-stripped-count c =
    let inside = c.self.inside in
    rw c.as_slice-text.ensures (many_within (the_view inside) inside.level inside.many c.self.invariant.0)
