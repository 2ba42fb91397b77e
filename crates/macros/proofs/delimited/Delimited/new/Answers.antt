use Rattle.macros.proofs.Invariant.{search_begun}
use Rattle.macros.proofs.delimited.Delimited.new.Goals as goal

pub invariant_of-result : goal.invariant_of-result
invariant_of-result c =
    rw (c.same_copy.ensures, c.new.ensures)
    (search_begun c.args.params.now c.args.from c.args.to c.args.long c.requires.delimiter, record { order = c.requires.order; most = c.requires.most })
