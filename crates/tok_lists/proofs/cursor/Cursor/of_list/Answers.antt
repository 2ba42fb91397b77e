use Rattle.tok_lists.proofs.Flat.{unchanged}
use Rattle.tok_lists.proofs.cursor.Cursor.of_list.Goals as goal

pub invariant_of-result : goal.invariant_of-result
invariant_of-result c = let same = unchanged c.new-2.result c.args.list.now c.requires in cc

pub returns : goal.returns
returns c = let same = unchanged c.new-2.result c.args.list.now c.requires in cc
