use Rattle.std.proofs.Common.{◌∙◌}
use Rattle.layered_tables.proofs.Sound.{sound-put_back, put_back_first}
use Rattle.layered_tables.proofs.layers.put_back_after.Goals as goal

pub loop-saved-preserved : goal.loop-saved-preserved
loop-saved-preserved g c = record {
  sound =
      let sound = rw c.in-Some.ensures.popped at c.loop-saved.invariant.sound in
      sound-put_back _ _ _ _ _ sound c.put_back.ensures.table c.put_back.ensures.len;
  tables = put_back_first _ _ _ _ _ _ c.in-Some.ensures.popped c.in-Some.ensures.later c.put_back.ensures.table ∙ c.loop-saved.invariant.tables;
}
