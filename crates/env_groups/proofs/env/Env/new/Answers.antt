use Rattle.std.proofs.Common.{refl, arith}
use Rattle.layered_tables.proofs.Values.{have_none}
use Rattle.env_groups.proofs.env.Env.new.Goals as goal

pub invariant_of-result : goal.invariant_of-result
invariant_of-result c =
    record {
      tall = rw (c.new.ensures, c.new-2.ensures, c.new-3.ensures, c.new-4.ensures, c.new-5.ensures, c.new-6.ensures, c.new-7.ensures, c.new-8.ensures, c.new-9.ensures, c.new-10.ensures, c.new-11.ensures, c.new-12.ensures.items)
          (record { ints = refl; dims = refl; glues = refl; toks = refl; boxes = refl; cats = refl; kinds = refl; spacings = refl; penalties = refl; meanings = refl; selected = refl });
      few_groups = rw c.new-12.ensures.items (omega arith);
      few_fonts = rw c.new-13.ensures (omega arith);
      meanings = rw (c.new-10.ensures, c.new-13.ensures) (have_none _);
      selected = rw (c.new-11.ensures, c.new-13.ensures) (have_none _);
    }
