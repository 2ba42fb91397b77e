use Rattle.tfm_load.proofs.roman.read_parts.Goals as goal

pub invariant_of-result : goal.invariant_of-result
invariant_of-result c = record {
  is_design = c.in_ok-design.ensures.sound;
  fix_characters = c.in_ok-characters.ensures.fix;
  fix_kerns = c.in_ok-kerns.ensures.fix;
}
