use Rattle.jfm_load.proofs.SoundTypes.{sound_classes}
use Rattle.jfm_load.proofs.japanese.read_parts.Goals as goal

pub invariant_of-result : goal.invariant_of-result
invariant_of-result c =
    sound_classes c.args.bytes.now c.args.lengths.now _ _ _ _ _ _ c.requires.sound c.requires.japanese c.in_ok-design.ensures.sound
    c.in_ok-char_types.ensures c.in_ok-classes.ensures.count c.in_ok-classes.ensures.fix
    c.in_ok-kerns.ensures.fix c.in_ok-glues.ensures.fix
