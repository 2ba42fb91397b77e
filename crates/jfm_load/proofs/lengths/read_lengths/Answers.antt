use Rattle.jfm_load.proofs.SoundTypes.{if_japanese}
use Rattle.jfm_load.proofs.lengths.read_lengths.Goals as goal

pub returns-clause-japanese : goal.returns-clause-japanese
returns-clause-japanese c =
    if_japanese c.args.bytes.now c.at-lengths.result c.within.result (rw c.is_odd-odd.ensures at c.within.ensures.exact)
