use Rattle.jfm_load.proofs.Chain.{metric-parts}
use Rattle.jfm_load.proofs.japanese.read.Goals as goal

pub returns : goal.returns
returns c =
    let l = c.in_ok-lengths.lengths in
    rw (metric-parts c.args.bytes.now l c.in_ok-lengths.ensures.exact c.in_ok-lengths.ensures.sound.header) c.read_parts.ensures
