use Rattle.std.proofs.Common.{◌≡◌}
use Rattle.metric_words.specs.Parted.{infos_in}
use Rattle.metric_words.specs.Characters.{info_kind, char_info_of}
use Rattle.metric_words.specs.Left.{left}
use Rattle.metric_words.proofs.characters.read_infos.Given as goal

abbrev pub invariant-loop-i : goal.invariant-loop-i
invariant-loop-i l = infos_in l.bytes l.lengths ≡ left (info_kind l.lengths) char_info_of l.bytes l.i l.end l.infos.items
