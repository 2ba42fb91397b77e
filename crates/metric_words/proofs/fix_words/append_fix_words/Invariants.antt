use Rattle.std.proofs.Common.{◌≡◌}
use Rattle.metric_words.specs.FixWords.{fix_kind, fix_of}
use Rattle.metric_words.specs.Left.{left}
use Rattle.metric_words.proofs.fix_words.append_fix_words.Given as goal

abbrev pub invariant-loop-i : goal.invariant-loop-i
invariant-loop-i l = left fix_kind fix_of l.bytes l.start l.end l.initial.table.items ≡ left fix_kind fix_of l.bytes l.i l.end l.table.items
