use Rattle.std.proofs.Common.{◌≡◌, map}
use Rattle.metric_words.specs.Words.{words}
use Rattle.metric_words.specs.FixWords.{table_in, fix_kind, fix_of}
use Rattle.metric_words.proofs.PartsLeft.{unchecked}
use Rattle.metric_words.proofs.fix_words.check_table.Given as goal

abbrev pub invariant-loop-i : goal.invariant-loop-i
invariant-loop-i l =
    table_in l.bytes l.start l.len ≡ unchecked fix_kind l.bytes l.i l.end (map fix_of (words l.bytes l.start l.len))
