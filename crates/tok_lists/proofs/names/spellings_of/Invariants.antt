use Rattle.std.proofs.Common.{◌≡◌, [], map, take, fold}
use Rattle.std.specs.List.{IsDistinct}
use Rattle.tok_lists.specs.Same.{is_same}
use Rattle.tok_lists.specs.Names.{with_name}
use Rattle.tok_lists.specs.StartNames.{control_word}
use Rattle.tok_lists.proofs.names.spellings_of.Given as goal

abbrev pub invariant-loop-word : goal.invariant-loop-word
invariant-loop-word l = record {
  keys : l.spellings.keys ≡ fold with_name [] (map (λ w. control_word w.now) (take l.word-index l.words));
  distinct : IsDistinct is_same l.spellings.keys;
}
