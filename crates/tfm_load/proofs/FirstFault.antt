-- Where the lengths have no fault, the first fault is the first bad word.
use Rattle.std.proofs.Common.{◌≡◌, ℕ, ◌*◌, List, Ok, Err}
use Rattle.ts_geometry.specs.declared.fault.BadKind.{BadKind}
use Rattle.ts_geometry.specs.declared.fault.MetricFault.TheVariants.{Bad}
use Rattle.metric_words.specs.declared.lengths.Lengths.{Lengths}
use Rattle.metric_words.specs.Checking.{IsFirstBad}
use Rattle.metric_words.proofs.FirstBad as words
use Rattle.tfm_load.specs.Metrics.{metric_of, lengths_in, kinds_of, spelt}

pub fault_to_word : (file : List ℕ) (l : Lengths) (kind : BadKind) (at : ℕ) → lengths_in file ≡ Ok l → metric_of file ≡ Err (Bad kind at)
    → (i : ℕ) × ((at ≡ 4 * i) × IsFirstBad (kinds_of file l) i kind)
unfolding metric_of
fault_to_word file l kind at given h = words.fault_to_word (kinds_of file l) (spelt file l) kind at (rw given at h)

pub word_to_fault : (file : List ℕ) (l : Lengths) (kind : BadKind) (i : ℕ) → lengths_in file ≡ Ok l → IsFirstBad (kinds_of file l) i kind
    → metric_of file ≡ Err (Bad kind (4 * i))
unfolding metric_of
word_to_fault file l kind i given first = rw given (words.word_to_fault (kinds_of file l) (spelt file l) kind i first)
