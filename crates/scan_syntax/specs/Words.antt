-- The letters of the keywords that are no units.
use Rattle.std.specs.Prelude.{ℕ, List, codes}
use Rattle.scan_syntax.specs.declared.word.Word.{Word}
use Rattle.scan_syntax.specs.declared.word.Word.TheVariants as words
use Rattle.scan_syntax.specs.declared.word.Sought.{Sought}
use Rattle.scan_syntax.specs.declared.word.Sought.TheVariants as soughts

abbrev pub word_letters : Word → List ℕ
word_letters words.At = codes "at"
word_letters words.Scaled = codes "scaled"
word_letters words.By = codes "by"
word_letters words.Width = codes "width"
word_letters words.Height = codes "height"
word_letters words.Depth = codes "depth"

abbrev pub letters_of : Sought → List ℕ
letters_of (soughts.Word word) = word_letters word
letters_of soughts.Plus = codes "plus"
letters_of soughts.Minus = codes "minus"
letters_of soughts.To = codes "to"
letters_of soughts.Spread = codes "spread"
