-- Laws of what is printed.
use Rattle.std.specs.Prelude.{◌≡◌, ℕ, ◌+◌, ◌*◌, ◌<◌, ◌≤◌, List}
use Rattle.tok_lists.specs.declared.spelling.Spelling.{Spelling}
use Rattle.tok_lists.specs.Names.{AreHeld, HasNoParam}
use Rattle.print_values.specs.Texts.{fraction_digits, fraction}
use Rattle.print_values.specs.Printing.{printed, printed_name}

-- neither a parameter nor a name stands in a text
abbrev pub TextsArePlain : Type 0
TextsArePlain = (names : List Spelling) (text : List ℕ) →
    HasNoParam (printed text) × AreHeld names (printed text)

abbrev pub NamesArePlain : Type 0
NamesArePlain = (names : List Spelling) (s : Spelling) →
    HasNoParam (printed_name s) × AreHeld names (printed_name s)

-- with more than five digits allowed there aren't more
abbrev pub FractionsEnd : Type 0
FractionsEnd = (n part : ℕ) → part < 65536 → 5 ≤ n → fraction_digits n (10 * part + 5) 10
    ≡ fraction part
