-- Equal tokens: characters of equal code and category, equal Japanese characters, and equal names.
use Rattle.std.specs.Prelude.{◌==◌, ◌&&◌, Bool, false, List}
use Rattle.std.specs.Cmp.Lexicographic.{pointwise}
use Rattle.tok_lists.specs.declared.token.Token.{Token}
use Rattle.tok_lists.specs.declared.token.Token.TheVariants.{Char, Ja, Name, Kept, Param}

abbrev pub is_same : Token → Token → Bool
is_same (Char code cat) (Char code' cat') = (code == code') && (cat == cat')
is_same (Ja cell) (Ja cell') = (cell.row == cell'.row) && (cell.cell == cell'.cell)
is_same (Name name) (Name name') = name.0 == name'.0
is_same (Kept name) (Kept name') = name.0 == name'.0
is_same (Param n) (Param n') = n == n'
is_same _ _ = false

-- lists of equal tokens
abbrev pub are_same : List Token → List Token → Bool
are_same first second = pointwise is_same first second
