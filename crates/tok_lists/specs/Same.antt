-- When two spellings are the same: both active or both not, and of the same characters.
use Rattle.std.specs.Prelude.{Bool, false, nat_eq, ◌&&◌}
use Rattle.std.specs.Bool.{beq}
use Rattle.std.specs.Cmp.Lexicographic.{pointwise}
use Rattle.jis_codes.specs.declared.Char.{Char}
use Rattle.jis_codes.specs.declared.Char.TheVariants.{One, Ja}
use Rattle.tok_lists.specs.declared.spelling.Spelling.{Spelling}

abbrev pub is_same_char : Char → Char → Bool
is_same_char (One a) (One b) = nat_eq a b
is_same_char (Ja a) (Ja b) = nat_eq a.row b.row && nat_eq a.cell b.cell
is_same_char (One a) (Ja b) = false
is_same_char (Ja a) (One b) = false

abbrev pub is_same : Spelling → Spelling → Bool
is_same a b = beq a.active b.active && pointwise is_same_char a.chars b.chars
