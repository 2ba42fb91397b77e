-- Spellings are the same exactly where they are equal.
use Rattle.std.specs.Prelude.{◌≡◌, ℕ, Bool, true, false, nat_eq}
use Rattle.std.specs.Bool.{beq, Decides}
use Rattle.std.specs.Cmp.{IsEquivalence, booleans_Decides, unsigned_Decides, decided}
use Rattle.std.specs.Cmp.Lexicographic.{pointwise, pointwise_decides}
use Rattle.std.proofs.Common.{ap, sym, true≢false}
use Rattle.std.proofs.lemmas.Bool.Decides.{Decides-and, Decides-like}
use Rattle.jis_codes.specs.Kuten.{Kuten}
use Rattle.jis_codes.specs.declared.Char.{Char}
use Rattle.jis_codes.specs.declared.Char.TheVariants.{One, Ja}
use Rattle.tok_lists.specs.declared.spelling.Spelling.{Spelling}
use Rattle.tok_lists.specs.Same.{is_same_char, is_same}

-- what a character is, and what it holds, 0 where it holds no such thing
abbrev code_of : Char → ℕ
code_of (One a) = a
code_of (Ja a) = 0

abbrev row_of : Char → ℕ
row_of (One a) = 0
row_of (Ja a) = a.row

abbrev cell_of : Char → ℕ
cell_of (One a) = 0
cell_of (Ja a) = a.cell

abbrev is_one : Char → Bool
is_one (One a) = true
is_one (Ja a) = false

abbrev is_ja : Char → Bool
is_ja (One a) = false
is_ja (Ja a) = true

equal_cells : (a b : Kuten) → (a.row ≡ b.row) × (a.cell ≡ b.cell) → a ≡ b
equal_cells a b h = λ i. record { row = h.0 i; cell = h.1 i }

pub is_same_char-decides : (a b : Char) → Decides (is_same_char a b) (a ≡ b)
is_same_char-decides (One a) (One b) = Decides-like (nat_eq a b) (ap One) (ap code_of) (unsigned_Decides a b)
is_same_char-decides (Ja a) (Ja b) =
    Decides-like (is_same_char (Ja a) (Ja b)) (λ h. ap Ja (equal_cells a b h)) (λ h. (ap row_of h, ap cell_of h))
    (Decides-and (nat_eq a.row b.row) (nat_eq a.cell b.cell) (unsigned_Decides a.row b.row) (unsigned_Decides a.cell b.cell))
is_same_char-decides (One a) (Ja b) = (λ e. absurd (true≢false (sym e)), ap is_ja)
is_same_char-decides (Ja a) (One b) = (λ e. absurd (true≢false (sym e)), ap is_one)

equal_spellings : (a b : Spelling) → (a.active ≡ b.active) × (a.chars ≡ b.chars) → a ≡ b
equal_spellings a b h = λ i. record { active = h.0 i; chars = h.1 i }

pub is_same-decides : (a b : Spelling) → Decides (is_same a b) (a ≡ b)
is_same-decides a b =
    Decides-like (is_same a b) (equal_spellings a b) (λ h. (ap (λ s. s.active) h, ap (λ s. s.chars) h))
    (Decides-and (beq a.active b.active) (pointwise is_same_char a.chars b.chars) (booleans_Decides a.active b.active) (pointwise_decides is_same_char-decides a.chars b.chars))

pub is_same-equiv : IsEquivalence is_same
is_same-equiv = decided is_same is_same-decides
