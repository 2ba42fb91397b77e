-- The one form of sources that is built so far: the line \font\j=N \j\shipout\hbox{CELLS}\end with a metric's name N of 1 to 8
-- lower-case letters and digits, and 1 to 50 Japanese characters.
use Rattle.std.specs.Prelude.{ℕ, List, [], ◌∷◌, length, drop, Bool, false, Option, Some, None, nat_le, ◌==◌, ◌&&◌, ◌||◌, if◌then◌else◌}
use Rattle.jis_codes.specs.Kuten.{Kuten}
use Rattle.jis_codes.specs.declared.character.Char.{Char}
use Rattle.jis_codes.specs.declared.character.Char.TheVariants.{One, Ja}

pub record Form : Type 0 where
  pub name : List ℕ
  pub cells : List Kuten

-- what stands after a text, where the characters begin with it
abbrev pub after : List ℕ → List Char → Option (List Char)
after [] characters = Some characters
after (b ∷ text) [] = None
after (b ∷ text) (One c ∷ characters) = if b == c then after text characters else None
after (b ∷ text) (Ja k ∷ characters) = None

-- a lower-case letter or a digit
abbrev pub is_name_byte : ℕ → Bool
is_name_byte b = (nat_le 97 b && nat_le b 122) || (nat_le 48 b && nat_le b 57)

-- the name at the front
abbrev pub name_in : List Char → List ℕ
name_in [] = []
name_in (One b ∷ characters) = if is_name_byte b then b ∷ name_in characters else []
name_in (Ja k ∷ characters) = []

-- the cells at the front
abbrev pub cells_in : List Char → List Kuten
cells_in [] = []
cells_in (One b ∷ characters) = []
cells_in (Ja k ∷ characters) = k ∷ cells_in characters

-- nothing but the character that ends a line
abbrev pub is_line_end : List Char → Bool
is_line_end (One b ∷ []) = b == 13
is_line_end _ = false

-- `\font\j=`
abbrev pub font_text : List ℕ
font_text = 92 ∷ 102 ∷ 111 ∷ 110 ∷ 116 ∷ 92 ∷ 106 ∷ 61 ∷ []

-- ` \j\shipout\hbox{`
abbrev pub box_text : List ℕ
box_text = 32 ∷ 92 ∷ 106 ∷ 92 ∷ 115 ∷ 104 ∷ 105 ∷ 112 ∷ 111 ∷ 117 ∷ 116 ∷ 92 ∷ 104 ∷ 98 ∷ 111 ∷ 120 ∷ 123 ∷ []

-- `}\end`
abbrev pub end_text : List ℕ
end_text = 125 ∷ 92 ∷ 101 ∷ 110 ∷ 100 ∷ []

infixl 10 ◌>>=◌
abbrev ◌>>=◌ : {A B : Type 0} → Option A → (A → Option B) → Option B
None >>= step = None
(Some x) >>= step = step x

abbrev pub is_short : ℕ → ℕ → Bool
is_short most n = nat_le 1 n && nat_le n most

abbrev pub form_with : List ℕ → List Kuten → List Char → Option Form
form_with name cells rest =
    if is_short 8 (length name) && is_short 50 (length cells) && is_line_end rest then Some (record { name = name; cells = cells }) else None

-- the form that the characters of a line have, if they have it
unfoldable pub form_of : List Char → Option Form
form_of all = do
  named ← after font_text all
  boxed ← after box_text (drop (length (name_in named)) named)
  rest ← after end_text (drop (length (cells_in boxed)) boxed)
  form_with (name_in named) (cells_in boxed) rest
