-- Bytes that say commands.
use Rattle.std.specs.Prelude.{◌≡◌, ℕ, List, [], ◌∷◌, ◌++◌, Ok, ℤ}
use Rattle.std.specs.Int.{w32, bytes_high_first, cast_unsigned}
use Rattle.dvi_commands.specs.declared.font.FontDef.{FontDef}
use Rattle.dvi_commands.specs.Commands.{Command, Definition, command}

-- The bytes say these commands and no more.
abbrev pub Spells : List ℕ → List Command → Type 0
Spells bytes [] = bytes ≡ []
Spells bytes (c ∷ cs) = (front : List ℕ) × (rest : List ℕ) × (bytes ≡ front ++ rest)
    × (command front ≡ Ok (c, [])) × Spells rest cs

-- a signed number of four bytes
abbrev pub four : ℤ → List ℕ
four z = bytes_high_first 4 (cast_unsigned w32 z)

-- a definition whose area is empty
abbrev pub plain_definition : FontDef → Definition
plain_definition f = record {
  number = f.number;
  check_sum = f.check_sum;
  size = f.size;
  design = f.design;
  area = [];
  name = f.name;
}
