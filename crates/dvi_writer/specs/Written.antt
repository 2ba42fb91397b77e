-- The bytes with which a file and a page begin and end (TeX: The Program, sections 585 to 591).
use Rattle.std.specs.Prelude.{ℕ, ◌+◌, ◌-◌, ◌%◌, ◌^◌, ◌<◌, List, [], ◌∷◌, ◌++◌, length, drop, replicate, ℤ, pos, Bool, nat_eq, if◌then◌else◌}
use Rattle.std.specs.Int.{w32}
use Rattle.std.specs.Int.RustNames.{FitsSigned}
use Rattle.std.specs.List.{flat_map}
use Rattle.byteorder.specs.Endian.{big_bytes}
use Rattle.dvi_commands.specs.declared.font.FontDef.{FontDef}
use Rattle.dvi_commands.specs.Fields.{signed_bytes}
use Rattle.dvi_writer.specs.declared.kept.Kept.{Kept}

-- The numbers of the font fit their fields.
pub record HasNumbers (f : FontDef) : Type 0 where
  pub check_sum : f.check_sum < 2 ^ 32
  pub size : f.size < 2 ^ 32
  pub design : f.design < 2 ^ 32

-- 25400000, 473628672 and 1000: the unit is a scaled point at its own size
unfoldable pub unit_bytes : List ℕ
unit_bytes = big_bytes 4 25400000 ++ big_bytes 4 473628672 ++ big_bytes 4 1000

-- the identification 2, the units, and an empty comment
unfoldable pub preamble_bytes : List ℕ
preamble_bytes = 247 ∷ 2 ∷ [] ++ unit_bytes ++ 0 ∷ []

-- ten counts and the place of the bop before
unfoldable pub bop_bytes : List ℤ → ℤ → List ℕ
bop_bytes counts back = 139 ∷ [] ++ flat_map signed_bytes counts ++ signed_bytes back

-- the definition of a font, whose area is empty, under a number
unfoldable pub definition_bytes : ℕ → FontDef → List ℕ
definition_bytes n f =
    243 ∷ n ∷ [] ++ big_bytes 4 f.check_sum ++ big_bytes 4 f.size ++ big_bytes 4 f.design
    ++ 0 ∷ length f.name ∷ [] ++ f.name

-- definitions under the numbers from one on
abbrev pub definitions_bytes : ℕ → List FontDef → List ℕ
definitions_bytes n [] = []
definitions_bytes n (f ∷ fs) = definition_bytes n f ++ definitions_bytes (n + 1) fs

-- what stands before a page: the preamble before the first
abbrev pub opening_bytes : Kept → List ℕ
opening_bytes k = if nat_eq k.pages 0 then preamble_bytes else []

-- the page's beginning, with the definitions of those fonts of a table that come after the first so
-- many
unfoldable pub front_bytes : Kept → List ℤ → ℕ → List FontDef → List ℕ
front_bytes k counts defined table =
    opening_bytes k ++ bop_bytes counts k.last ++ definitions_bytes defined (drop defined table)

-- ---- the end

-- What is kept fits its fields.
pub record KeptFits (k : Kept) : Type 0 where
  pub last : FitsSigned w32 k.last
  pub high : k.high < 2 ^ 32
  pub wide : k.wide < 2 ^ 32
  pub pages : k.pages < 2 ^ 16

-- nothing was pushed
unfoldable pub post_bytes : Kept → List ℕ
post_bytes k =
    248 ∷ [] ++ signed_bytes k.last ++ unit_bytes ++ big_bytes 4 k.high ++ big_bytes 4 k.wide
    ++ big_bytes 2 0 ++ big_bytes 2 k.pages

-- 3 where a direction was written, and else 2
abbrev pub id_of : Bool → ℕ
id_of turned = if turned then 3 else 2

unfoldable pub post_post_bytes : ℕ → Bool → List ℕ
post_post_bytes post turned = 249 ∷ [] ++ signed_bytes (pos post) ++ id_of turned ∷ []

-- how many bytes of fill stand after so many bytes
abbrev pub fill_count : ℕ → ℕ
fill_count before = 7 - (before + 3) % 4

-- what stands after the pages, but for the fill
unfoldable pub closing_bytes : Kept → List FontDef → List ℕ
closing_bytes k fonts =
    post_bytes k ++ definitions_bytes 0 fonts ++ post_post_bytes k.given k.turned

abbrev pub fill_bytes : ℕ → List ℕ
fill_bytes before = replicate (fill_count before) 223

-- nothing where no page came
unfoldable pub end_bytes : Kept → List FontDef → List ℕ
end_bytes k fonts = if nat_eq k.pages 0 then []
    else closing_bytes k fonts ++ fill_bytes (k.given + length (closing_bytes k fonts))
