-- The bytes that are written for a page of glyphs of one font (TeX: The Program, sections 585 to 591).
use Rattle.std.specs.Prelude.{ℕ, ◌+◌, ◌-◌, ◌%◌, ◌^◌, ◌<◌, List, [], ◌∷◌, ◌++◌, length, replicate, ℤ, pos, negsuc}
use Rattle.std.specs.List.{flat_map}
use Rattle.byteorder.specs.Endian.{big_bytes}
use Rattle.ts_geometry.specs.declared.measure.Sp.{Sp}
use Rattle.dvi_commands.specs.declared.font.FontDef.{FontDef}
use Rattle.dvi_commands.specs.Fields.{signed_bytes}
use Rattle.ts_job.specs.declared.writer.page.Glyph.{Glyph}

-- The numbers of the font fit their fields.
pub record HasNumbers (f : FontDef) : Type 0 where
  pub check_sum : f.check_sum < 2 ^ 32
  pub size : f.size < 2 ^ 32
  pub design : f.design < 2 ^ 32

-- 25400000, 473628672 and 1000
unfoldable pub unit_bytes : List ℕ
unit_bytes = big_bytes 4 25400000 ++ big_bytes 4 473628672 ++ big_bytes 4 1000

unfoldable pub preamble_bytes : List ℕ
preamble_bytes = 247 ∷ 2 ∷ [] ++ unit_bytes ++ 0 ∷ []

unfoldable pub bop_bytes : List ℕ
bop_bytes = 139 ∷ [] ++ replicate 40 0 ++ signed_bytes (negsuc 0)

unfoldable pub definition_bytes : FontDef → List ℕ
definition_bytes f = 243 ∷ 0 ∷ [] ++ big_bytes 4 f.check_sum ++ big_bytes 4 f.size ++ big_bytes 4 f.design ++ 0 ∷ length f.name ∷ [] ++ f.name

abbrev pub right_bytes : Sp → List ℕ
right_bytes along = 146 ∷ signed_bytes along.0

abbrev pub down_bytes : Sp → List ℕ
down_bytes across = 160 ∷ signed_bytes across.0

abbrev pub set_bytes : ℕ → List ℕ
set_bytes code = 129 ∷ big_bytes 2 code

-- between push and pop an absolute movement and the glyph
unfoldable pub glyph_bytes : Glyph → List ℕ
glyph_bytes g = 141 ∷ [] ++ right_bytes g.at.x ++ down_bytes g.at.y ++ set_bytes g.code ++ 142 ∷ []

unfoldable pub page_bytes : FontDef → List Glyph → List ℕ
page_bytes f glyphs = bop_bytes ++ definition_bytes f ++ 171 ∷ [] ++ flat_map glyph_bytes glyphs ++ 140 ∷ []

-- of one page, which begins at 15, and at most one pushed position
unfoldable pub post_bytes : ℕ → ℕ → List ℕ
post_bytes high wide = 248 ∷ [] ++ signed_bytes (pos 15) ++ unit_bytes ++ big_bytes 4 high ++ big_bytes 4 wide ++ big_bytes 2 1 ++ big_bytes 2 1

unfoldable pub post_post_bytes : ℤ → List ℕ
post_post_bytes post = 249 ∷ [] ++ signed_bytes post ++ 2 ∷ []

-- how many bytes of fill stand after so many bytes
abbrev pub fill_count : ℕ → ℕ
fill_count before = 7 - (before + 3) % 4

-- what stands after the page, which ends at a place, but for the fill
unfoldable pub closing_bytes : FontDef → ℕ → ℕ → ℕ → List ℕ
closing_bytes f post high wide = post_bytes high wide ++ definition_bytes f ++ post_post_bytes (pos post)

unfoldable pub end_bytes : FontDef → ℕ → ℕ → ℕ → List ℕ
end_bytes f post high wide = closing_bytes f post high wide ++ replicate (fill_count (post + length (closing_bytes f post high wide))) 223

unfoldable pub file_bytes : FontDef → List Glyph → ℕ → ℕ → List ℕ
file_bytes f glyphs high wide = preamble_bytes ++ page_bytes f glyphs ++ end_bytes f (length (preamble_bytes ++ page_bytes f glyphs)) high wide
