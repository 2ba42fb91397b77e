-- What a page of glyphs of one font means: a mark for each glyph.
use Rattle.std.specs.Prelude.{◌<◌, ◌^◌, ℕ, List, map, replicate, pos}
use Rattle.std.specs.Option.{IsSomeAnd}
use Rattle.std.specs.List.{All}
use Rattle.ts_geometry.specs.Numbers.{IsWithin, max_dimen}
use Rattle.ts_geometry.specs.declared.direction.Dir.TheVariants.{Yoko}
use Rattle.dvi_commands.specs.declared.font.FontDef.{FontDef}
use Rattle.dvi_code.specs.declared.mark.What.TheVariants as what
use Rattle.dvi_code.specs.declared.mark.Mark.{Mark}
use Rattle.dvi_code.specs.declared.page.DviPage.{DviPage}
use Rattle.dvi_code.specs.Pages.{Widths}
use Rattle.ts_job.specs.declared.writer.page.Glyph.{Glyph}

-- the greatest coordinate of a mark, 2^29 - 1 scaled points
abbrev pub max_coordinate : ℕ
max_coordinate = 536870911

-- a glyph that can be written
pub record FitsGlyph (g : Glyph) : Type 0 where
  pub code : g.code < 2 ^ 16
  pub x : IsWithin max_coordinate g.at.x.0
  pub y : IsWithin max_coordinate g.at.y.0

-- widths that give each of these glyphs one
abbrev pub HasWidths : Widths → FontDef → List Glyph → Type 0
HasWidths widths font glyphs = All (λ g. IsSomeAnd (widths font g.code) (λ width. IsWithin max_dimen width.0)) glyphs

abbrev pub mark_meant : FontDef → Glyph → Mark
mark_meant font g = record { what = what.Glyph font.name font.size g.code; at = g.at; dir = Yoko }

abbrev pub page_meant : FontDef → List Glyph → DviPage
page_meant font glyphs = record { counts = replicate 10 (pos 0); marks = map (mark_meant font) glyphs }
