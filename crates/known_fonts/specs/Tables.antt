-- The definitions of fonts that a shipped page carries (TeX: The Program, section 602).
use Rattle.std.specs.Prelude.{◌≡◌, ℕ, ◌+◌, pos, true, List, [], ◌∷◌, All}
use Rattle.dvi_commands.specs.declared.font.FontDef.{FontDef}
use Rattle.dvi_structure.specs.Structure.{is_sound_font}
use Rattle.font_store.specs.declared.fonts.Font.{Font}
use Rattle.known_fonts.specs.Metrics.{design_of, check_sum_of}

-- a font under its number, with its name as it is spelt
abbrev pub definition : ℕ → Font → FontDef
definition number font = record {
  number = pos number;
  check_sum = check_sum_of font.metric;
  size = font.size;
  design = design_of font.metric;
  name = font.name;
}

-- under the numbers from one on
abbrev pub definitions_from : ℕ → List Font → List FontDef
definitions_from number [] = []
definitions_from number (font ∷ fonts) = definition number font ∷ definitions_from (number + 1) fonts

unfoldable pub definitions : List Font → List FontDef
definitions fonts = definitions_from 0 fonts
