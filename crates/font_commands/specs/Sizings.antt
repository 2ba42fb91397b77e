-- How \font says a size (The TeXbook, chapter 4; TeX: The Program, sections 1258 and 1259).
use Rattle.std.specs.Prelude.{Bool, if◌then◌else◌, Ok}
use Rattle.ts_base.specs.Agreement.{◌>>=◌}
use Rattle.scan_syntax.specs.declared.word.Word.TheVariants as words
use Rattle.expander.specs.Worlds.{World}
use Rattle.assignments.specs.Worlds.{Outcome}
use Rattle.assignments.specs.Values.{integer, dimension, keyword}
use Rattle.known_fonts.specs.declared.sizes.Sizing.{Sizing}
use Rattle.known_fonts.specs.declared.sizes.Sizing.TheVariants.{Design, At, Scaled}

abbrev pub size_at : World → Outcome (Sizing × World)
size_at w = dimension w >>= λ d. Ok (At d.0, d.1)

abbrev pub size_scaled : World → Outcome (Sizing × World)
size_scaled w = integer w >>= λ n. Ok (Scaled n.0, n.1)

abbrev pub scaled_if : Bool × World → Outcome (Sizing × World)
scaled_if k = if k.0 then size_scaled k.1 else Ok (Design, k.1)

-- in thousandths after scaled, or nothing
unfoldable pub scale_said : World → Outcome (Sizing × World)
scale_said w = keyword words.Scaled w >>= scaled_if

abbrev pub at_if : Bool × World → Outcome (Sizing × World)
at_if k = if k.0 then size_at k.1 else scale_said k.1

-- a dimension after at, or else in thousandths after scaled, or nothing
unfoldable pub size_said : World → Outcome (Sizing × World)
size_said w = keyword words.At w >>= at_if
