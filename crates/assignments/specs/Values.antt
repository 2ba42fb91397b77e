-- Values that commands read, each with its range (The TeXbook, chapter 24; pTeX).
use Rattle.std.specs.Prelude.{ℕ, ℤ, pos, negsuc, neg_ℤ, int_le, nat_lt, ◌&&◌, Bool, true, false, if◌then◌else◌, Option, Some, None, Result, Ok, Err}
use Rattle.std.specs.Option.{ok_or}
use Rattle.ts_base.specs.Agreement.{◌>>=◌}
use Rattle.ts_geometry.specs.declared.glue.Glue.{Glue}
use Rattle.ts_geometry.specs.declared.measure.Sp.{Sp}
use Rattle.ts_geometry.specs.Numbers.{max_dimen}
use Rattle.jis_codes.specs.declared.Char.{Char}
use Rattle.env_groups.specs.declared.code.CodeKey.{CodeKey}
use Rattle.env_groups.specs.Bounds.{max_int}
use Rattle.scan_numbers.specs.declared.quantity.CodeKind.{CodeKind}
use Rattle.scan_numbers.specs.Quantities.{char_of, code_key}
use Rattle.scan_syntax.specs.declared.want.Want.TheVariants as wants
use Rattle.scan_syntax.specs.declared.want.Value.{Value}
use Rattle.scan_syntax.specs.declared.want.Value.TheVariants as values
use Rattle.scan_syntax.specs.declared.word.Word.{Word}
use Rattle.expander.specs.Worlds.{World}
use Rattle.control_faults.specs.declared.kind.FaultKind.{FaultKind}
use Rattle.control_faults.specs.declared.kind.FaultKind.TheVariants.{NoNumber, NumberRange, DimenRange, RegisterRange, CodeRange}
use Rattle.assignments.specs.Worlds.{Outcome, checked}
use Rattle.assignments.specs.Reads.{scanned}

-- ---- ranges

abbrev pub is_within : ℕ → ℤ → Bool
is_within most z = int_le (neg_ℤ (pos most)) z && int_le z (pos most)

abbrev pub is_dimen : Sp → Bool
is_dimen d = is_within max_dimen d.0

-- What a scan found, where it is of the kind that was wanted. Only the measure of a box, as it is seen from a list of another
-- direction, may pass the range of a dimension.
abbrev pub whole_integer : Value → Result ℤ FaultKind
whole_integer (values.Integer n) = Ok n
whole_integer _ = Err NoNumber

abbrev pub whole_dimen : Value → Result Sp FaultKind
whole_dimen (values.Dimen d) = if is_dimen d then Ok d else Err DimenRange
whole_dimen _ = Err NoNumber

abbrev pub whole_glue : Value → Result Glue FaultKind
whole_glue (values.Glue g) = Ok g
whole_glue _ = Err NoNumber

-- ---- values

unfoldable pub integer : World → Outcome (ℤ × World)
integer w = scanned wants.Integer w >>= checked whole_integer

unfoldable pub dimension : World → Outcome (Sp × World)
dimension w = scanned wants.Dimen w >>= checked whole_dimen

unfoldable pub glue : World → Outcome (Glue × World)
glue w = scanned wants.Glue w >>= checked whole_glue

-- Spaces and at most one = are passed over.
unfoldable pub equals : World → Outcome World
equals w = scanned wants.Equals w >>= λ v. Ok v.1

abbrev pub is_there : Value → Bool
is_there (values.Keyword there) = there
is_there _ = false

-- Whether a keyword is there; then it is passed over.
unfoldable pub keyword : Word → World → Outcome (Bool × World)
keyword word w = scanned (wants.Keyword word) w >>= λ v. Ok (is_there v.0, v.1)

-- ---- numbers of registers and characters

-- from 0 to 255
abbrev pub register_number : ℤ → Result ℕ FaultKind
register_number (pos n) = if nat_lt n 256 then Ok n else Err RegisterRange
register_number (negsuc n) = Err RegisterRange

-- the character of a number, if there is one: a byte, or an internal code
abbrev pub character_at : ℤ → Option Char
character_at (pos n) = if nat_lt n 65536 then char_of n else None
character_at (negsuc n) = None

abbrev pub narrow : ℤ → ℕ
narrow (pos n) = n
narrow (negsuc n) = 0

-- the number, where it is that of a character
abbrev pub code_of : ℤ → Option Char → Result ℕ FaultKind
code_of n (Some c) = Ok (narrow n)
code_of n None = Err CodeRange

abbrev pub character_number : ℤ → Result ℕ FaultKind
character_number n = code_of n (character_at n)

-- the code of a kind of the character of a number
abbrev pub code_number : CodeKind → ℤ → Result CodeKey FaultKind
code_number kind n = ok_or (code_key kind (character_at n)) CodeRange

-- the number of a register
unfoldable pub register : World → Outcome (ℕ × World)
register w = integer w >>= checked register_number
