-- The fields of a command (TeX: The Program, sections 583 to 590): each is read at the front of
-- bytes, and gives its value and the bytes after it, or the fault that they end too early.
use Rattle.std.specs.Prelude.{◌≡◌, ℕ, zero, suc, ◌+◌, ◌*◌, ◌-◌, ◌^◌, List, [], ◌∷◌, length, take, drop, Result, Ok, Err, ℤ, pos, ◌-ℤ◌, nat_lt, nat_eq, if◌then◌else◌}
use Rattle.std.specs.Int.{w32, cast_unsigned}
use Rattle.byteorder.specs.Endian.{big_bytes}
use Rattle.ts_base.specs.Agreement.{◌>>=◌}
use Rattle.dvi_commands.specs.declared.command.Part.{Part}
use Rattle.dvi_commands.specs.declared.fault.DviKind.{DviKind}
use Rattle.dvi_commands.specs.declared.fault.DviKind.TheVariants.{Truncated}

abbrev pub Field : Type 0 → Type 0
Field A = Result (A × List ℕ) DviKind

abbrev pub byte : List ℕ → Field ℕ
byte [] = Err Truncated
byte (b ∷ bs) = Ok (b, bs)

-- so many bytes
abbrev pub text : ℕ → List ℕ → Field (List ℕ)
text len bytes =
    if nat_lt (length bytes) len then Err Truncated else Ok (take len bytes, drop len bytes)

-- the number that bytes give, the highest of them first, after what earlier ones gave
abbrev pub value_after : ℕ → List ℕ → ℕ
value_after before [] = before
value_after before (b ∷ bs) = value_after (before * 256 + b) bs

-- a number of so many bytes
unfoldable pub unsigned : ℕ → List ℕ → Field ℕ
unsigned len bytes = text len bytes >>= λ t. Ok (value_after 0 t.0, t.1)

-- a number of so many bytes, of which the upper half stands for those below 0 (two's complement)
abbrev pub with_sign : ℕ → ℕ → ℤ
with_sign len n = if nat_lt n (2 ^ (8 * len - 1)) then pos n else pos n -ℤ pos (2 ^ (8 * len))

unfoldable pub signed : ℕ → List ℕ → Field ℤ
signed len bytes = unsigned len bytes >>= λ n. Ok (with_sign len n.0, n.1)

-- so many signed numbers of four bytes
unfoldable pub counts : ℕ → List ℕ → Field (List ℤ)
counts zero bytes = Ok ([], bytes)
counts (suc n) bytes = do
  first ← signed 4 bytes
  others ← counts n first.1
  Ok (first.0 ∷ others.0, others.1)

-- the four bytes of a number with a sign
abbrev pub signed_bytes : ℤ → List ℕ
signed_bytes z = big_bytes 4 (cast_unsigned w32 z)

-- a number that selects a font: that of four bytes has a sign
unfoldable pub font_number : ℕ → List ℕ → Field ℤ
font_number len bytes =
    if nat_eq len 4 then signed 4 bytes else (unsigned len bytes >>= λ n. Ok (pos n.0, n.1))

-- the text that a part shows in a file
abbrev pub text_of : List ℕ → Part → List ℕ
text_of bytes part = take (part.end - part.start) (drop part.start bytes)

-- What was read, seen by view, is what is defined, and so is the fault.
abbrev pub Gives : {X Y E : Type 0} → (X → Y) → Result X E → Result Y E → Type 0
Gives view (Ok x) given = given ≡ Ok (view x)
Gives view (Err e) given = given ≡ Err e

-- Reading goes on at a place of the file: what was read, and what is left there.
abbrev pub left_at : {X Y : Type 0} → List ℕ → (X → Y) → X × ℕ → Y × List ℕ
left_at bytes view x = (view x.0, drop x.1 bytes)
