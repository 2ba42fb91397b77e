-- The lines of a file before they are decoded: the pieces between bytes 10, and a rest that isn't empty.
use Rattle.std.specs.Prelude.{ℕ, ◌-◌, ◌==◌, Bool, true, false, if◌then◌else◌, List, [], ◌∷◌, length, take, get_or}

-- the bytes of a line without its byte 10, and whether it has one
pub record Piece : Type 0 where
  pub bytes : List ℕ
  pub ended : Bool

-- a byte in front of the first piece
abbrev pub byte_then : ℕ → List Piece → List Piece
byte_then b [] = record { bytes = b ∷ []; ended = false } ∷ []
byte_then b (p ∷ ps) = record { bytes = b ∷ p.bytes; ended = p.ended } ∷ ps

-- a byte 10 ends a piece
abbrev pub pieces : List ℕ → List Piece
pieces [] = []
pieces (b ∷ bs) = if b == 10 then record { bytes = []; ended = true } ∷ pieces bs else byte_then b (pieces bs)

-- the bytes after the first byte 10
abbrev pub after_ten : List ℕ → List ℕ
after_ten [] = []
after_ten (b ∷ bs) = if b == 10 then bs else after_ten bs

abbrev pub ends_in_return : List ℕ → Bool
ends_in_return bytes = get_or bytes (length bytes - 1) 0 == 13

-- A byte 13 directly before the byte 10 doesn't count as text.
abbrev pub text_of : Bool → List ℕ → List ℕ
text_of true bytes = if ends_in_return bytes then take (length bytes - 1) bytes else bytes
text_of false bytes = bytes
