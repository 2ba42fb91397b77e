-- How many characters a line has at most.
use Rattle.std.proofs.Common.{◌≡◌, ◌≤◌, ℕ, zero, suc, ◌+◌, ◌-◌, List, [], ◌∷◌, ◌++◌, length, get_or, Option, Some, None, Result, Ok, Err, IfOk, arith, refl}
use Rattle.std.specs.Prelude.{if◌then◌else◌, Bool, true, false, nat_lt, take}
use Rattle.std.proofs.lemmas.Grind.{common_steps}
use Rattle.std.proofs.lemmas.Bool.Decides.{nat_tests}
use Rattle.jis_codes.specs.declared.Char.{Char}
use Rattle.jis_codes.specs.declared.Char.TheVariants.{One, Ja}
use Rattle.input_codings.specs.declared.coding.Coding.{Coding}
use Rattle.input_codings.specs.declared.item.State.{State}
use Rattle.input_codings.specs.declared.item.State.TheVariants.{OneByte}
use Rattle.input_codings.specs.declared.item.Item.{Item}
use Rattle.input_codings.specs.declared.item.Item.TheVariants.{Character, Escape}
use Rattle.input_codings.specs.declared.fault.LineFault.{LineFault}
use Rattle.input_codings.specs.Decoding.{item, item_then, decoded_from, decoded, in_front, before_trimmed, length_of, trimmed}
use Rattle.ts_base.specs.Agreement.{Agrees}
use Rattle.input_codings.specs.Lines.{closed, line_cause, characters, most_lines, most_bytes}
use Rattle.input_codings.specs.Pieces.{Piece, text_of, ends_in_return}

AreAtMost : ℕ → Result (List Char) ℕ → Type 0
AreAtMost n (Ok cs) = length cs ≤ n
AreAtMost n (Err place) = Unit {0}

one_more : (c : Char) (n : ℕ) (r : Result (List Char) ℕ) → AreAtMost n r → AreAtMost (suc n) (in_front c r)
unfolding AreAtMost
one_more c n (Ok cs) h = grind arith
one_more c n (Err place) h = tt

weaker : (n : ℕ) (r : Result (List Char) ℕ) → AreAtMost n r → AreAtMost (suc n) r
unfolding AreAtMost
weaker n (Ok cs) h = grind arith
weaker n (Err place) h = tt

item_short : (state : State) (place n : ℕ) (found : Option Item) (rest : State → ℕ → Result (List Char) ℕ) → ((s : State) (k : ℕ) → AreAtMost n (rest s k))
    → AreAtMost (suc n) (item_then state place found rest)
unfolding AreAtMost
item_short state place n None rest each = tt
item_short state place n (Some (Character c)) rest each = one_more c n _ (each state (length_of c - 1))
item_short state place n (Some (Escape selected)) rest each = weaker n _ (each selected 2)

from_short : (coding : Coding) (state : State) (passed place : ℕ) (bytes : List ℕ) → AreAtMost (length bytes) (decoded_from coding state passed place bytes)
unfolding AreAtMost
from_short coding state passed place [] = omega arith
from_short coding state (suc passed) place (b ∷ bs) = weaker (length bs) _ (from_short coding state passed (place + 1) bs)
from_short coding state zero place (b ∷ bs) =
    item_short state place (length bs) (item coding state b (get_or bs 0 0) (get_or bs 1 0)) (λ s n. decoded_from coding s n (place + 1) bs)
    (λ s k. from_short coding s k (place + 1) bs)

before_short : (c : Char) (cs : List Char) → length (before_trimmed c cs) ≤ suc (length cs)
before_short (One b) [] = grind arith
before_short (Ja k) [] = grind arith
before_short c (d ∷ ds) = omega arith

trimmed_short : (cs : List Char) → length (trimmed cs) ≤ length cs
trimmed_short [] = omega arith
trimmed_short (c ∷ cs) = let one = before_short c (trimmed cs) in let less = trimmed_short cs in grind arith

of_closed : (n : ℕ) (r : Result (List Char) ℕ) (chars : List Char) → AreAtMost n r → closed r ≡ Ok chars → length chars ≤ n + 1
unfolding AreAtMost
of_closed n (Ok cs) chars h is =
    let less = trimmed_short cs in
    let same : trimmed cs ++ One 13 ∷ [] ≡ chars = cc in
    rw (← same) (grind (arith, common_steps))
of_closed n (Err place) chars h is = absurd cc

closed_short : (coding : Coding) (bytes : List ℕ) (chars : List Char) → closed (decoded coding bytes) ≡ Ok chars → length chars ≤ length bytes + 1
closed_short coding bytes chars is = of_closed (length bytes) (decoded coding bytes) chars (from_short coding OneByte 0 0 bytes) is

pub answer_short : (coding : Coding) (bytes : List ℕ) (result : Result (List Char) LineFault) → length bytes ≤ 65535
    → Agrees (λ chars. chars) line_cause result (closed (decoded coding bytes)) → IfOk result (λ chars. length chars ≤ 65536)
answer_short coding bytes (Ok chars) few agrees = let most = closed_short coding bytes chars agrees in omega (arith, most, few)
answer_short coding bytes (Err e) few agrees = tt

guarded : (b : Bool) (x : Result (List Char) LineFault) (e : LineFault) (line : List Char) → (if b then Err e else x) ≡ Ok line → (b ≡ false) × (x ≡ Ok line)
guarded true x e line is = absurd cc
guarded false x e line is = (refl, is)

text_short : (ended : Bool) (bytes : List ℕ) → length (text_of ended bytes) ≤ length bytes
text_short true bytes = returned (ends_in_return bytes)
  where
    returned : (b : Bool) → length (if b then take (length bytes - 1) bytes else bytes) ≤ length bytes
    returned true = grind (arith, common_steps)
    returned false = omega arith
text_short false bytes = omega arith

-- A line that is given has its number within the limit, and no more characters than the limit of its bytes leaves.
pub characters_short : (coding : Coding) (n : ℕ) (piece : Piece) (line : List Char) → characters coding n piece ≡ Ok line → (n ≤ 1000000) × (length line ≤ 65536)
characters_short coding n piece line is =
    let number = guarded (nat_lt most_lines n) _ _ line is in
    let bytes = guarded (nat_lt most_bytes (length piece.bytes)) _ _ line number.1 in
    let count = number.0 in
    let few = bytes.0 in
    let most = closed_short coding (text_of piece.ended piece.bytes) line bytes.1 in
    let text = text_short piece.ended piece.bytes in
    (grind (arith, nat_tests), grind (arith, nat_tests))
