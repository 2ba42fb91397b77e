-- What spells characters is decoded to them.
use Rattle.std.proofs.Common.{◌≡◌, ◌≢◌, ℕ, suc, ◌+◌, ◌-◌, ◌*◌, ◌/◌, ◌%◌, ◌<◌, ◌≤◌, List, [], ◌∷◌, get_or, false, true, nat_le, nat_lt, ◌==◌, Some, Ok, refl, ap, ◌∙◌, arith}
use Rattle.std.specs.List.{All}
use Rattle.std.proofs.lemmas.Bool.Decides.{nat_tests}
use Rattle.jis_codes.specs.declared.Char.{Char}
use Rattle.jis_codes.specs.declared.Char.TheVariants.{One, Ja}
use Rattle.jis_codes.specs.Kuten.{Kuten, IsKuten}
use Rattle.jis_codes.specs.Spellings.{jis, euc, shift_jis, two_bytes}
use Rattle.jis_codes.specs.Numbers.{number_of, cell_of, cell_at, first_row, place, lead, trail}
use Rattle.input_codings.specs.declared.coding.Coding.{Coding}
use Rattle.input_codings.specs.declared.coding.Coding.TheVariants.{Jis, Euc, Sjis}
use Rattle.input_codings.specs.declared.item.State.{State}
use Rattle.input_codings.specs.declared.item.State.TheVariants.{OneByte, TwoByte}
use Rattle.input_codings.specs.declared.item.Item.TheVariants.{Character}
use Rattle.input_codings.specs.Decoding.{item, character, decoded, decoded_from, in_front}
use Rattle.input_codings.specs.Spelled.{spelled, HasSpelling}

split : (high low : ℕ) → low < 256 → (two_bytes high low / 256 ≡ high) × (two_bytes high low % 256 ≡ low)
split high low below = (omega arith, omega arith)

cell_there : (k : Kuten) → IsKuten k → cell_at k.row k.cell ≡ Some k
cell_there k there =
    let a : nat_le 1 k.row ≡ true = grind (arith, nat_tests, there.0) in
    let b : nat_le k.row 94 ≡ true = grind (arith, nat_tests, there.1) in
    let c : nat_le 1 k.cell ≡ true = grind (arith, nat_tests, there.2) in
    let d : nat_le k.cell 94 ≡ true = grind (arith, nat_tests, there.3) in
    rw (a, b, c, d) refl

-- the bytes of a number are those of the cell
jis_found : (k : Kuten) → IsKuten k → cell_of jis (two_bytes (number_of jis k / 256) (number_of jis k % 256)) ≡ Some k
jis_found k there =
    let n = split (k.row + 0x20) (k.cell + 0x20) (omega (arith, there.3)) in
    let row : k.row + 0x20 - 0x20 ≡ k.row = omega arith in
    let cell : k.cell + 0x20 - 0x20 ≡ k.cell = omega arith in
    rw (n.0, n.1, n.0, n.1, row, cell) (cell_there k there)

euc_found : (k : Kuten) → IsKuten k → cell_of euc (two_bytes (number_of euc k / 256) (number_of euc k % 256)) ≡ Some k
euc_found k there =
    let n = split (k.row + 0xA0) (k.cell + 0xA0) (omega (arith, there.3)) in
    let row : k.row + 0xA0 - 0xA0 ≡ k.row = omega arith in
    let cell : k.cell + 0xA0 - 0xA0 ≡ k.cell = omega arith in
    rw (n.0, n.1, n.0, n.1, row, cell) (cell_there k there)

-- Shift_JIS: the first of the two rows of the lead byte, and the cell of the trail byte
row_found : (row : ℕ) → 1 ≤ row → row ≤ 94 → first_row (lead row) ≡ Some (2 * ((row - 1) / 2) + 1)
row_found row some most = grind (arith, nat_tests)

place_found : (row cell : ℕ) → 1 ≤ cell → cell ≤ 94 → place (trail row cell) ≡ Some (1 - row % 2, cell)
place_found row cell some most = grind (arith, nat_tests)

trail_below : (row cell : ℕ) → cell ≤ 94 → trail row cell < 256
trail_below row cell most = grind (arith, nat_tests)

lead_above : (row : ℕ) → 128 ≤ lead row
lead_above row = grind (arith, nat_tests)

shift_jis_found : (k : Kuten) → IsKuten k → cell_of shift_jis (two_bytes (number_of shift_jis k / 256) (number_of shift_jis k % 256)) ≡ Some k
shift_jis_found k there =
    let n = split (lead k.row) (trail k.row k.cell) (trail_below k.row k.cell there.3) in
    let row : 2 * ((k.row - 1) / 2) + 1 + (1 - k.row % 2) ≡ k.row = omega (arith, there.0) in
    rw (n.0, n.1, n.0, n.1, row_found k.row there.0 there.1, place_found k.row k.cell there.2 there.3, row) (cell_there k there)

-- ---- one character, and what follows it

byte_read : (coding : Coding) (b at : ℕ) (bs : List ℕ) → b < 128 → b ≢ 27 → decoded_from coding OneByte 0 at (b ∷ bs) ≡ in_front (One b) (decoded_from coding OneByte 0 (at + 1) bs)
byte_read coding b at bs low plain =
    let no_escape : (b == 27) ≡ false = grind (arith, nat_tests, plain) in
    let one : nat_lt b 128 ≡ true = grind (arith, nat_tests) in
    let is : item coding OneByte b (get_or bs 0 0) (get_or bs 1 0) ≡ Some (Character (One b)) = rw (no_escape, one) refl in
    rw is refl

cell_read : (coding : Coding) (state : State) (high low at : ℕ) (k : Kuten) (bs : List ℕ) → high ≢ 27 → character coding state high low ≡ Some (Character (Ja k))
    → decoded_from coding state 0 at (high ∷ low ∷ bs) ≡ in_front (Ja k) (decoded_from coding state 0 (at + 1 + 1) bs)
cell_read coding state high low at k bs plain cell =
    let no_escape : (high == 27) ≡ false = grind (arith, nat_tests, plain) in
    let is : item coding state high low (get_or bs 0 0) ≡ Some (Character (Ja k)) = rw no_escape cell in
    rw is refl

-- the characters from a place on
reads_from : (coding : Coding) (at : ℕ) (cs : List Char) → All HasSpelling cs → decoded_from coding OneByte 0 at (spelled coding cs) ≡ Ok cs
reads_from coding at [] have = refl
reads_from coding at (One b ∷ cs) have =
    let plain = have 0 (One b) (omega arith) in
    byte_read coding b at (spelled coding cs) plain.0 plain.1
    ∙ ap (in_front (One b)) (reads_from coding (at + 1) cs (λ i d within. have (suc i) d (omega arith)))
reads_from Jis at (Ja k ∷ cs) have =
    let there = have 0 (Ja k) (omega arith) in
    let n = split (k.row + 0x20) (k.cell + 0x20) (omega (arith, there.3)) in
    cell_read Jis TwoByte (number_of jis k / 256) (number_of jis k % 256) (at + 1 + 1 + 1) k (0x1B ∷ 0x28 ∷ 0x42 ∷ spelled Jis cs)
    (rw n.0 (λ same. omega (arith, same, there.0))) (rw (jis_found k there) refl)
    ∙ ap (in_front (Ja k)) (reads_from Jis (at + 1 + 1 + 1 + 1 + 1 + 1 + 1 + 1) cs (λ i d within. have (suc i) d (omega arith)))
reads_from Euc at (Ja k ∷ cs) have =
    let there = have 0 (Ja k) (omega arith) in
    let n = split (k.row + 0xA0) (k.cell + 0xA0) (omega (arith, there.3)) in
    let pair : nat_lt (number_of euc k / 256) 128 ≡ false = rw n.0 (grind (arith, nat_tests)) in
    cell_read Euc OneByte (number_of euc k / 256) (number_of euc k % 256) at k (spelled Euc cs)
    (rw n.0 (λ same. omega (arith, same))) (rw (pair, euc_found k there) refl)
    ∙ ap (in_front (Ja k)) (reads_from Euc (at + 1 + 1) cs (λ i d within. have (suc i) d (omega arith)))
reads_from Sjis at (Ja k ∷ cs) have =
    let there = have 0 (Ja k) (omega arith) in
    let n = split (lead k.row) (trail k.row k.cell) (trail_below k.row k.cell there.3) in
    let above = lead_above k.row in
    let pair : nat_lt (number_of shift_jis k / 256) 128 ≡ false = rw n.0 (grind (arith, nat_tests)) in
    cell_read Sjis OneByte (number_of shift_jis k / 256) (number_of shift_jis k % 256) at k (spelled Sjis cs)
    (rw n.0 (λ same. omega (arith, same, above))) (rw (pair, shift_jis_found k there) refl)
    ∙ ap (in_front (Ja k)) (reads_from Sjis (at + 1 + 1) cs (λ i d within. have (suc i) d (omega arith)))

pub reads_back : (coding : Coding) (cs : List Char) → All HasSpelling cs → decoded coding (spelled coding cs) ≡ Ok cs
reads_back coding cs have = reads_from coding 0 cs have
