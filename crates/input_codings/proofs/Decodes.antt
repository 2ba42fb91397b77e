-- The characters of a line, item by item.
use Rattle.std.proofs.Common.{◌≡◌, ℕ, zero, suc, ◌+◌, ◌-◌, ◌<◌, List, [], ◌∷◌, ◌++◌, length, drop, get_or, refl, sym, ap, ap₂, ◌∙◌, arith, add-zero, true, false, Option, Some, None, Result, Ok, Err, append_assoc}
use Rattle.std.proofs.Math.ListN.{replicate}
use Rattle.std.proofs.lemmas.List.{drop_more, drop-drop, append-nil}
use Rattle.std.proofs.lemmas.Bool.Decides.{nat_tests}
use Rattle.std.proofs.lemmas.Grind.{common_steps}
use Rattle.jis_codes.specs.declared.Char.{Char}
use Rattle.jis_codes.specs.declared.Char.TheVariants.{One, Ja}
use Rattle.input_codings.specs.declared.coding.Coding.{Coding}
use Rattle.input_codings.specs.declared.item.State.{State}
use Rattle.input_codings.specs.declared.item.Item.{Item}
use Rattle.input_codings.specs.declared.item.Item.TheVariants.{Character, Escape}
use Rattle.input_codings.specs.Decoding.{item, item_then, decoded_from, in_front, before_trimmed, length_of, is_space, trimmed}
use Rattle.input_codings.specs.Lines.{closed}

-- the characters so far, and then those that follow
abbrev pub after_all : List Char → Result (List Char) ℕ → Result (List Char) ℕ
after_all cs (Ok ds) = Ok (cs ++ ds)
after_all cs (Err place) = Err place

pub after_one : (cs : List Char) (c : Char) (r : Result (List Char) ℕ) → after_all cs (in_front c r) ≡ after_all (cs ++ c ∷ []) r
after_one cs c (Ok ds) = rw append_assoc refl
after_one cs c (Err place) = refl

pub after_none : (r : Result (List Char) ℕ) → after_all [] r ≡ r
after_none (Ok ds) = refl
after_none (Err place) = refl

pub passed_over : (coding : Coding) (state : State) (n place : ℕ) (bs : List ℕ) → decoded_from coding state n place bs ≡ decoded_from coding state 0 (place + n) (drop n bs)
passed_over coding state zero place bs = rw add-zero refl
passed_over coding state (suc n) place [] = refl
passed_over coding state (suc n) place (b ∷ bs) =
    let same : (place + 1) + n ≡ place + suc n = omega arith in
    passed_over coding state n (place + 1) bs ∙ ap (λ (p : ℕ). decoded_from coding state 0 p (drop n bs)) same

passed_at : (coding : Coding) (state : State) (n at : ℕ) (bytes : List ℕ) → decoded_from coding state n (at + 1) (drop (at + 1) bytes) ≡ decoded_from coding state 0 (at + 1 + n) (drop (at + 1 + n) bytes)
passed_at coding state n at bytes = passed_over coding state n (at + 1) (drop (at + 1) bytes) ∙ ap (λ (bs : List ℕ). decoded_from coding state 0 (at + 1 + n) bs) (drop-drop n (at + 1) bytes)

-- the item that begins at a place
abbrev pub item_at : Coding → State → ℕ → List ℕ → Option Item
item_at coding state at bytes = item coding state (get_or bytes at 0) (get_or bytes (at + 1) 0) (get_or bytes (at + 2) 0)

pub one_item : (coding : Coding) (state : State) (at : ℕ) (bytes : List ℕ) → at < length bytes
    → decoded_from coding state 0 at (drop at bytes) ≡ item_then state at (item_at coding state at bytes) (λ s n. decoded_from coding s n (at + 1) (drop (at + 1) bytes))
one_item coding state at bytes h =
    let second : get_or (drop (at + 1) bytes) 0 0 ≡ get_or bytes (at + 1) 0 = grind (arith, common_steps) in
    let third : get_or (drop (at + 1) bytes) 1 0 ≡ get_or bytes (at + 2) 0 = grind (arith, common_steps) in
    rw (drop_more bytes at 0 h, second, third) refl

pub step_bad : (coding : Coding) (state : State) (at : ℕ) (bytes : List ℕ) → at < length bytes → item_at coding state at bytes ≡ None
    → decoded_from coding state 0 at (drop at bytes) ≡ Err at
step_bad coding state at bytes h is = one_item coding state at bytes h ∙ rw is refl

pub step_escape : (coding : Coding) (state selected : State) (at : ℕ) (bytes : List ℕ) → at < length bytes → item_at coding state at bytes ≡ Some (Escape selected)
    → decoded_from coding state 0 at (drop at bytes) ≡ decoded_from coding selected 0 (at + 3) (drop (at + 3) bytes)
step_escape coding state selected at bytes h is =
    let place : at + 1 + 2 ≡ at + 3 = omega arith in
    one_item coding state at bytes h ∙ rw is (passed_at coding selected 2 at bytes ∙ ap (λ (p : ℕ). decoded_from coding selected 0 p (drop p bytes)) place)

place_after : (c : Char) (at : ℕ) → at + 1 + (length_of c - 1) ≡ at + length_of c
place_after (One b) at = omega arith
place_after (Ja k) at = omega arith

pub step_char : (coding : Coding) (state : State) (c : Char) (at : ℕ) (bytes : List ℕ) → at < length bytes → item_at coding state at bytes ≡ Some (Character c)
    → decoded_from coding state 0 at (drop at bytes) ≡ in_front c (decoded_from coding state 0 (at + length_of c) (drop (at + length_of c) bytes))
step_char coding state c at bytes h is =
    one_item coding state at bytes h ∙ rw is (ap (in_front c) (passed_at coding state (length_of c - 1) at bytes ∙ ap (λ (p : ℕ). decoded_from coding state 0 p (drop p bytes)) (place_after c at)))

trimmed_space : (n : ℕ) → trimmed (replicate n (One 32)) ≡ []
trimmed_space zero = refl
trimmed_space (suc n) = rw (trimmed_space n) refl

pub trimmed_spaces : (cs : List Char) (n : ℕ) → trimmed (cs ++ replicate n (One 32)) ≡ trimmed cs
trimmed_spaces [] n = trimmed_space n
trimmed_spaces (c ∷ cs) n = ap (before_trimmed c) (trimmed_spaces cs n)

pub trimmed_push : (cs : List Char) (c : Char) → is_space c ≡ false → trimmed (cs ++ c ∷ []) ≡ cs ++ c ∷ []
trimmed_push [] c other = rw other refl
trimmed_push (d ∷ cs) c other = ap (before_trimmed d) (trimmed_push cs c other) ∙ before_push d cs c
  where
    before_push : (d : Char) (cs : List Char) (c : Char) → before_trimmed d (cs ++ c ∷ []) ≡ d ∷ (cs ++ c ∷ [])
    before_push d [] c = refl
    before_push d (e ∷ cs) c = refl

pub is_one_space : (c : Char) → is_space c ≡ true → c ≡ One 32
is_one_space (One b) space = ap (λ (n : ℕ). One n) (let e : b ≡ 32 = grind (arith, nat_tests) in e)
is_one_space (Ja k) space = cc

pub finished : (cs : List Char) (n : ℕ) → trimmed cs ≡ cs → closed (after_all (cs ++ replicate n (One 32)) (Ok [])) ≡ Ok (cs ++ One 13 ∷ [])
finished cs n whole = rw (append-nil, trimmed_spaces cs n, whole) refl

pub item_same : (coding : Coding) (state : State) (at second third : ℕ) (bytes : List ℕ) (given : Option Item) → second ≡ get_or bytes (at + 1) 0 → third ≡ get_or bytes (at + 2) 0
    → given ≡ item coding state (get_or bytes at 0) second third → item_at coding state at bytes ≡ given
item_same coding state at second third bytes given second_is third_is is = sym (is ∙ ap₂ (λ (b c : ℕ). item coding state (get_or bytes at 0) b c) second_is third_is)
