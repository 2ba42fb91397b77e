-- The fonts of a file.
use Rattle.std.proofs.Common.{◌≡◌, ℕ, zero, suc, ◌+◌, ◌<◌, ◌≤◌, List, [], ◌∷◌, ◌++◌, length, get_or, refl, sym, ap, arith, ℤ, pos, true, false, Some, None, Ok}
use Rattle.std.specs.Prelude.{nat_eq}
use Rattle.std.specs.Ordering.{int_eq}
use Rattle.std.proofs.lemmas.Int.{ints}
use Rattle.std.proofs.lemmas.Cmp.{int_eq_equiv}
use lib.Pointwise.{pointwise}
use Rattle.box_marks.specs.Marks.{nameless}
use Rattle.dvi_commands.specs.declared.font.FontDef.{FontDef}
use Rattle.dvi_structure.specs.Structure.{font_of, defined, is_same_font, is_sound_font}
use Rattle.dvi_writer.specs.Tables.{numbered, numbered_from}

other : (m n : ℕ) → m < n → int_eq (pos m) (pos n) ≡ false
other m n lt = grind (arith, ints)

same : (z : ℤ) → int_eq z z ≡ true
same z = int_eq_equiv.refl z

pub length-numbered : (n : ℕ) (fs : List FontDef) → length (numbered_from n fs) ≡ length fs
length-numbered n [] = refl
length-numbered n (f ∷ fs) = let e = length-numbered (n + 1) fs in omega arith

pub numbered-join : (n m : ℕ) (fs gs : List FontDef) → m ≡ n + length fs → numbered_from n (fs ++ gs) ≡ numbered_from n fs ++ numbered_from m gs
numbered-join n m [] gs e =
    let k : n ≡ m = omega (arith, e) in
    ap (λ (j : ℕ). numbered_from j gs) k
numbered-join n m (f ∷ fs) gs e =
    let k : m ≡ n + 1 + length fs = omega (arith, e) in
    ap (λ (xs : List FontDef). numbered n f ∷ xs) (numbered-join (n + 1) m fs gs k)

-- a number past the last has no font
pub past_last : (n k : ℕ) (fs : List FontDef) → n + length fs ≤ k → font_of (numbered_from n fs) (pos k) ≡ None
past_last n k [] e = refl
past_last n k (f ∷ fs) e = rw (other n k (omega (arith, e))) (past_last (n + 1) k fs (omega (arith, e)))

-- each number has the font of its place
pub font_at_place : (n k i : ℕ) (fs : List FontDef) → i < length fs → k ≡ n + i → font_of (numbered_from n fs) (pos k) ≡ Some (numbered k (get_or fs i nameless))
font_at_place n k i [] lt e = absurd (omega (arith, lt))
font_at_place n k zero (f ∷ fs) lt e =
    let is : n ≡ k = omega (arith, e) in
    rw (← is) (rw (same (pos n)) refl)
font_at_place n k (suc i) (f ∷ fs) lt e = rw (other n k (omega (arith, e))) (font_at_place (n + 1) k i fs (omega (arith, lt)) (omega (arith, e)))

same_nat : (n : ℕ) → nat_eq n n ≡ true
same_nat n = grind arith

same_text : (xs : List ℕ) → pointwise nat_eq xs xs ≡ true
same_text [] = refl
same_text (x ∷ xs) = rw (same_nat x) (same_text xs)

pub same_font : (f : FontDef) → is_same_font f f ≡ true
same_font f = rw (same_nat f.check_sum, same_nat f.size, same_nat f.design, same_text f.name) refl

is_sound_numbered : (n : ℕ) (f : FontDef) → is_sound_font f ≡ true → is_sound_font (numbered n f) ≡ true
unfolding is_sound_font
is_sound_numbered n f sound = sound

-- a new font is defined after those before
pub defined_more : (fs : List FontDef) (n : ℕ) (f : FontDef) → n ≡ length fs → is_sound_font f ≡ true → defined (numbered_from 0 fs) (numbered n f) ≡ Ok (numbered_from 0 (fs ++ f ∷ []))
defined_more fs n f e sound =
    let none : font_of (numbered_from 0 fs) (pos n) ≡ None = past_last 0 n fs (omega (arith, e)) in
    let join : numbered_from 0 (fs ++ f ∷ []) ≡ numbered_from 0 fs ++ numbered n f ∷ [] = numbered-join 0 n fs (f ∷ []) (omega (arith, e)) in
    let is : is_sound_font (numbered n f) ≡ true = is_sound_numbered n f sound in
    rw (none, is) (ap (λ (xs : List FontDef). Ok xs) (sym join))

-- a font that is defined may be defined again
pub defined_again : (fs : List FontDef) (n : ℕ) → n < length fs → defined (numbered_from 0 fs) (numbered n (get_or fs n nameless)) ≡ Ok (numbered_from 0 fs)
defined_again fs n lt = rw (font_at_place 0 n n fs lt (omega arith), same_font (numbered n (get_or fs n nameless))) refl
