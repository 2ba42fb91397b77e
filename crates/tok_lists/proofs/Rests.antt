-- The rests of the lists that were put, as the last one grows, is read and goes.
use Prim.Native.Nat.{zero, suc}
use Rattle.std.proofs.Common.{◌≡◌, ℕ, ◌+◌, ◌-◌, ◌<◌, ◌≤◌, List, [], ◌∷◌, ◌++◌, length, get_or, take, set, refl, sym, ap, subst, Ok, ◌∙◌, arith, append_assoc, append-nil, length-append}
use Rattle.std.proofs.lemmas.Bool.Decides.{nat_tests}
use Rattle.std.proofs.lemmas.List.{take_all, take_more_set, take-set, length-set}
use Rattle.tok_lists.specs.declared.token.Token.{Token}
use Rattle.tok_lists.specs.Names.{HasNoParam}
use Rattle.tok_lists.specs.Pending.{put_before}
use Rattle.tok_lists.specs.Cursors.{flat, IsUnread, AreUnread, AreCounted}
use Rattle.tok_lists.proofs.Flat.{no_param_together}

pub flat-last : (rests : List (List Token)) (rest : List Token) → flat (rests ++ rest ∷ []) ≡ rest ++ flat rests
flat-last [] rest = sym (append-nil rest)
flat-last (first ∷ rests) rest = rw (flat-last rests rest) (append_assoc rest (flat rests) first)

pub unread_last : (rests : List (List Token)) (rest : List Token) → AreUnread rests → IsUnread rest → AreUnread (rests ++ rest ∷ [])
unread_last [] rest unread one = (one, tt)
unread_last (first ∷ rests) rest unread one = (unread.0, unread_last rests rest unread.1 one)

pub unread_front : (rests : List (List Token)) (rest : List Token) → AreUnread (rests ++ rest ∷ []) → AreUnread rests × IsUnread rest
unread_front [] rest unread = (tt, unread.0)
unread_front (first ∷ rests) rest unread = let more = unread_front rests rest unread.1 in ((unread.0, more.0), more.1)

pub unread_by_length : (rest : List Token) → 0 < length rest → IsUnread rest
unread_by_length [] some = absurd (omega arith)
unread_by_length (token ∷ rest) some = tt

-- the last of the lists, after those before it
ends : (rests : List (List Token)) (k : ℕ) (rest : List Token) → suc k ≡ length rests → rest ≡ get_or rests k rest → rests ≡ take k rests ++ rest ∷ []
ends [] k rest size at = absurd (omega arith)
ends (first ∷ []) zero rest size at = ap (λ (r : List Token). r ∷ []) (sym at)
ends (first ∷ second ∷ rests) zero rest size at = absurd (omega arith)
ends (first ∷ rests) (suc k) rest size at = ap (λ (more : List (List Token)). first ∷ more) (ends rests k rest (omega arith) at)

-- A list for which there is room is put.
pub put_last : (rests left : List (List Token)) (rest pending : List Token) → left ≡ rests ++ rest ∷ [] → flat rests ≡ pending → length rest + length pending ≤ 1000000 → put_before rest pending ≡ Ok (flat left)
put_last rests left rest pending put same room =
    let front : flat left ≡ rest ++ pending = ap flat put ∙ flat-last rests rest ∙ ap (λ (more : List Token). rest ++ more) same in
    rw front (grind (arith, nat_tests))

pub counted_last : (rests : List (List Token)) (left : ℕ) (rest : List Token) → AreCounted rests left → HasNoParam rest → 0 < length rest → length rest + length (flat rests) ≤ 1000000
    → AreCounted (rests ++ rest ∷ []) (left + length rest)
counted_last rests left rest all none some room =
    let size : length (flat (rests ++ rest ∷ [])) ≡ length rest + length (flat rests) = rw (flat-last rests rest) (length-append rest (flat rests)) in
    record {
      counted = omega (arith, size, all.counted);
      few = omega (arith, all.counted);
      unread = unread_last rests rest all.unread (unread_by_length rest some);
      no_param = rw (flat-last rests rest) (no_param_together rest (flat rests) none all.no_param);
    }

-- the lists, where another comes in the place of the last one
set_last : (rests : List (List Token)) (k : ℕ) (new : List Token) → suc k ≡ length rests → set rests k new ≡ take k rests ++ new ∷ []
set_last rests k new size =
    sym (take_all (k + 1) (set rests k new) (omega (arith, length-set rests k new))) ∙ take_more_set rests k new (omega arith)

-- the lists before the last one
front_of : (rests : List (List Token)) (k : ℕ) (new : List Token) → suc k ≡ length rests → take (length (set rests k new) - 1) (set rests k new) ≡ take k rests
front_of rests k new size =
    let count : length (set rests k new) - 1 ≡ k = omega (arith, length-set rests k new) in
    ap (λ (n : ℕ). take n (set rests k new)) count ∙ take-set rests k new

is_empty : (new : List Token) → length new ≡ 0 → new ≡ []
is_empty [] none = refl
is_empty (token ∷ new) none = absurd (omega arith)

-- Of the last of the lists a token is taken, and more are left.
module _ (rests : List (List Token)) (k : ℕ) (rest new : List Token) (size : suc k ≡ length rests) (at : rest ≡ get_or rests k rest) where
  whole : flat rests ≡ rest ++ flat (take k rests)
  whole = ap flat (ends rests k rest size at) ∙ flat-last (take k rests) rest

  before : AreUnread rests → AreUnread (take k rests) × IsUnread rest
  before unread = unread_front (take k rests) rest (subst AreUnread (ends rests k rest size at) unread)

  pub read_on : (token : Token) (left : List (List Token)) → rest ≡ token ∷ new → left ≡ set rests k new → flat rests ≡ token ∷ flat left
  read_on token left taken is =
      whole ∙ ap (λ (r : List Token). r ++ flat (take k rests)) taken
      ∙ ap (λ (r : List Token). token ∷ r) (sym (ap flat (is ∙ set_last rests k new size) ∙ flat-last (take k rests) new))

  pub unread_on : (left : List (List Token)) → AreUnread rests → 0 < length new → left ≡ set rests k new → AreUnread left
  unread_on left unread some is =
      subst AreUnread (sym (is ∙ set_last rests k new size)) (unread_last (take k rests) new (before unread).0 (unread_by_length new some))

  -- It was the last token.
  pub read_whole : (token : Token) (left : List (List Token)) → rest ≡ token ∷ new → length new ≡ 0 → left ≡ take (length (set rests k new) - 1) (set rests k new) → flat rests ≡ token ∷ flat left
  read_whole token left taken none is =
      whole ∙ ap (λ (r : List Token). r ++ flat (take k rests)) (taken ∙ ap (λ (r : List Token). token ∷ r) (is_empty new none))
      ∙ ap (λ (r : List (List Token)). token ∷ flat r) (sym (is ∙ front_of rests k new size))

  pub unread_whole : (left : List (List Token)) → AreUnread rests → left ≡ take (length (set rests k new) - 1) (set rests k new) → AreUnread left
  unread_whole left unread is = subst AreUnread (sym (is ∙ front_of rests k new size)) (before unread).0

  -- None of the lists is empty.
  pub none_is_empty : AreUnread rests → rest ≡ [] → ⊥
  none_is_empty unread none = subst IsUnread none (before unread).1
