-- The parts of a parameter text, place by place.
use Rattle.std.proofs.Common.{◌≡◌, ◌<◌, ◌≤◌, ◌+◌, ◌-◌, ℕ, suc, true, false, List, [], ◌∷◌, ◌++◌, length, take, drop, get_or, refl, sym, ap, ◌∙◌, arith, drop-cons, add-one, append_assoc, append-nil, length-drop}
use Rattle.std.specs.Prelude.{slice_range}
use Rattle.std.proofs.Math.Seq.{take-suc, drop-length}
use Rattle.std.proofs.lemmas.List.{get_or-drop}
use Rattle.tok_lists.specs.declared.token.Token.{Token}
use Rattle.tok_lists.specs.declared.token.Token.TheVariants.{Char, Ja, Name, Kept, Param}
use Rattle.macros.specs.Calls.{Parts, parts, with_token, with_param, is_param}

token_before : (t : Token) (l : List Token) → is_param t ≡ false → parts (t ∷ l) ≡ with_token t (parts l)
token_before (Char c k) l h = refl
token_before (Ja c) l h = refl
token_before (Name n) l h = refl
token_before (Kept n) l h = refl
token_before (Param n) l h = absurd cc

param_before : (t : Token) (l : List Token) → is_param t ≡ true → parts (t ∷ l) ≡ with_param (parts l)
param_before (Char c k) l h = absurd cc
param_before (Ja c) l h = absurd cc
param_before (Name n) l h = absurd cc
param_before (Kept n) l h = absurd cc
param_before (Param n) l h = refl

split_at : (l : List Token) (at : ℕ) (x : Token) → x ≡ get_or l at x → at < length l → drop at l ≡ x ∷ drop (at + 1) l
split_at l at x is within = drop-cons l at x within ∙ ap (λ k. get_or l at x ∷ drop k l) (sym (add-one at)) ∙ ap (λ y. y ∷ drop (at + 1) l) (sym is)

-- No parameter stands from one place to another.
pub record IsAhead (l : List Token) (from at : ℕ) : Type 0 where
  pub order : from ≤ at
  pub most : at ≤ length l
  pub prefix : (parts (drop from l)).prefix ≡ slice_range l from at ++ (parts (drop at l)).prefix
  pub delimiters : (parts (drop from l)).delimiters ≡ (parts (drop at l)).delimiters

pub ahead_begun : (l : List Token) (from : ℕ) → from ≤ length l → IsAhead l from from
ahead_begun l from most =
    let none : from - from ≡ 0 = omega arith in
    record { order = omega arith; most = most; prefix = ap (λ k. take k (drop from l) ++ (parts (drop from l)).prefix) (sym none); delimiters = refl }

slice_more : (l : List Token) (from at : ℕ) (x : Token) → x ≡ get_or l at x → from ≤ at → at < length l → slice_range l from (at + 1) ≡ slice_range l from at ++ x ∷ []
slice_more l from at x is order within =
    let one : (at + 1) - from ≡ suc (at - from) = omega arith in
    let inside : at - from < length (drop from l) = simp length-drop (omega arith) in
    let place : from + (at - from) ≡ at = omega arith in
    ap (λ k. take k (drop from l)) one ∙ take-suc (drop from l) (at - from) x inside
    ∙ ap (λ y. take (at - from) (drop from l) ++ y ∷ []) (get_or-drop from l (at - from) x ∙ ap (λ k. get_or l k x) place ∙ sym is)

pub ahead_more : (l : List Token) (from at : ℕ) (x : Token) → IsAhead l from at → x ≡ get_or l at x → at < length l → is_param x ≡ false → IsAhead l from (at + 1)
ahead_more l from at x ahead is within plain =
    let here : parts (drop at l) ≡ with_token x (parts (drop (at + 1) l)) = ap parts (split_at l at x is within) ∙ token_before x (drop (at + 1) l) plain in
    record {
      order = omega (arith, ahead.order);
      most = omega arith;
      prefix = ahead.prefix ∙ ap (λ (p : Parts). slice_range l from at ++ p.prefix) here
          ∙ sym (append_assoc (slice_range l from at) (x ∷ []) (parts (drop (at + 1) l)).prefix)
          ∙ ap (λ k. k ++ (parts (drop (at + 1) l)).prefix) (sym (slice_more l from at x is ahead.order within));
      delimiters = ahead.delimiters ∙ ap (λ (p : Parts). p.delimiters) here;
    }

pub ahead_here : (l : List Token) (at : ℕ) (x : Token) → x ≡ get_or l at x → at < length l → is_param x ≡ true → parts (drop at l) ≡ with_param (parts (drop (at + 1) l))
ahead_here l at x is within param = ap parts (split_at l at x is within) ∙ param_before x (drop (at + 1) l) param

ended : (l : List Token) (from at : ℕ) → IsAhead l from at → (parts (drop at l)).prefix ≡ [] → (parts (drop from l)).prefix ≡ slice_range l from at
ended l from at ahead none = ahead.prefix ∙ ap (λ k. slice_range l from at ++ k) none ∙ append-nil (slice_range l from at)

pub ahead_prefix : (l : List Token) (from at : ℕ) (x : Token) → IsAhead l from at → x ≡ get_or l at x → at < length l → is_param x ≡ true
    → (parts (drop from l)).prefix ≡ slice_range l from at
ahead_prefix l from at x ahead is within param = ended l from at ahead (ap (λ (p : Parts). p.prefix) (ahead_here l at x is within param))

pub ahead_end : (l : List Token) (from at : ℕ) → IsAhead l from at → length l ≤ at → (parts (drop from l)).prefix ≡ slice_range l from at
ahead_end l from at ahead least =
    let whole : at ≡ length l = omega (arith, ahead.most) in
    ended l from at ahead (ap (λ k. (parts (drop k l)).prefix) whole ∙ ap (λ k. (parts k).prefix) (drop-length l))
