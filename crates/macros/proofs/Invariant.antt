-- What is true of a search, and stays so.
use Rattle.std.proofs.Common.{◌≡◌, ◌≢◌, ℕ, zero, suc, ◌+◌, ◌-◌, ◌<◌, ◌≤◌, Bool, true, false, List, [], ◌∷◌, ◌++◌, length, take, refl, sym, ap, ◌∙◌, subst, arith}
use Rattle.std.specs.Prelude.{◌&&◌, ◌||◌, not}
use Rattle.std.proofs.lemmas.Bool.{eqb-false}
use Rattle.tok_lists.specs.declared.token.Token.{Token}
use Rattle.raw_texts.specs.Kinds.{brace_of}
use Rattle.macros.specs.Matching.{Search, with_text, after_brace, depth, front, matched, argument, has_par, is_ended}
use Rattle.macros.specs.Borders.{next_match, IsDelimiter}
use Rattle.macros.specs.Searches.{IsSearch, search_for}
use Rattle.macros.proofs.Searching.{matched_most, matched_within, next_outside, next_within, par_more, depth_last}

pub many_most : (s : Search) (groups many : ℕ) → IsSearch s groups many → many ≤ length s.delimiter
many_most s groups many is = omega (arith, is.ends, matched_most (length s.delimiter) s.delimiter s.text)

pub many_within : (s : Search) (groups many : ℕ) → IsSearch s groups many → many ≤ length s.text
many_within s groups many is = omega (arith, is.ends, matched_within s.delimiter s.text)

pub many_less : (s : Search) (groups many : ℕ) → IsSearch s groups many → is_ended s.delimiter s.text ≡ false → many < length s.delimiter
many_less s groups many is going =
    let differs : matched s.delimiter s.text ≢ length s.delimiter = eqb-false (matched s.delimiter s.text) (length s.delimiter) going in
    let most = matched_most (length s.delimiter) s.delimiter s.text in
    omega (arith, is.ends, differs, most)

pub next_closed : (s : Search) (groups many : ℕ) (t : Token) → IsSearch s groups many → is_ended s.delimiter s.text ≡ false → groups ≤ 0
    → next_match s.delimiter many t ≡ matched s.delimiter (s.text ++ t ∷ [])
next_closed s groups many t is going closed =
    let none : depth s.text ≡ 0 = sym is.groups ∙ omega arith in
    let less : matched s.delimiter s.text < length s.delimiter = subst (λ n. n < length s.delimiter) is.ends (many_less s groups many is going) in
    ap (λ n. next_match s.delimiter n t) is.ends ∙ sym (next_outside s.delimiter s.text t is.delimiter none less)

pub next_many_most : (s : Search) (groups many : ℕ) (t : Token) (m : ℕ) → IsSearch s groups many → m ≡ matched s.delimiter (s.text ++ t ∷ []) → m ≤ many + 1
next_many_most s groups many t m is same = omega (arith, is.ends, same, next_within s.delimiter s.text t)

or_false : (a b : Bool) → a ≡ false → (a || b) ≡ b
or_false true b h = absurd cc
or_false false b h = refl

certain : (s : Search) (groups many : ℕ) (t : Token) (m : ℕ) → IsSearch s groups many → s.long ≡ false → m ≡ matched s.delimiter (s.text ++ t ∷ [])
    → has_par (argument s.delimiter (s.text ++ t ∷ [])) ≡ has_par (take (suc many - m) (take many s.delimiter ++ t ∷ []))
certain s groups many t m is short same =
    let n = matched s.delimiter s.text in
    let before : has_par (argument s.delimiter s.text) ≡ false = subst (λ l. (not l && has_par (argument s.delimiter s.text)) ≡ false) short is.par in
    let within : m ≤ suc n = subst (λ k. k ≤ suc n) (sym same) (next_within s.delimiter s.text t) in
    ap (λ k. has_par (front k (s.text ++ t ∷ []))) (sym same) ∙ par_more s.delimiter s.text t m within
    ∙ or_false (has_par (argument s.delimiter s.text)) (has_par (take (suc n - m) (take n s.delimiter ++ t ∷ []))) before
    ∙ ap (λ k. has_par (take (suc k - m) (take k s.delimiter ++ t ∷ []))) (sym is.ends)

pub par_after : (s : Search) (groups many : ℕ) (t : Token) (m : ℕ) → IsSearch s groups many → s.long ≡ false → m ≡ matched s.delimiter (s.text ++ t ∷ [])
    → has_par (take (suc many - m) (take many s.delimiter ++ t ∷ [])) ≡ (not s.long && has_par (argument s.delimiter (s.text ++ t ∷ [])))
par_after s groups many t m is short same =
    sym (certain s groups many t m is short same) ∙ ap (λ l. not l && has_par (argument s.delimiter (s.text ++ t ∷ []))) (sym short)

pub par_done : (s : Search) (groups many : ℕ) (t : Token) (m : ℕ) → IsSearch s groups many → is_ended s.delimiter s.text ≡ false → m ≡ matched s.delimiter (s.text ++ t ∷ []) → m ≡ length s.delimiter
    → (not s.long && has_par (argument s.delimiter (s.text ++ t ∷ []))) ≡ false
par_done s groups many t m is going same whole = at s.long refl
  where
    at : (l : Bool) → s.long ≡ l → (not s.long && has_par (argument s.delimiter (s.text ++ t ∷ []))) ≡ false
    at true h = ap (λ l. not l && has_par (argument s.delimiter (s.text ++ t ∷ []))) h
    at false h =
        let none : suc many - m ≡ 0 = omega (arith, whole, many_less s groups many is going) in
        ap (λ l. not l && has_par (argument s.delimiter (s.text ++ t ∷ []))) h ∙ certain s groups many t m is h same
        ∙ ap (λ k. has_par (take k (take many s.delimiter ++ t ∷ []))) none

pub search_more : (s : Search) (groups many : ℕ) (t : Token) (after m : ℕ) → IsSearch s groups many → after ≡ after_brace groups (brace_of t) → m ≡ matched s.delimiter (s.text ++ t ∷ [])
    → (not s.long && has_par (argument s.delimiter (s.text ++ t ∷ []))) ≡ false → IsSearch (with_text s (s.text ++ t ∷ [])) after m
search_more s groups many t after m is deep same par = record {
  delimiter = is.delimiter;
  groups = deep ∙ ap (λ n. after_brace n (brace_of t)) is.groups ∙ sym (depth_last s.text t);
  ends = same;
  par = par;
}

nothing_of : (n : ℕ) → has_par (take n []) ≡ false
nothing_of zero = refl
nothing_of (suc n) = refl

pub search_begun : (params : List Token) (from to : ℕ) (long : Bool) → IsDelimiter (search_for params from to long []).delimiter → IsSearch (search_for params from to long []) 0 0
search_begun params from to long is =
    let d = (search_for params from to long []).delimiter in
    let none : matched d [] ≡ 0 = omega (arith, matched_within d []) in
    record { delimiter = is; groups = refl; ends = sym none; par = nothing long (matched d []) }
  where
    nothing : (l : Bool) (k : ℕ) → (not l && has_par (front k [])) ≡ false
    nothing true k = refl
    nothing false k = nothing_of (0 - k)
