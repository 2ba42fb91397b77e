-- Laws of the flat list of tokens: lists put one before another, and bodies with their arguments put in place.
use Prim.Native.Nat.{zero, suc}
use Rattle.std.proofs.Common.{◌≡◌, ℕ, ◌+◌, ◌<◌, ◌≤◌, ◌-◌, List, [], ◌∷◌, ◌++◌, length, get_or, slice_get, take, drop, Option, Some, None, Ok, IfSome, refl, sym, ap, subst, ◌∙◌, arith, length-append}
use Rattle.std.specs.List.{flat_map}
use Rattle.std.proofs.lemmas.List.{take-append-drop, take_more}
use Rattle.std.proofs.lemmas.List.Concat.{flat_map-append}
use Rattle.tok_lists.specs.declared.spelling.Spelling.{Spelling}
use Rattle.tok_lists.specs.declared.token.Token.{Token}
use Rattle.tok_lists.specs.declared.token.Token.TheVariants as tokens
use Rattle.tok_lists.specs.Names.{Grew, IsHeld, AreHeld, IsNoParam, HasNoParam}
use Rattle.tok_lists.specs.Pending.{in_place, with_arguments, put_before, Takes, HaveNoParam, AllHeld}
use Rattle.tok_lists.proofs.Growing.{all_held_still}

-- A list without parameters is as it is, whatever the arguments are.
pub unchanged : (args : List (List Token)) (list : List Token) → HasNoParam list → with_arguments args list ≡ list
unchanged args [] none = refl
unchanged args (tokens.Char code cat ∷ list) none = ap (λ (rest : List Token). tokens.Char code cat ∷ rest) (unchanged args list none.1)
unchanged args (tokens.Ja cell ∷ list) none = ap (λ (rest : List Token). tokens.Ja cell ∷ rest) (unchanged args list none.1)
unchanged args (tokens.Name name ∷ list) none = ap (λ (rest : List Token). tokens.Name name ∷ rest) (unchanged args list none.1)
unchanged args (tokens.Kept name ∷ list) none = ap (λ (rest : List Token). tokens.Kept name ∷ rest) (unchanged args list none.1)
unchanged args (tokens.Param n ∷ list) none = absurd none.0

-- A front of a body has no more tokens than the body.
pub front_is_shorter : (args : List (List Token)) (body : List Token) (i : ℕ) → length (with_arguments args (take i body)) ≤ length (with_arguments args body)
front_is_shorter args body i =
    let parts = flat_map-append (in_place args) (take i body) (drop i body) in
    let whole = ap (flat_map (in_place args)) (take-append-drop i body) in
    let sizes : length (with_arguments args (take i body) ++ with_arguments args (drop i body)) ≡ length (with_arguments args body) = ap length (sym parts ∙ whole) in
    omega (arith, length-append (with_arguments args (take i body)) (with_arguments args (drop i body)), sizes)

-- The front of a body with the next token, of which what stands in its place is put after what stood there.
pub next_length : (args : List (List Token)) (body : List Token) (i : ℕ) (token : Token) → i < length body → token ≡ get_or body i token
    → length (with_arguments args (take (i + 1) body)) ≡ length (with_arguments args (take i body)) + length (in_place args token)
next_length args body i token within at =
    let front : take (i + 1) body ≡ take i body ++ token ∷ [] = take_more body i token within ∙ ap (λ (t : Token). take i body ++ t ∷ []) (sym at) in
    let parts : with_arguments args (take (i + 1) body) ≡ with_arguments args (take i body) ++ (in_place args token ++ []) =
    ap (with_arguments args) front ∙ flat_map-append (in_place args) (take i body) (token ∷ []) in
    let sizes : length (with_arguments args (take (i + 1) body)) ≡ length (with_arguments args (take i body) ++ (in_place args token ++ [])) = ap length parts in
    omega (arith, sizes, length-append (with_arguments args (take i body)) (in_place args token ++ []), length-append (in_place args token) [])

pub held_together : (names : List Spelling) (list pending : List Token) → AreHeld names list → AreHeld names pending → AreHeld names (list ++ pending)
held_together names [] pending held others = others
held_together names (token ∷ list) pending held others = (held.0, held_together names list pending held.1 others)

argument_held : (names : List Spelling) (args : List (List Token)) (n : ℕ) → AllHeld names args → AreHeld names (get_or args n [])
argument_held names [] n held = tt
argument_held names (list ∷ args) zero held = held.0
argument_held names (list ∷ args) (suc n) held = argument_held names args n held.1

in_place_held : (names : List Spelling) (args : List (List Token)) (token : Token) → AllHeld names args → IsHeld names token → AreHeld names (in_place args token)
in_place_held names args (tokens.Char code cat) held itself = (itself, tt)
in_place_held names args (tokens.Ja cell) held itself = (itself, tt)
in_place_held names args (tokens.Name name) held itself = (itself, tt)
in_place_held names args (tokens.Kept name) held itself = (itself, tt)
in_place_held names args (tokens.Param n) held itself = argument_held names args (n - 1) held

pub call_held : (names : List Spelling) (args : List (List Token)) (body : List Token) → AllHeld names args → AreHeld names body → AreHeld names (with_arguments args body)
call_held names args [] held body = tt
call_held names args (token ∷ body) held both =
    held_together names (in_place args token) (with_arguments args body) (in_place_held names args token held both.0) (call_held names args body held both.1)

pub held_at : (names : List Spelling) (list : List Token) (at : ℕ) (token : Token) → AreHeld names list → slice_get list at ≡ Some token → IsHeld names token
held_at names [] at token held is = absurd (grind arith)
held_at names (first ∷ list) zero token held is = let same : first ≡ token = grind arith in subst (IsHeld names) same held.0
held_at names (first ∷ list) (suc at) token held is = held_at names list at token held.1 is

pub taken_held : (names : List Spelling) (old new : List Token) (token : Option Token) → Takes old token new → AreHeld names old → IfSome token (IsHeld names) × AreHeld names new
taken_held names old new None taken held = (tt, subst (AreHeld names) (sym taken.1) tt)
taken_held names old new (Some token) taken held = subst (AreHeld names) taken held

pub all_held_last : (names : List Spelling) (args : List (List Token)) (last : List Token) → AllHeld names args → AreHeld names last → AllHeld names (args ++ last ∷ [])
all_held_last names [] last all held = (held, tt)
all_held_last names (first ∷ args) last all held = (all.0, all_held_last names args last all.1 held)

pub lists_held_still : (old new : List Spelling) (args : List (List Token)) → Grew old new → AllHeld old args → AllHeld new args
lists_held_still old new [] grew all = tt
lists_held_still old new (first ∷ args) grew all = (all_held_still old new first grew all.0, lists_held_still old new args grew all.1)

pub no_param_together : (list pending : List Token) → HasNoParam list → HasNoParam pending → HasNoParam (list ++ pending)
no_param_together [] pending none others = others
no_param_together (token ∷ list) pending none others = (none.0, no_param_together list pending none.1 others)

argument_no_param : (args : List (List Token)) (n : ℕ) → HaveNoParam args → HasNoParam (get_or args n [])
argument_no_param [] n none = tt
argument_no_param (list ∷ args) zero none = none.0
argument_no_param (list ∷ args) (suc n) none = argument_no_param args n none.1

in_place_no_param : (args : List (List Token)) (token : Token) → HaveNoParam args → HasNoParam (in_place args token)
in_place_no_param args (tokens.Char code cat) none = (tt, tt)
in_place_no_param args (tokens.Ja cell) none = (tt, tt)
in_place_no_param args (tokens.Name name) none = (tt, tt)
in_place_no_param args (tokens.Kept name) none = (tt, tt)
in_place_no_param args (tokens.Param n) none = argument_no_param args (n - 1) none

pub call_no_param : (args : List (List Token)) (body : List Token) → HaveNoParam args → HasNoParam (with_arguments args body)
call_no_param args [] none = tt
call_no_param args (token ∷ body) none =
    no_param_together (in_place args token) (with_arguments args body) (in_place_no_param args token none) (call_no_param args body none)

pub no_param_at : (list : List Token) (at : ℕ) (token : Token) → HasNoParam list → slice_get list at ≡ Some token → IsNoParam token
no_param_at [] at token none is = absurd (grind arith)
no_param_at (first ∷ list) zero token none is = let same : first ≡ token = grind arith in subst IsNoParam same none.0
no_param_at (first ∷ list) (suc at) token none is = no_param_at list at token none.1 is

pub taken_no_param : (old new : List Token) (token : Option Token) → Takes old token new → HasNoParam old → IfSome token IsNoParam × HasNoParam new
taken_no_param old new None taken none = (tt, subst HasNoParam (sym taken.1) tt)
taken_no_param old new (Some token) taken none = subst HasNoParam taken none

pub no_param_last : (args : List (List Token)) (last : List Token) → HaveNoParam args → HasNoParam last → HaveNoParam (args ++ last ∷ [])
no_param_last [] last all none = (none, tt)
no_param_last (first ∷ args) last all none = (all.0, no_param_last args last all.1 none)

pub put_is : (list pending new : List Token) → put_before list pending ≡ Ok new → new ≡ list ++ pending
put_is list pending new put = grind arith
