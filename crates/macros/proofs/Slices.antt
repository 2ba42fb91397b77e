-- Parts of a list of tokens.
use Rattle.std.proofs.Common.{◌≡◌, ◌<◌, ap, arith, ℕ, zero, suc, ◌-◌, Bool, true, false, List, [], ◌∷◌, length, take, drop, refl}
use Rattle.std.specs.Prelude.{slice_range}
use Rattle.tok_lists.specs.declared.spelling.Spelling.{Spelling}
use Rattle.tok_lists.specs.declared.token.Token.{Token}
use Rattle.tok_lists.specs.Names.{AreHeld, HasNoParam}
use Rattle.env_groups.specs.Environments.{Nest}
use Rattle.mouth.specs.Reading.{Reading}
use Rattle.raw_texts.specs.Holding.{AreTokens}
use Rattle.macros.specs.Delimited.{is_one_group, stripped, delimited}
use Rattle.macros.specs.Undelimited.{undelimited}
use Rattle.macros.specs.Calls.{argument_of}

held_take : (names : List Spelling) (n : ℕ) (list : List Token) → AreHeld names list → AreHeld names (take n list)
held_take names zero list h = tt
held_take names (suc n) [] h = tt
held_take names (suc n) (t ∷ list) h = (h.0, held_take names n list h.1)

held_drop : (names : List Spelling) (n : ℕ) (list : List Token) → AreHeld names list → AreHeld names (drop n list)
held_drop names zero list h = h
held_drop names (suc n) [] h = tt
held_drop names (suc n) (t ∷ list) h = held_drop names n list h.1

param_take : (n : ℕ) (list : List Token) → HasNoParam list → HasNoParam (take n list)
param_take zero list h = tt
param_take (suc n) [] h = tt
param_take (suc n) (t ∷ list) h = (h.0, param_take n list h.1)

param_drop : (n : ℕ) (list : List Token) → HasNoParam list → HasNoParam (drop n list)
param_drop zero list h = h
param_drop (suc n) [] h = tt
param_drop (suc n) (t ∷ list) h = param_drop n list h.1

pub tokens_take : (names : List Spelling) (n : ℕ) (list : List Token) → AreTokens names list → AreTokens names (take n list)
tokens_take names n list are = record { held = held_take names n list are.held; no_param = param_take n list are.no_param }

pub tokens_drop : (names : List Spelling) (n : ℕ) (list : List Token) → AreTokens names list → AreTokens names (drop n list)
tokens_drop names n list are = record { held = held_drop names n list are.held; no_param = param_drop n list are.no_param }

pub stripped_tokens : (names : List Spelling) (list : List Token) → AreTokens names list → AreTokens names (stripped list)
stripped_tokens names list are = at (is_one_group list) refl
  where
    at : (b : Bool) → is_one_group list ≡ b → AreTokens names (stripped list)
    at true is = rw is (tokens_take names (length list - 1 - 1) (drop 1 list) (tokens_drop names 1 list are))
    at false is = rw is are

-- ---- a part of a parameter text as a delimiter

pub no_delimiter : (nest : Nest) (long : Bool) (params : List Token) (from to : ℕ) (r : Reading) → from ≡ to
    → argument_of nest long (slice_range params from to) r ≡ undelimited nest long r
no_delimiter nest long params from to r same =
    let none : to - from ≡ 0 = omega (arith, same) in
    ap (λ n. argument_of nest long (take n (drop from params)) r) none

pub some_delimiter : (nest : Nest) (long : Bool) (delimiter : List Token) (r : Reading) → 0 < length delimiter
    → argument_of nest long delimiter r ≡ delimited nest long delimiter r
some_delimiter nest long [] r some = absurd (omega arith)
some_delimiter nest long (token ∷ delimiter) r some = refl
