-- How much of a delimiter ends a text after one more token, told by how much ended it before (TeX: The Program, section 397).
use Rattle.std.specs.Prelude.{◌≡◌, ◌<◌, ℕ, zero, suc, ◌-◌, ◌&&◌, Bool, if◌then◌else◌, List, [], ◌∷◌, length, take, slice_index_or}
use Rattle.tok_lists.specs.declared.token.Token.{Token}
use Rattle.raw_texts.specs.declared.token.Brace.TheVariants.{Neither}
use Rattle.raw_texts.specs.Kinds.{brace_of}
use Rattle.macros.specs.Same.{is_same, are_same}
use Rattle.macros.specs.Matching.{back}

-- The first tokens of a delimiter, so many, are also the last ones of its first `many`.
abbrev pub is_border : List Token → ℕ → ℕ → Bool
is_border delimiter many few = are_same (back few (take many delimiter)) (take few delimiter)

abbrev pub next_to : List Token → ℕ → Token → ℕ → ℕ
next_to delimiter many token zero = 0
next_to delimiter many token (suc few) =
    if is_border delimiter many few && is_same token (slice_index_or delimiter few token) then suc few
    else next_to delimiter many token few

-- how many tokens of a delimiter end a text with this last token, where so many ended it before
abbrev pub next_match : List Token → ℕ → Token → ℕ
next_match delimiter many token = next_to delimiter many token (suc many)

-- None of the tokens is a brace.
abbrev pub AreNoBraces : List Token → Type 0
AreNoBraces [] = Unit {0}
AreNoBraces (token ∷ list) = (brace_of token ≡ Neither) × AreNoBraces list

-- A delimiter has a token, and no brace but as its last one.
pub record IsDelimiter (delimiter : List Token) : Type 0 where
  pub some : 0 < length delimiter
  pub braces : AreNoBraces (take (length delimiter - 1) delimiter)
