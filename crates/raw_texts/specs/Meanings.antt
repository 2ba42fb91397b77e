-- What tokens mean: a character means itself, and a name what the environment has for it (The TeXbook, chapter 20).
use Rattle.std.specs.Prelude.{ℕ, Bool, true, false}
use Rattle.tok_lists.specs.declared.token.Token.{Token}
use Rattle.tok_lists.specs.declared.token.Token.TheVariants as tokens
use Rattle.env_groups.specs.declared.prim.PrimitiveName.{PrimitiveName}
use Rattle.env_groups.specs.declared.prim.PrimitiveName.TheVariants as prims
use Rattle.env_groups.specs.declared.meaning.Meaning.{Meaning}
use Rattle.env_groups.specs.declared.meaning.Meaning.TheVariants.{Primitive, Letter}
use Rattle.env_groups.specs.Environments.{Nest, meaning_at}
use Rattle.raw_texts.specs.Kinds.{is_category}

-- A Kept token means what its name means.
abbrev pub meaning_of : Nest → Token → Meaning
meaning_of nest (tokens.Char code cat) = Letter (tokens.Char code cat)
meaning_of nest (tokens.Ja cell) = Letter (tokens.Ja cell)
meaning_of nest (tokens.Name name) = meaning_at nest name.0
meaning_of nest (tokens.Kept name) = meaning_at nest name.0
meaning_of nest (tokens.Param n) = Letter (tokens.Param n)

-- a character of a category, also by \let
abbrev pub means_category : ℕ → Meaning → Bool
means_category cat (Letter token) = is_category cat token
means_category cat _ = false

abbrev pub is_relax : PrimitiveName → Bool
is_relax prims.Relax = true
is_relax _ = false

-- a space, also by \let, or \relax
abbrev pub is_blank : Meaning → Bool
is_blank (Letter token) = is_category 10 token
is_blank (Primitive prim) = is_relax prim
is_blank _ = false
