-- What tokens are in texts that are read without expansion: only characters are braces, # and spaces (The TeXbook,
-- chapter 20).
use Rattle.std.specs.Prelude.{ℕ, ◌==◌, Bool, false, if◌then◌else◌}
use Rattle.tok_lists.specs.declared.token.Token.{Token}
use Rattle.tok_lists.specs.declared.token.Token.TheVariants as tokens
use Rattle.raw_texts.specs.declared.token.Brace.{Brace}
use Rattle.raw_texts.specs.declared.token.Brace.TheVariants.{Begin, End, Neither}

-- a character of a category
abbrev pub is_category : ℕ → Token → Bool
is_category wanted (tokens.Char code cat) = cat == wanted
is_category wanted (tokens.Ja cell) = false
is_category wanted (tokens.Name name) = false
is_category wanted (tokens.Kept name) = false
is_category wanted (tokens.Param n) = false

-- a character of category 1 or 2
abbrev pub brace_of : Token → Brace
brace_of (tokens.Char code cat) = if cat == 1 then Begin else (if cat == 2 then End else Neither)
brace_of (tokens.Ja cell) = Neither
brace_of (tokens.Name name) = Neither
brace_of (tokens.Kept name) = Neither
brace_of (tokens.Param n) = Neither

-- the number of the name \par, by its place among the names of the start
abbrev pub par : ℕ
par = 72

-- It is the name \par, whatever that means.
abbrev pub is_par : Token → Bool
is_par (tokens.Char code cat) = false
is_par (tokens.Ja cell) = false
is_par (tokens.Name name) = name.0 == par
is_par (tokens.Kept name) = false
is_par (tokens.Param n) = false
