-- What is true of a search for a delimiter at all times.
use Rattle.std.specs.Prelude.{◌≡◌, ◌≤◌, ℕ, ◌&&◌, not, Bool, false, List, length, slice_range}
use Rattle.tok_lists.specs.declared.token.Token.{Token}
use Rattle.macros.specs.Matching.{Search, depth, matched, argument, has_par}
use Rattle.macros.specs.Borders.{IsDelimiter}

-- So many groups are open at the end of the text, and so many tokens of the delimiter end it; and no \par stands in the
-- argument, unless the macro is long.
pub record IsSearch (s : Search) (open_groups many : ℕ) : Type 0 where
  pub delimiter : IsDelimiter s.delimiter
  pub groups : open_groups ≡ depth s.text
  pub ends : many ≡ matched s.delimiter s.text
  pub par : (not s.long && has_par (argument s.delimiter s.text)) ≡ false

-- a search for the part of a parameter text from one place to another
abbrev pub search_for : List Token → ℕ → ℕ → Bool → List Token → Search
search_for params from to long text = record { delimiter = slice_range params from to; long = long; text = text }

-- The part is within the parameter text.
pub record IsWithin (params : List Token) (from to : ℕ) : Type 0 where
  pub order : from ≤ to
  pub most : to ≤ length params
