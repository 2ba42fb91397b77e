-- The words of a command line: any word, typeset, the name of a source, and then --kanji with a coding and --budget with a
-- number of units, each of which may be left out. All else is refused.
use Rattle.std.specs.Prelude.{ℕ, List, [], ◌∷◌, length, Bool, false, Option, Some, None, codes, nat_le, ◌==◌, ◌&&◌, if◌then◌else◌}
use Rattle.std.specs.Str.{bytes_eq}
use Rattle.std.specs.List.{list_all}
use Rattle.std.specs.Str.Parse.{digits_value}
use Rattle.ts_outside.specs.Names.{is_file_name}
use Rattle.ts_outside.specs.Endings.{with_ending, source_ending}
use Rattle.input_codings.specs.declared.coding.Coding.{Coding}
use Rattle.input_codings.specs.declared.coding.Coding.TheVariants.{Jis, Euc, Sjis}

-- what is asked: the source, its coding, and the units of its run
pub record Request : Type 0 where
  pub main : List ℕ
  pub coding : Coding
  pub budget : ℕ

-- ---- the name

-- whether a word of two bytes or more begins with a dash
abbrev pub is_option : List ℕ → Bool
is_option [] = false
is_option (b ∷ bs) = b == 45 && nat_le 1 (length bs)

-- a name with the ending of a source where it has none of its own, if that is the name of a file
abbrev pub named_source : List ℕ → Option (List ℕ)
named_source name = if is_file_name (with_ending source_ending name) then Some (with_ending source_ending name) else None

-- the source of a name
abbrev pub source_of : List ℕ → Option (List ℕ)
source_of name = if is_option name then None else (if is_file_name name then named_source name else None)

-- ---- the options

-- the coding of a word
abbrev pub coding_of : List ℕ → Option Coding
coding_of word = if bytes_eq word (codes "euc") then Some Euc else (if bytes_eq word (codes "jis") then Some Jis else (if bytes_eq word (codes "sjis") then Some Sjis else None))

abbrev pub is_digit : ℕ → Bool
is_digit b = nat_le 48 b && nat_le b 57

-- one to eight decimal digits
abbrev pub is_short_number : List ℕ → Bool
is_short_number word = nat_le 1 (length word) && nat_le (length word) 8 && list_all is_digit word

abbrev pub in_bounds : ℕ → Option ℕ
in_bounds n = if nat_le 1 n && nat_le n 50000000 then Some n else None

-- the units of a word, from 1 to 50,000,000
abbrev pub budget_of : List ℕ → Option ℕ
budget_of word = if is_short_number word then in_bounds (digits_value 10 word) else None

-- the coding and the units
pub record Options : Type 0 where
  pub coding : Coding
  pub budget : ℕ

abbrev pub usual_budget : ℕ
usual_budget = 5000000

abbrev pub options : Option Coding → Option ℕ → Option Options
options None budget = None
options (Some coding) None = None
options (Some coding) (Some budget) = Some (record { coding = coding; budget = budget })

abbrev pub one_option : List ℕ → List ℕ → Option Options
one_option option value =
    if bytes_eq option (codes "--kanji") then options (coding_of value) (Some usual_budget)
    else (if bytes_eq option (codes "--budget") then options (Some Euc) (budget_of value) else None)

abbrev pub two_options : List ℕ → List ℕ → List ℕ → List ℕ → Option Options
two_options first coding second budget =
    if bytes_eq first (codes "--kanji") && bytes_eq second (codes "--budget") then options (coding_of coding) (budget_of budget) else None

-- what stands after the name
abbrev pub options_of : List (List ℕ) → Option Options
options_of [] = options (Some Euc) (Some usual_budget)
options_of (option ∷ value ∷ []) = one_option option value
options_of (first ∷ coding ∷ second ∷ budget ∷ []) = two_options first coding second budget
options_of _ = None

-- ---- all words

abbrev pub request : Option Options → Option (List ℕ) → Option Request
request None main = None
request (Some options) None = None
request (Some options) (Some main) = Some (record { main = main; coding = options.coding; budget = options.budget })

abbrev pub asked_in : List ℕ → List ℕ → Option Options → Option Request
asked_in verb name options = if bytes_eq verb (codes "typeset") then request options (source_of name) else None

-- what the words ask; nothing where they are refused
abbrev pub asked : List (List ℕ) → Option Request
asked (program ∷ verb ∷ name ∷ words) = asked_in verb name (options_of words)
asked _ = None
