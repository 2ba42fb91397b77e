-- The words of a command line: any word, typeset, the name of a source, and perhaps --kanji and a coding.
use Rattle.std.specs.Prelude.{ℕ, List, [], ◌∷◌, length, Bool, false, Option, Some, None, codes, nat_le, ◌==◌, ◌&&◌, if◌then◌else◌}
use Rattle.std.specs.Str.{bytes_eq}
use Rattle.ts_outside.specs.Names.{is_file_name}
use Rattle.ts_outside.specs.Endings.{with_ending, source_ending}
use Rattle.input_codings.specs.declared.coding.Coding.{Coding}
use Rattle.input_codings.specs.declared.coding.Coding.TheVariants.{Jis, Euc, Sjis}

-- what is asked: the source, and its coding
pub record Request : Type 0 where
  pub main : List ℕ
  pub coding : Coding

-- whether a word of two bytes or more begins with a dash
abbrev pub is_option : List ℕ → Bool
is_option [] = false
is_option (b ∷ bs) = b == 45 && nat_le 1 (length bs)

-- a name with the ending of a source where it has none of its own, if that is the name of a file
abbrev pub named_source : List ℕ → Option (List ℕ)
named_source name = if is_file_name (with_ending source_ending name) then Some (with_ending source_ending name) else None

-- the source of a name
abbrev pub source_of : List ℕ → Option (List ℕ)
source_of name = if is_option name then None else (if is_file_name name then named_source name else None)

-- the coding of a word
abbrev pub coding_of : List ℕ → Option Coding
coding_of word = if bytes_eq word (codes "euc") then Some Euc else (if bytes_eq word (codes "jis") then Some Jis else (if bytes_eq word (codes "sjis") then Some Sjis else None))

abbrev pub in_coding : Option Coding → Option (List ℕ) → Option Request
in_coding None main = None
in_coding (Some coding) None = None
in_coding (Some coding) (Some main) = Some (record { main = main; coding = coding })

-- what a verb, a name and a coding ask
abbrev pub asked_in : Option Coding → List ℕ → List ℕ → Option Request
asked_in coding verb name = if bytes_eq verb (codes "typeset") then in_coding coding (source_of name) else None

-- what the words ask; nothing where they are refused
abbrev pub asked : List (List ℕ) → Option Request
asked (program ∷ verb ∷ name ∷ []) = asked_in (Some Euc) verb name
asked (program ∷ verb ∷ name ∷ option ∷ word ∷ []) = if bytes_eq option (codes "--kanji") then asked_in (coding_of word) verb name else None
asked _ = None
