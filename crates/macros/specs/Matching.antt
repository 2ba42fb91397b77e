-- Where a delimited argument of a macro call ends (The TeXbook, chapter 20): at the first place where its delimiter ends the
-- text, with no group open before it.
use Rattle.std.specs.Prelude.{ℕ, zero, suc, ◌+◌, ◌-◌, ◌==◌, ◌&&◌, not, Bool, true, false, if◌then◌else◌, List, [], ◌∷◌, ◌++◌, length, take, drop, Result, Ok, Err}
use Rattle.std.specs.List.{list_any}
use Rattle.tok_lists.specs.declared.token.Token.{Token}
use Rattle.env_groups.specs.Environments.{Nest}
use Rattle.raw_texts.specs.declared.fault.MacroFault.{MacroFault}
use Rattle.raw_texts.specs.declared.fault.MacroFault.TheVariants.{UseMismatch, ArgParagraph}
use Rattle.raw_texts.specs.declared.machine.Progress.{Progress}
use Rattle.raw_texts.specs.declared.machine.Progress.TheVariants.{On, Done}
use Rattle.raw_texts.specs.declared.token.Brace.{Brace}
use Rattle.raw_texts.specs.declared.token.Brace.TheVariants.{Begin, End, Neither}
use Rattle.raw_texts.specs.Kinds.{brace_of, is_par}
use Rattle.macros.specs.Same.{are_same}

-- how many groups are open after a brace, where so many were
abbrev pub after_brace : ℕ → Brace → ℕ
after_brace open_groups Begin = open_groups + 1
after_brace open_groups End = open_groups - 1
after_brace open_groups Neither = open_groups

abbrev pub depth_from : ℕ → List Token → ℕ
depth_from open_groups [] = open_groups
depth_from open_groups (token ∷ text) = depth_from (after_brace open_groups (brace_of token)) text

-- how many groups are open at the end of a text
abbrev pub depth : List Token → ℕ
depth text = depth_from 0 text

-- a text without its last tokens, so many, and these by themselves
abbrev pub front : ℕ → List Token → List Token
front last text = take (length text - last) text

abbrev pub back : ℕ → List Token → List Token
back last text = drop (length text - last) text

-- So many tokens of a delimiter end the text, and no group is open before them.
abbrev pub fits : List Token → List Token → ℕ → Bool
fits delimiter text last = are_same (back last text) (take last delimiter) && (depth (front last text) == 0)

abbrev pub matched_to : ℕ → List Token → List Token → ℕ
matched_to zero delimiter text = 0
matched_to (suc last) delimiter text = if fits delimiter text (suc last) then suc last else matched_to last delimiter text

-- how many tokens of a delimiter end the text: as many as can
abbrev pub matched : List Token → List Token → ℕ
matched delimiter text = matched_to (length delimiter) delimiter text

-- The whole delimiter ends the text.
abbrev pub is_ended : List Token → List Token → Bool
is_ended delimiter text = matched delimiter text == length delimiter

-- the tokens of the argument by themselves: the text without what of the delimiter ends it
abbrev pub argument : List Token → List Token → List Token
argument delimiter text = front (matched delimiter text) text

abbrev pub has_par : List Token → Bool
has_par list = list_any is_par list

abbrev pub is_end : Brace → Bool
is_end Begin = false
is_end End = true
is_end Neither = false

-- a } of no group of the text
abbrev pub is_extra : List Token → Token → Bool
is_extra text token = (depth text == 0) && is_end (brace_of token)

-- an argument that is being read: its delimiter, whether the macro is long, and the text so far
pub record Search : Type 0 where
  pub delimiter : List Token
  pub long : Bool
  pub text : List Token

abbrev pub with_text : Search → List Token → Search
with_text s text = record { delimiter = s.delimiter; long = s.long; text = text }

-- what the text comes to by one more token
abbrev pub judged : Search → Token → List Token → Result (Progress × Search) MacroFault
judged s token text =
    if is_ended s.delimiter text then Ok (Done, with_text s text)
    else (if not s.long && has_par (argument s.delimiter text) then Err ArgParagraph
    else (if is_extra s.text token then Err UseMismatch
    else Ok (On, with_text s text)))

-- A search that ended takes no further token.
abbrev pub step : Nest → Search → Token → Result (Progress × Search) MacroFault
step nest s token = if is_ended s.delimiter s.text then Ok (Done, s) else judged s token (s.text ++ token ∷ [])
