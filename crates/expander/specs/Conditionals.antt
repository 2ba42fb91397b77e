-- How conditionals go on and end (The TeXbook, chapter 20; TeX: The Program, sections 489 to 510).
use Rattle.std.specs.Prelude.{ℕ, zero, suc, ◌-◌, Bool, true, false, if◌then◌else◌, List, [], ◌∷◌, length, Option, Some, None, Ok, Err, slice_get}
use Rattle.ts_base.specs.Agreement.{◌>>=◌, with_fault}
use Rattle.tok_lists.specs.declared.token.Token.{Token}
use Rattle.tok_lists.specs.declared.token.Token.TheVariants as tokens
use Rattle.env_groups.specs.Environments.{Nest}
use Rattle.mouth.specs.declared.allowed.Allowed.{Allowed}
use Rattle.mouth.specs.declared.allowed.Allowed.TheVariants as allowed
use Rattle.mouth.specs.Reading.{Reading}
use Rattle.mouth.specs.Changes.{changed, closed}
use Rattle.raw_texts.specs.declared.limb.Limb.{Limb}
use Rattle.raw_texts.specs.declared.limb.Limb.TheVariants as limbs
use Rattle.raw_texts.specs.declared.skipping.Until.TheVariants as until
use Rattle.raw_texts.specs.declared.skipping.Ended.{Ended}
use Rattle.raw_texts.specs.declared.skipping.Ended.TheVariants as ended
use Rattle.raw_texts.specs.Skipping.{skipped}
use Rattle.expander.specs.Faults.{of_text, extra_conditional}
use Rattle.expander.specs.Worlds.{Outcome, put}

-- the number of the name \relax, by its place among the names of the start
abbrev pub relax : ℕ
relax = 69

-- what is allowed in the innermost conditional, if one is open
abbrev pub innermost : List Allowed → Option Allowed
innermost conditionals = slice_get conditionals (length conditionals - 1)

-- ---- \else, \or and \fi

-- An \or may come in an \ifcase before its \else, an \else in a conditional that had none, and a \fi in any whose test is
-- decided.
abbrev pub allows : Allowed → Limb → Bool
allows allowed.Or limbs.Or = true
allows allowed.Or limbs.Else = true
allows allowed.Else limbs.Else = true
allows allowed.Or limbs.Fi = true
allows allowed.Else limbs.Fi = true
allows allowed.Fi limbs.Fi = true
allows _ _ = false

-- The branch that was taken ends here, and text is skipped up to the \fi, which is taken.
abbrev pub branch_ended : Nest → Limb → Reading → Outcome Reading
branch_ended nest limbs.Fi r = Ok (closed r)
branch_ended nest _ r = with_fault of_text (skipped nest until.Fi r) >>= λ e. Ok (closed e.1)

-- The token is put back after a \relax that isn't expanded.
abbrev pub put_back : Token → Reading → Outcome Reading
put_back token r = put (tokens.Kept (record { 0 = relax }) ∷ token ∷ []) r

-- what such a token does where so much is allowed
abbrev pub limb_where : Nest → Token → Limb → Option Allowed → Reading → Outcome Reading
limb_where nest token limb None r = Err (extra_conditional r)
limb_where nest token limb (Some allowed.Test) r = put_back token r
limb_where nest token limb (Some present) r = if allows present limb then branch_ended nest limb r else Err (extra_conditional r)

abbrev pub limb_met : Nest → Token → Limb → Reading → Outcome Reading
limb_met nest token limb r = limb_where nest token limb (innermost r.conditionals) r

-- ---- what follows a test

-- Text was skipped after a false test: its \else lets the second branch be read, and its \fi ends the conditional.
abbrev pub after_false : ℕ → Ended → Reading → Reading
after_false number ended.Fi r = closed r
after_false number _ r = changed number allowed.Fi r

-- So many conditionals, the innermost first, are passed over, each up to its \fi, as where an \else ends a branch.
unfoldable pub passed_over : Nest → ℕ → Reading → Outcome Reading
passed_over nest zero r = Ok r
passed_over nest (suc n) r = branch_ended nest limbs.Else r >>= λ r. passed_over nest n r

-- how many conditionals are open in that of a number: those that its test opened, and that didn't end in it
abbrev pub inner_count : ℕ → Reading → ℕ
inner_count number r = length r.conditionals - number - 1

-- The test of the conditional of a number is decided.
abbrev pub decided : Nest → ℕ → Bool → Reading → Outcome Reading
decided nest number true r = Ok (changed number allowed.Else r)
decided nest number false r =
    passed_over nest (inner_count number r) r
    >>= λ r. with_fault of_text (skipped nest until.Else r) >>= λ e. Ok (after_false number e.0 e.1)
