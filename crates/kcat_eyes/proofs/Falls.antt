-- Each token leaves fewer characters that may still be seen, by the definition.
use Rattle.std.proofs.Common.{◌≡◌, ◌≤◌, ◌<◌, ℕ, suc, ◌+◌, ◌-◌, ◌*◌, List, [], ◌∷◌, length, drop, Bool, true, false, Option, Some, None, Result, Ok, Err, refl, arith, length-drop, nat_lt}
use Rattle.std.specs.Prelude.{if◌then◌else◌, ◌==◌, ◌||◌}
use Rattle.std.proofs.lemmas.Grind.{common_steps}
use Rattle.std.proofs.lemmas.Bool.Decides.{nat_tests}
use Rattle.ts_base.specs.Agreement.{◌>>=◌, with_fault}
use Rattle.jis_codes.specs.declared.character.Char.{Char}
use Rattle.jis_codes.specs.declared.character.Char.TheVariants.{One, Ja}
use Rattle.tok_lists.specs.declared.spelling.Spelling.{Spelling}
use Rattle.tok_lists.specs.declared.token.Token.TheVariants as tokens
use Rattle.tok_lists.specs.declared.fault.NamesFault.{NamesFault}
use Rattle.tok_lists.specs.Codes.{Codes}
use Rattle.tok_lists.specs.Names.{numbered, with_name}
use Rattle.input_codings.specs.declared.coding.Coding.{Coding}
use Rattle.input_codings.specs.declared.fault.LineFault.{LineFault}
use Rattle.input_codings.specs.declared.fault.LineFault.TheVariants as line_faults
use Rattle.input_codings.specs.Decoding.{decoded}
use Rattle.input_codings.specs.Pieces.{Piece, pieces, text_of}
use Rattle.input_codings.specs.Lines.{Unread, past_line, characters, closed, most_lines, most_bytes}
use Rattle.input_codings.proofs.Short.{characters_short}
use Rattle.kcat_eyes.specs.declared.state.State.{State}
use Rattle.kcat_eyes.specs.declared.state.State.TheVariants.{NewLine, MidLine, SkipBlanks, Kanji}
use Rattle.kcat_eyes.specs.declared.seen.Seen.{Seen}
use Rattle.kcat_eyes.specs.declared.seen.Seen.TheVariants as seen
use Rattle.kcat_eyes.specs.Eyes.{Glance, Gives, Spells, Invalid, Nothing, Sight, Look, FaultAt, at_line, is_letter, letters, escaped, line_end, blank, of_category, met, in_line, looked, named, name_fault, eye_fault, in_lines, after_line, still_read, next}
use Rattle.kcat_eyes.specs.Sights.{ahead, most_in_line}

-- Fewer than so many characters are left of the line.
abbrev IsShorter : ℕ → Glance → Type 0
IsShorter n (Gives token state rest) = length rest < n
IsShorter n (Spells spelling state rest) = length rest < n
IsShorter n Invalid = Unit {0}
IsShorter n Nothing = Unit {0}

longer : (n : ℕ) (glance : Glance) → IsShorter n glance → IsShorter (suc n) glance
longer n (Gives token state rest) h = omega (arith, h)
longer n (Spells spelling state rest) h = omega (arith, h)
longer n Invalid h = tt
longer n Nothing h = tt

either : (n : ℕ) (test : Bool) (x y : Glance) → IsShorter n x → IsShorter n y → IsShorter n (if test then x else y)
either n true x y of_x of_y = of_x
either n false x y of_x of_y = of_y

escaped_shorter : (codes : Codes) (rest : List Char) → IsShorter (suc (length rest)) (escaped codes rest)
escaped_shorter codes [] = omega arith
escaped_shorter codes (c ∷ rest) =
    let dropped : length (drop (letters codes (c ∷ rest)) (c ∷ rest)) < suc (suc (length rest)) = grind (arith, common_steps) in
    let less : length rest < suc (suc (length rest)) = omega arith in
    either _ (is_letter codes c) _ _ dropped less

end_shorter : (n : ℕ) (state : State) → IsShorter (suc n) (line_end state)
end_shorter n NewLine = omega arith
end_shorter n MidLine = omega arith
end_shorter n SkipBlanks = tt
end_shorter n Kanji = tt

blank_shorter : (state : State) (rest : List Char) (skipped : Glance) → IsShorter (length rest) skipped → IsShorter (suc (length rest)) (blank state rest skipped)
blank_shorter NewLine rest skipped h = longer (length rest) skipped h
blank_shorter SkipBlanks rest skipped h = longer (length rest) skipped h
blank_shorter MidLine rest skipped h = omega arith
blank_shorter Kanji rest skipped h = omega arith

category_shorter : (codes : Codes) (state : State) (c cat : ℕ) (rest : List Char) (skipped : Glance) → IsShorter (length rest) skipped → IsShorter (suc (length rest)) (of_category codes state c cat rest skipped)
category_shorter codes state c cat rest skipped h =
    let less : length rest < suc (length rest) = omega arith in
    either _ (cat == 0) _ _ (escaped_shorter codes rest)
    (either _ ((cat == 1) || (cat == 2)) _ _ less
    (either _ (cat == 5) _ _ (end_shorter (length rest) state)
    (either _ (cat == 9) _ _ (longer (length rest) skipped h)
    (either _ (cat == 10) _ _ (blank_shorter state rest skipped h)
    (either _ (cat == 13) _ _ less
    (either _ (cat == 14) _ _ tt
    (either _ (cat == 15) _ _ tt less)))))))

in_line_shorter : (codes : Codes) (state : State) (rest : List Char) → IsShorter (length rest) (in_line codes state rest)
in_line_shorter codes state [] = tt
in_line_shorter codes state (One c ∷ rest) = category_shorter codes state c (codes.cat c) rest (in_line codes state rest) (in_line_shorter codes state rest)
in_line_shorter codes state (Ja k ∷ rest) = omega arith

-- A token leaves fewer than so many characters, and the end no more.
abbrev IsLower : ℕ → Seen → Sight → Type 0
IsLower n (seen.Token token) sight = ahead sight.lines.line_no sight.rest < n
IsLower n seen.End sight = ahead sight.lines.line_no sight.rest ≤ n

abbrev pub IsLowered : ℕ → Result Look FaultAt → Type 0
IsLowered n (Ok look) = IsLower n look.seen look.sight
IsLowered n (Err at) = Unit {0}

lower_still : (n m : ℕ) (s : Seen) (sight : Sight) → n ≤ m → IsLower n s sight → IsLower m s sight
lower_still n m (seen.Token token) sight less h = omega (arith, less, h)
lower_still n m seen.End sight less h = omega (arith, less, h)

lowered_still : (n m : ℕ) (r : Result Look FaultAt) → n ≤ m → IsLowered n r → IsLowered m r
lowered_still n m (Ok look) less h = lower_still n m look.seen look.sight less h
lowered_still n m (Err at) less h = tt

named_lowered : (n : ℕ) (names : List Spelling) (spelling : Spelling) (sight : Sight) (r : Result ℕ NamesFault) → ahead sight.lines.line_no sight.rest < n
    → IsLowered n (with_fault (λ f. at_line sight.lines.line_no (name_fault f)) r >>= (λ k. Ok (record { seen = seen.Token (tokens.Name (record { 0 = k })); names = with_name names spelling; sight = sight })))
named_lowered n names spelling sight (Ok k) h = h
named_lowered n names spelling sight (Err e) h = tt

looked_lowered : (names : List Spelling) (lines : Unread) (ends : Bool) (rest : List Char) (glance : Glance) (after : Result Look FaultAt) → IsShorter (length rest) glance
    → IsLowered (ahead lines.line_no rest) after → IsLowered (ahead lines.line_no rest) (looked names lines ends glance after)
unfolding ahead
looked_lowered names lines ends rest (Gives token state left) after short h = omega (arith, short)
looked_lowered names lines ends rest (Spells spelling state left) after short h =
    named_lowered (ahead lines.line_no rest) names spelling (record { state = state; rest = left; lines = lines; ends = ends }) (numbered names spelling) (omega (arith, short))
looked_lowered names lines ends rest Invalid after short h = tt
looked_lowered names lines ends rest Nothing after short h = h

line_lowered : (codes : Codes) (names : List Spelling) (ends : Bool) (lines : Unread) (r : Result (List Char) LineFault) (after : Result Look FaultAt)
    → ((line : List Char) → r ≡ Ok line → (lines.line_no + 1 ≤ 1000000) × (length line ≤ 65536)) → IsLowered (ahead (lines.line_no + 1) []) after
    → IsLowered (ahead lines.line_no []) (with_fault (λ f. at_line (lines.line_no + 1) (eye_fault f)) r >>= (λ line. looked names (past_line lines) ends (in_line codes NewLine line) after))
unfolding ahead
line_lowered codes names ends lines (Ok line) after short h =
    let few = short line refl in
    let one = looked_lowered names (past_line lines) ends line (in_line codes NewLine line) after (in_line_shorter codes NewLine line) (lowered_still (ahead (lines.line_no + 1) []) (ahead (lines.line_no + 1) line) after (omega arith) h) in
    lowered_still (ahead (lines.line_no + 1) line) (ahead lines.line_no []) _ (omega (arith, few.0, few.1)) one
line_lowered codes names ends lines (Err e) after short h = tt

lines_lowered : (codes : Codes) (names : List Spelling) (ends : Bool) (lines : Unread) (ps : List Piece) → IsLowered (ahead lines.line_no []) (in_lines codes names ends lines ps)
lines_lowered codes names ends lines [] = omega arith
lines_lowered codes names ends lines (p ∷ ps) =
    line_lowered codes names ends lines (characters lines.coding (lines.line_no + 1) p) (in_lines codes names ends (past_line lines) ps)
    (λ line is. characters_short lines.coding (lines.line_no + 1) p line is) (lines_lowered codes names ends (past_line lines) ps)

pub next_lowered : (codes : Codes) (names : List Spelling) (sight : Sight) → IsLowered (ahead sight.lines.line_no sight.rest) (next codes names sight)
unfolding next ahead
next_lowered codes names sight =
    looked_lowered names sight.lines sight.ends sight.rest (in_line codes sight.state sight.rest) (after_line codes names sight) (in_line_shorter codes sight.state sight.rest)
    (lowered_still (ahead sight.lines.line_no []) (ahead sight.lines.line_no sight.rest) (after_line codes names sight) (omega arith)
    (lines_lowered codes names sight.ends sight.lines (still_read sight.lines sight.ends)))
