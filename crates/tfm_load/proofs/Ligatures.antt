-- Each ligature that a program puts is a character of the font, where no word of the file is bad.
use Rattle.std.proofs.Common.{◌≡◌, ℕ, zero, suc, ◌+◌, ◌-◌, ◌≤◌, ◌<◌, ℤ, Bool, true, false, List, [], ◌∷◌, ◌++◌, length, get_or, map, ◌||◌, ◌&&◌, not, nat_lt, nat_le, ◌==◌, if◌then◌else◌, Option, Some, None, Result, Ok, Err, arith, refl, ap, sym, ◌∙◌}
use Rattle.std.proofs.lemmas.Bool.Decides.{nat_tests}
use Rattle.std.proofs.lemmas.List.{length-map, get_or-map}
use Rattle.std.specs.List.{list_all}
use Rattle.ts_geometry.specs.declared.fault.BadKind.{BadKind}
use Rattle.ts_geometry.specs.declared.fault.BadKind.TheVariants as kinds
use Rattle.ts_geometry.specs.declared.fault.MetricFault.{MetricFault}
use Rattle.ts_base.specs.Agreement.{◌>>=◌}
use Rattle.metric_words.specs.declared.lengths.Lengths.{Lengths}
use Rattle.metric_words.specs.declared.program.Command.{Command}
use Rattle.metric_words.specs.Words.{word, words, first_byte}
use Rattle.metric_words.specs.Checking.{checked, good}
use Rattle.metric_words.specs.Lengths.{char_info_start, header_start, char_count}
use Rattle.metric_words.specs.FixWords.{design_kind, design_word, fix_of}
use Rattle.metric_words.specs.Characters.{Character, characters_of, character_at, character_in, char_info_of, character_kinds, info_words, width_words, height_words, depth_words, no_character}
use Rattle.metric_words.specs.Programs.{command_of, command_kinds, visited, counts, first_for}
use Rattle.metric_words.proofs.Chain.{length-words}
use Rattle.metric_words.proofs.SoundParts.{checked-head, checked-value}
use Rattle.tfm_load.specs.declared.programs.Step.{Step}
use Rattle.tfm_load.specs.declared.programs.Step.TheVariants.{Nothing, Kern, Ligature}
use Rattle.tfm_load.specs.Programs.{is_in_range, is_in_font, is_ligature_fault, is_program_fault, kind_of_command, program_kind, program_words, start_of, step_of, step_meant, step_after, kern_number}
use Rattle.tfm_load.specs.Metrics.{Metric, metric_of, lengths_in, kinds_of, spelt, has_character, program_of, pair_of}
use Rattle.tfm_load.specs.Sound.{HasItsLigatures}

-- ---- the words of one part, where no word is bad

front : {A : Type 0} (at : ℕ) (ks ls : List (Option BadKind)) (v x : A) → checked at (ks ++ ls) v ≡ Ok x → checked at ks v ≡ Ok x
front at [] ls v x h = ap Ok (checked-value at ls v x h)
front at (None ∷ ks) ls v x h = front (at + 1) ks ls v x h
front at (Some kind ∷ ks) ls v x h = absurd cc

back : {A : Type 0} (at : ℕ) (ks ls : List (Option BadKind)) (v x : A) → checked at (ks ++ ls) v ≡ Ok x → (to : ℕ) × (checked to ls v ≡ Ok x)
back at [] ls v x h = (at, h)
back at (None ∷ ks) ls v x h = back (at + 1) ks ls v x h
back at (Some kind ∷ ks) ls v x h = absurd cc

-- each command passes a test, where a good word's command does
good_commands : {A : Type 0} (kind : ℕ → ℕ → Option BadKind) (p : Command → Bool) → ((place w : ℕ) → kind place w ≡ None → p (command_of w) ≡ true)
    → (at place : ℕ) (ws : List ℕ) (v x : A) → checked at (command_kinds kind place ws) v ≡ Ok x → list_all p (map command_of ws) ≡ true
good_commands kind p good at place [] v x h = refl
good_commands kind p good at place (w ∷ ws) v x h =
    let s = checked-head at (kind place w) (command_kinds kind (place + 1) ws) v x h in
    rw (good place w s.0, good_commands kind p good (at + 1) (place + 1) ws v x s.1) refl

-- ---- the ligature that a command gives

-- Is it there, where the command is one of a ligature?
abbrev gives : (ℕ → Bool) → Command → Bool
gives there c = not (nat_le c.skip 128 && nat_lt c.op 128) || there c.remainder

gives_what : (fault other is_zero there : Bool) (first : Bool) → (fault || (first && (not is_zero || not there))) ≡ false → (not first || there) ≡ true
gives_what true other is_zero there first h = absurd cc
gives_what false other is_zero there false h = refl
gives_what false other is_zero true true h = refl
gives_what false other true false true h = absurd cc
gives_what false other false false true h = absurd cc

no_ligature_fault : (b c : Bool) (k l : BadKind) → (if b then Some k else (if c then Some l else None)) ≡ None → b ≡ false
no_ligature_fault true c k l h = absurd cc
no_ligature_fault false c k l h = refl

command_gives : (file : List ℕ) (l : Lengths) (place w : ℕ) → program_kind file l place w ≡ None → gives (is_in_font file l) (command_of w) ≡ true
unfolding program_kind
command_gives file l place w h =
    let c = command_of w in
    let there = is_in_font file l c.remainder in
    gives_what (c.skip == 255 && (place == 0 || place + 1 == l.nl)) true (c.op == 0) there (nat_le c.skip 128 && nat_lt c.op 128)
    (no_ligature_fault (is_ligature_fault l place there c) (is_program_fault l place c) kinds.Ligature kinds.Program h)

-- ---- what a program gives

both : (a b : Bool) → (a && b) ≡ true → (a ≡ true) × (b ≡ true)
both true true h = (refl, refl)
both true false h = absurd cc
both false b h = absurd cc

or_none : (p : Command → Bool) (b : Bool) (cs : List Command) → list_all p cs ≡ true → list_all p (if b then [] else cs) ≡ true
or_none p true cs h = refl
or_none p false cs h = h

visited_pass : (p : Command → Bool) (passed : ℕ) (cs : List Command) → list_all p cs ≡ true → list_all p (visited passed cs) ≡ true
visited_pass p passed [] h = refl
visited_pass p (suc passed) (c ∷ cs) h = visited_pass p passed cs (both (p c) (list_all p cs) h).1
visited_pass p zero (c ∷ cs) h =
    let s = both (p c) (list_all p cs) h in
    rw (s.0, or_none p (nat_le 128 c.skip) (visited c.skip cs) (visited_pass p c.skip cs s.1)) refl

chosen : (p : Command → Bool) (next : ℕ) (d c : Command) (b : Bool) (rest : Option Command) → counts next d ≡ b → p d ≡ true
    → (rest ≡ Some c → (counts next c ≡ true) × (p c ≡ true)) → (if b then Some d else rest) ≡ Some c → (counts next c ≡ true) × (p c ≡ true)
chosen p next d c true rest is pass more h = let same : d ≡ c = cc in (rw (← same) is, rw (← same) pass)
chosen p next d c false rest is pass more h = more h

-- the first command that counts passes the test too
first_passes : (p : Command → Bool) (next : ℕ) (cs : List Command) (c : Command) → list_all p cs ≡ true → first_for next cs ≡ Some c
    → (counts next c ≡ true) × (p c ≡ true)
first_passes p next [] c h is = absurd cc
first_passes p next (d ∷ cs) c h is =
    let s = both (p d) (list_all p cs) h in
    chosen p next d c (counts next d) (first_for next cs) refl s.0 (λ more. first_passes p next cs c s.1 more) is

ligature_only : (b : Bool) (kern : ℤ) (r code : ℕ) → (if b then Kern kern else Ligature r) ≡ Ligature code → (b ≡ false) × (r ≡ code)
ligature_only true kern r code h = absurd cc
ligature_only false kern r code h = (refl, cc)

put_there : (there : ℕ → Bool) (kerns : List ℤ) (c : Command) (next code : ℕ) → counts next c ≡ true → gives there c ≡ true
    → step_of kerns c ≡ Ligature code → there code ≡ true
put_there there kerns c next code counted given h =
    let s = ligature_only (nat_le 128 c.op) _ c.remainder code h in
    let near : nat_le c.skip 128 ≡ true = (both (c.next == next) (nat_le c.skip 128) counted).1 in
    let is_ligature : nat_lt c.op 128 ≡ true = grind (arith, nat_tests, s.0) in
    let here : there c.remainder ≡ true = rw (near, is_ligature) at given in
    rw s.1 at here

meant_there : (there : ℕ → Bool) (kerns : List ℤ) (next code : ℕ) (o : Option Command)
    → ((c : Command) → o ≡ Some c → (counts next c ≡ true) × (gives there c ≡ true)) → step_meant kerns o ≡ Ligature code → there code ≡ true
meant_there there kerns next code None f h = absurd cc
meant_there there kerns next code (Some c) f h = let s = f c refl in put_there there kerns c next code s.0 s.1 h

after_there : (there : ℕ → Bool) (commands : List Command) (kerns : List ℤ) → list_all (gives there) commands ≡ true
    → (first : Option ℕ) (right code : ℕ) → step_after commands kerns first right ≡ Ligature code → there code ≡ true
after_there there commands kerns all None right code h = absurd cc
after_there there commands kerns all (Some first) right code h =
    let run = visited (start_of commands first) commands in
    meant_there there kerns right code (first_for right run)
    (λ c is. first_passes (gives there) right run c (visited_pass (gives there) (start_of commands first) commands all) is) h

-- ---- the characters of the font

words-at : (file : List ℕ) (from n i : ℕ) → i < n → get_or (words file from n) i 0 ≡ word file (from + i)
words-at file from zero i h = absurd (omega arith)
words-at file from (suc n) zero h = let e : from + 0 ≡ from = omega arith in rw e refl
words-at file from (suc n) (suc i) h =
    let e : from + 1 + i ≡ from + suc i = omega arith in words-at file (from + 1) n i (omega arith) ∙ ap (word file) e

in_font : (file : List ℕ) (l : Lengths) (code : ℕ) → is_in_font file l code ≡ true → has_character (spelt file l) code ≡ true
unfolding is_in_font spelt characters_of char_info_of
in_font file l code h =
    let s = both (is_in_range l code) (not (first_byte (word file (char_info_start l + (code - l.bc))) == 0)) h in
    let r = both (nat_le l.bc code) (nat_le code l.ec) s.0 in
    let range : (l.bc ≤ code) × (code ≤ l.ec) = (grind (arith, nat_tests, r.0), grind (arith, nat_tests, r.1)) in
    let below : code - l.bc < char_count l = omega arith in
    let infos = info_words file l in
    let f = character_in (map fix_of (width_words file l)) (map fix_of (height_words file l)) (map fix_of (depth_words file l)) in
    let many : length infos ≡ char_count l = length-words file (char_info_start l) (char_count l) in
    let long : length (characters_of file l) ≡ char_count l = length-map (map char_info_of infos) f ∙ (length-map infos char_info_of ∙ many) in
    let test : nat_lt (code - l.bc) (length (characters_of file l)) ≡ true = grind (arith, nat_tests) in
    let at = get_or-map char_info_of infos (code - l.bc) 0 (char_info_of 0) (omega arith) in
    let below_map : code - l.bc < length (map char_info_of infos) = omega (arith, length-map infos char_info_of) in
    let info = get_or-map f (map char_info_of infos) (code - l.bc) (char_info_of 0) no_character below_map in
    let w = words-at file (char_info_start l) (char_count l) (code - l.bc) below in
    rw (r.0, test, info, at, w, s.1) refl

-- ---- the whole

file_there : (file : List ℕ) (l : Lengths) (m : Metric) → checked 0 (kinds_of file l) (spelt file l) ≡ Ok m → HasItsLigatures m
unfolding kinds_of spelt
file_there file l m h =
    let same : spelt file l ≡ m = checked-value 0 (kinds_of file l) (spelt file l) m h in
    let a = back 0 (good (header_start l + 1)) _ (spelt file l) m h in
    let b = back a.0 (design_kind (design_word file l) ∷ []) _ (spelt file l) m a.1 in
    let c = back b.0 (good (l.lh - 2)) _ (spelt file l) m b.1 in
    let d = back c.0 (character_kinds file l) _ (spelt file l) m c.1 in
    let e = front d.0 (command_kinds (program_kind file l) 0 (program_words file l)) _ (spelt file l) m d.1 in
    let all = good_commands (program_kind file l) (gives (is_in_font file l)) (command_gives file l) d.0 0 (program_words file l) (spelt file l) m e in
    rw (← same) (record {
      there = λ left right code is.
          in_font file l code (after_there (is_in_font file l) (map command_of (program_words file l)) (spelt file l).kerns all (program_of (spelt file l) left) right code is);
    })

from_lengths : (file : List ℕ) (r : Result Lengths MetricFault) (m : Metric) → (r >>= λ l. checked 0 (kinds_of file l) (spelt file l)) ≡ Ok m → HasItsLigatures m
from_lengths file (Ok l) m h = file_there file l m h
from_lengths file (Err fault) m h = absurd cc

pub ligatures_there : (file : List ℕ) (m : Metric) → metric_of file ≡ Ok m → HasItsLigatures m
unfolding metric_of
ligatures_there file m h = from_lengths file (lengths_in file) m h
