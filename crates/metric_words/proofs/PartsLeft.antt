-- What a table's reader has left to do gives what its start gave.
use Rattle.std.proofs.Common.{◌≡◌, ℕ, zero, suc, ◌+◌, ◌*◌, ◌-◌, ◌≤◌, ◌<◌, List, [], ◌∷◌, ◌++◌, map, Option, Some, None, Result, Err, arith, refl, append_assoc, ◌∙◌}
use Rattle.ts_geometry.specs.declared.fault.BadKind.{BadKind}
use Rattle.ts_geometry.specs.declared.fault.MetricFault.{MetricFault}
use Rattle.ts_geometry.specs.declared.fault.MetricFault.TheVariants.{Bad}
use Rattle.ts_base.specs.Agreement.{AgreesFault}
use Rattle.metric_words.specs.Words.{word, words}
use Rattle.metric_words.specs.declared.program.Command.{Command}
use Rattle.metric_words.specs.Programs.{command_of}
use Rattle.metric_words.specs.Left.{left, commands_left}
use Rattle.metric_words.specs.Checking.{checked, cause}

-- what is left of a check, which gives this value
abbrev pub unchecked : {A : Type 0} → (ℕ → Option BadKind) → List ℕ → ℕ → ℕ → A → Result A MetricFault
unchecked kind file i end value = checked i (map kind (words file i (end - i))) value

pub words-more : (file : List ℕ) (i end : ℕ) → i < end → words file i (end - i) ≡ word file i ∷ words file (i + 1) (end - (i + 1))
words-more file i end h =
    let one : end - i ≡ suc (end - (i + 1)) = omega arith in rw one

pub words-none : (file : List ℕ) (i end : ℕ) → end ≤ i → words file i (end - i) ≡ []
words-none file i end h = let none : end - i ≡ zero = omega arith in rw none

-- the fault of a bad word agrees with what is given, where it is given
pub refused : {A : Type 0} (given : Result A MetricFault) (fault : MetricFault) (kind : BadKind) (i : ℕ) → fault ≡ Bad kind (4 * i)
    → given ≡ Err (Bad kind (4 * i)) → AgreesFault (cause fault) fault given
refused given fault kind i is h = rw is h

pub left-more : {A : Type 0} (kind : ℕ → Option BadKind) (value : ℕ → A) (given : Result (List A) MetricFault) (file : List ℕ) (i end w : ℕ) (entries entries' : List A) (x : A)
    → i < end → given ≡ left kind value file i end entries → w ≡ word file i → kind w ≡ None → x ≡ value w → entries' ≡ entries ++ x ∷ []
    → given ≡ left kind value file (i + 1) end entries'
left-more kind value given file i end w entries entries' x h begun is good made put =
    begun ∙ (rw (words-more file i end h, ← is, good, ← made, put, append_assoc) refl)

pub left-bad : {A : Type 0} (kind : ℕ → Option BadKind) (value : ℕ → A) (given : Result (List A) MetricFault) (file : List ℕ) (i end w : ℕ) (entries : List A) (wrong : BadKind)
    → i < end → given ≡ left kind value file i end entries → w ≡ word file i → kind w ≡ Some wrong → given ≡ Err (Bad wrong (4 * i))
left-bad kind value given file i end w entries wrong h begun is found = begun ∙ (rw (words-more file i end h, ← is, found) refl)

pub unchecked-more : {A : Type 0} (kind : ℕ → Option BadKind) (value : A) (given : Result A MetricFault) (file : List ℕ) (i end w : ℕ)
    → i < end → given ≡ unchecked kind file i end value → w ≡ word file i → kind w ≡ None → given ≡ unchecked kind file (i + 1) end value
unchecked-more kind value given file i end w h begun is good = begun ∙ (rw (words-more file i end h, ← is, good) refl)

pub unchecked-bad : {A : Type 0} (kind : ℕ → Option BadKind) (value : A) (given : Result A MetricFault) (file : List ℕ) (i end w : ℕ) (wrong : BadKind)
    → i < end → given ≡ unchecked kind file i end value → w ≡ word file i → kind w ≡ Some wrong → given ≡ Err (Bad wrong (4 * i))
unchecked-bad kind value given file i end w wrong h begun is found = begun ∙ (rw (words-more file i end h, ← is, found) refl)

place-more : (file : List ℕ) (start place len : ℕ) → place < len
    → words file (start + place) (len - place) ≡ word file (start + place) ∷ words file (start + (place + 1)) (len - (place + 1))
place-more file start place len h =
    let one : len - place ≡ suc (len - (place + 1)) = omega arith in
    let on : start + place + 1 ≡ start + (place + 1) = omega arith in
    rw (one, ← on) refl

pub commands_left-more : (kind : ℕ → ℕ → Option BadKind) (given : Result (List Command) MetricFault) (file : List ℕ) (start place len w : ℕ) (commands commands' : List Command) (c : Command)
    → place < len → given ≡ commands_left kind file start place len commands → w ≡ word file (start + place) → kind place w ≡ None → c ≡ command_of w → commands' ≡ commands ++ c ∷ []
    → given ≡ commands_left kind file start (place + 1) len commands'
commands_left-more kind given file start place len w commands commands' c h left is good made put =
    let on : start + place + 1 ≡ start + (place + 1) = omega arith in
    left ∙ (rw (place-more file start place len h, ← is, good, ← made, put, append_assoc, on) refl)

pub commands_left-bad : (kind : ℕ → ℕ → Option BadKind) (given : Result (List Command) MetricFault) (file : List ℕ) (start place len w : ℕ) (commands : List Command) (wrong : BadKind)
    → place < len → given ≡ commands_left kind file start place len commands → w ≡ word file (start + place) → kind place w ≡ Some wrong
    → given ≡ Err (Bad wrong (4 * (start + place)))
commands_left-bad kind given file start place len w commands wrong h left is found = left ∙ (rw (place-more file start place len h, ← is, found) refl)
