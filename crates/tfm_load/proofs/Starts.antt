-- Where a program starts, and what it gives from there.
use Rattle.std.proofs.Common.{◌≡◌, ℕ, suc, zero, ◌+◌, ◌≤◌, ◌<◌, true, false, List, [], ◌∷◌, length, get_or, nat_lt, nat_le, Option, Some, None, arith, refl}
use Rattle.std.proofs.lemmas.Bool.Decides.{nat_tests}
use Rattle.metric_words.specs.declared.program.Command.{Command}
use Rattle.metric_words.specs.Programs.{visited, counts, first_for}
use Rattle.metric_words.proofs.Visits.{run-counts, run-ends, run-goes_on, run-none}
use Rattle.tfm_load.specs.Programs.{no_command, start_of, far_start}

-- the answer of a program whose first command is that one
abbrev pub answer : List Command → ℕ → ℕ → Option Command
answer cs first next = first_for next (visited (start_of cs first) cs)

beyond : (cs : List Command) (i : ℕ) → length cs ≤ i → get_or cs i no_command ≡ no_command
beyond [] i h = refl
beyond (c ∷ cs) zero h = absurd (omega arith)
beyond (c ∷ cs) (suc i) h = beyond cs i (omega arith)

near : (cs : List Command) (first : ℕ) (c : Command) → get_or cs first no_command ≡ c → c.skip ≤ 128 → start_of cs first ≡ first
near cs first c is h = let test : nat_lt 128 c.skip ≡ false = grind (arith, nat_tests) in rw (is, test) refl

pub answer-none : (cs : List Command) (first next : ℕ) → length cs ≤ first → answer cs first next ≡ None
answer-none cs first next h = rw (near cs first no_command (beyond cs first h) (omega arith)) (run-none next first cs h)

pub answer-far : (cs : List Command) (first next : ℕ) (c : Command) → get_or cs first no_command ≡ c → 128 < c.skip → answer cs first next ≡ first_for next (visited (far_start c) cs)
answer-far cs first next c is h = let test : nat_lt 128 c.skip ≡ true = grind (arith, nat_tests) in rw (is, test) refl

pub answer-counts : (cs : List Command) (first next : ℕ) (c : Command) → get_or cs first no_command ≡ c → c.skip ≤ 128 → first < length cs → c.next ≡ next → answer cs first next ≡ Some c
answer-counts cs first next c is h lt same =
    let passes : counts next c ≡ true = grind (arith, nat_tests) in
    rw (near cs first c is h, run-counts next first cs no_command lt (rw is passes), is) refl

pub answer-ends : (cs : List Command) (first next : ℕ) (c : Command) → get_or cs first no_command ≡ c → c.skip ≡ 128 → first < length cs → (c.next ≡ next → ⊥) → answer cs first next ≡ None
answer-ends cs first next c is h lt other =
    let passes : counts next c ≡ false = grind (arith, nat_tests) in
    let ends : nat_le 128 c.skip ≡ true = grind (arith, nat_tests) in
    rw (near cs first c is (omega arith), run-ends next first cs no_command lt (rw is passes) (rw is ends)) refl

pub answer-goes_on : (cs : List Command) (first next to : ℕ) (c : Command) → get_or cs first no_command ≡ c → c.skip < 128 → first < length cs → (c.next ≡ next → ⊥) → to ≡ first + c.skip + 1
    → answer cs first next ≡ first_for next (visited to cs)
answer-goes_on cs first next to c is h lt other on =
    let passes : counts next c ≡ false = grind (arith, nat_tests) in
    let goes : nat_le 128 c.skip ≡ false = grind (arith, nat_tests) in
    let place : to ≡ first + 1 + c.skip = omega arith in
    rw (near cs first c is (omega arith), run-goes_on next first to cs no_command lt (rw is passes) (rw is goes) (rw is place)) refl
