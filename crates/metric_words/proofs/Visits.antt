-- What a program visits from a command on: that command, and then what it leads to.
use Rattle.std.proofs.Common.{◌≡◌, ℕ, zero, suc, ◌+◌, ◌≤◌, ◌<◌, List, [], ◌∷◌, length, get_or, nat_le, Some, None, true, false, if◌then◌else◌, arith, refl, ◌∙◌}
use Rattle.metric_words.specs.declared.program.Command.{Command}
use Rattle.metric_words.specs.Programs.{visited, counts, first_for}

abbrev pub rest_after : ℕ → Command → List Command → List Command
rest_after i c cs = if nat_le 128 c.skip then [] else visited (i + 1 + c.skip) cs

pub visited-at : (i : ℕ) (cs : List Command) (d : Command) → i < length cs → visited i cs ≡ get_or cs i d ∷ rest_after i (get_or cs i d) cs
visited-at i [] d lt = absurd (omega arith)
visited-at zero (c ∷ cs) d lt = let one : 0 + 1 + c.skip ≡ suc c.skip = omega arith in rw one refl
visited-at (suc i) (c ∷ cs) d lt =
    let command = get_or cs i d in
    let more : suc i + 1 + command.skip ≡ suc (i + 1 + command.skip) = omega arith in
    visited-at i cs d (omega arith) ∙ (rw more refl)

pub visited-none : (i : ℕ) (cs : List Command) → length cs ≤ i → visited i cs ≡ []
visited-none i [] h = refl
visited-none zero (c ∷ cs) h = absurd (omega arith)
visited-none (suc i) (c ∷ cs) h = visited-none i cs (omega arith)

-- what a run gives at a command that counts, at one that ends the program, and at another one
pub run-counts : (next i : ℕ) (cs : List Command) (d : Command) → i < length cs → counts next (get_or cs i d) ≡ true
    → first_for next (visited i cs) ≡ Some (get_or cs i d)
run-counts next i cs d lt is = rw (visited-at i cs d lt, is) refl

pub run-ends : (next i : ℕ) (cs : List Command) (d : Command) → i < length cs → counts next (get_or cs i d) ≡ false
    → nat_le 128 (let c = get_or cs i d in c.skip) ≡ true → first_for next (visited i cs) ≡ None
run-ends next i cs d lt is ends = rw (visited-at i cs d lt, is, ends) refl

pub run-goes_on : (next i to : ℕ) (cs : List Command) (d : Command) → i < length cs → counts next (get_or cs i d) ≡ false
    → nat_le 128 (let c = get_or cs i d in c.skip) ≡ false → to ≡ i + 1 + (let c = get_or cs i d in c.skip)
    → first_for next (visited i cs) ≡ first_for next (visited to cs)
run-goes_on next i to cs d lt is ends at = rw (visited-at i cs d lt, is, ends, at) refl

pub run-none : (next i : ℕ) (cs : List Command) → length cs ≤ i → first_for next (visited i cs) ≡ None
run-none next i cs h = rw (visited-none i cs h) refl
