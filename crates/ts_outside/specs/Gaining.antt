-- What a sink holds after it was given bytes.
use Rattle.std.specs.Prelude.{◌≡◌, ℕ, ◌≤◌, ◌-◌, List, ◌++◌, length, take, Option, option_map}
use Rattle.ts_base.specs.Agreement.{Cause, Counted, Free, Rose}
use Rattle.ts_outside.specs.declared.sink.Put.{Put}
use Rattle.ts_outside.specs.declared.sink.Put.TheVariants as puts
use Rattle.ts_outside.specs.declared.sink.PutFault.{PutFault}
use Rattle.ts_outside.specs.declared.sink.PutFault.TheVariants as faults

-- where the sink tells what it holds: what it held, and then these bytes
abbrev pub Gained : Option (List ℕ) → Option (List ℕ) → List ℕ → Type 0
Gained old new bytes = new ≡ option_map (λ held. held ++ bytes) old

-- what it held, and then the first of these bytes
abbrev pub GainedPrefix : Option (List ℕ) → Option (List ℕ) → List ℕ → Type 0
GainedPrefix old new bytes = (n : ℕ) × (n ≤ length bytes) × Gained old new (take n bytes)

-- what it held, and then the first of these bytes, but not all of them; nothing where there are none
abbrev pub GainedPart : Option (List ℕ) → Option (List ℕ) → List ℕ → Type 0
GainedPart old new bytes = (n : ℕ) × (n ≤ length bytes - 1) × Gained old new (take n bytes)

-- Took appends from one byte of a piece to all of it, and every other answer nothing.
abbrev pub Takes : Put → List ℕ → Option (List ℕ) → Option (List ℕ) → Type 0
Takes (puts.Took n) piece old new = (1 ≤ n) × (n ≤ length piece) × Gained old new (take n piece)
Takes puts.Failed piece old new = new ≡ old
Takes puts.NoMemory piece old new = new ≡ old

-- Every answer but Failed leaves the count of faults.
abbrev pub CountsPut : Put → ℕ → ℕ → Type 0
CountsPut (puts.Took n) old new = new ≡ old
CountsPut puts.Failed old new = Rose old new
CountsPut puts.NoMemory old new = new ≡ old

-- why putting refuses
abbrev pub put_cause : PutFault → Cause
put_cause faults.Failed = Counted
put_cause faults.NoMemory = Free
