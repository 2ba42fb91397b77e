-- What a call may answer beside the answer that its arguments determine, and when counts of faults rise.
use Rattle.std.specs.Prelude.{◌≡◌, ℕ, ◌+◌, ◌≤◌, min, Result, Ok, Err}

-- Why a call refuses: its arguments determine the fault; or a call on the outside answered Failed, which is counted;
-- or memory ran out, which nothing determines.
pub data Cause : Type 0 where
  Determined : Cause
  Counted : Cause
  Free : Cause

-- first one step, and then another with what it gave; the first fault ends both
infixl 10 ◌>>=◌
abbrev pub ◌>>=◌ : {X Y E : Type 0} → Result X E → (X → Result Y E) → Result Y E
(Ok x) >>= step = step x
(Err e) >>= step = Err e

abbrev pub followed_by : {X Y E : Type 0} → Result X E → (X → Result Y E) → Result Y E
followed_by first step = first >>= step

-- the same answer, where a fault becomes one of the layer above
abbrev pub with_fault : {X E D : Type 0} → (E → D) → Result X E → Result X D
with_fault becomes (Ok x) = Ok x
with_fault becomes (Err e) = Err (becomes e)

-- a fault of such a cause, where the arguments determine what is given
abbrev pub AgreesFault : {Y E : Type 0} → Cause → E → Result Y E → Type 0
AgreesFault Determined e given = given ≡ Err e
AgreesFault Counted e given = Unit {0}
AgreesFault Free e given = Unit {0}

-- What a call answered is what is given, seen by view, but for a counted fault and want of memory.
abbrev pub Agrees : {X Y E : Type 0} → (X → Y) → (E → Cause) → Result X E → Result Y E → Type 0
Agrees view cause (Ok x) given = given ≡ Ok (view x)
Agrees view cause (Err e) given = AgreesFault (cause e) e given

-- where every count of faults stops
abbrev pub last_count : ℕ
last_count = 18446744073709551615

-- The count is greater than it was, or stands at its last value.
abbrev pub Rose : ℕ → ℕ → Type 0
Rose old new = (old ≤ new) × (min (old + 1) last_count ≤ new)

-- the count after a fault of such a cause
abbrev pub CountsFault : Cause → ℕ → ℕ → Type 0
CountsFault Determined old new = new ≡ old
CountsFault Counted old new = Rose old new
CountsFault Free old new = new ≡ old

-- The count rose where a counted fault was answered, and else is as it was.
abbrev pub Counts : {X E : Type 0} → (E → Cause) → Result X E → ℕ → ℕ → Type 0
Counts cause (Ok x) old new = new ≡ old
Counts cause (Err e) old new = CountsFault (cause e) old new

abbrev pub IsUncounted : Cause → Type 0
IsUncounted Determined = Unit {0}
IsUncounted Counted = ⊥
IsUncounted Free = Unit {0}

-- No counted fault was answered.
abbrev pub Uncounted : {X E : Type 0} → (E → Cause) → Result X E → Type 0
Uncounted cause (Ok x) = Unit {0}
Uncounted cause (Err e) = IsUncounted (cause e)
