-- How one answer after another agrees and counts, also where its fault becomes one of the layer above.
use Rattle.std.proofs.Common.{◌≡◌, ℕ, Result, Ok, Err, refl, ◌∙◌}
use Rattle.std.specs.Result.{IsErr, IsErrAnd}
use mathlib.Core.Bool.{false≢true}
use Rattle.ts_base.specs.Agreement.{Cause, Determined, Counted, Free, ◌>>=◌, with_fault, AgreesFault, Agrees, CountsFault, Counts, IsUncounted, Uncounted}

-- A first step that refuses ends both, and agrees with both.
pub first_refuses : {X Y E : Type 0} (cause : Cause) (e : E) (first : Result X E) (step : X → Result Y E) → AgreesFault cause e first → AgreesFault cause e (first >>= step)
first_refuses Determined e first step agrees = rw agrees refl
first_refuses Counted e first step agrees = tt
first_refuses Free e first step agrees = tt

-- A second step that refuses ends both.
pub second_refuses : {X Y E : Type 0} (cause : Cause) (e : E) (first : Result X E) (x : X) (step : X → Result Y E) → first ≡ Ok x → AgreesFault cause e (step x) → AgreesFault cause e (first >>= step)
second_refuses cause e first x step done agrees = rw done agrees

-- what is given, by another name
pub same_agrees : {Y E : Type 0} (cause : Cause) (e : E) (a b : Result Y E) → a ≡ b → AgreesFault cause e b → AgreesFault cause e a
same_agrees Determined e a b same agrees = same ∙ agrees
same_agrees Counted e a b same agrees = tt
same_agrees Free e a b same agrees = tt

pub fault_agrees : {X E D : Type 0} (cause : Cause) (becomes : E → D) (e : E) (given : Result X E) → AgreesFault cause e given → AgreesFault cause (becomes e) (with_fault becomes given)
fault_agrees Determined becomes e given agrees = rw agrees refl
fault_agrees Counted becomes e given agrees = tt
fault_agrees Free becomes e given agrees = tt

pub answer_agrees : {X Y E D : Type 0} (view : X → Y) (cause : E → Cause) (cause' : D → Cause) (becomes : E → D) (result : Result X E) (given : Result Y E)
    → ((e : E) → cause' (becomes e) ≡ cause e) → Agrees view cause result given → Agrees view cause' (with_fault becomes result) (with_fault becomes given)
answer_agrees view cause cause' becomes (Ok x) given same agrees = rw agrees refl
answer_agrees view cause cause' becomes (Err e) given same agrees = rw (same e) (fault_agrees (cause e) becomes e given agrees)

-- What the exit of a `?` answers agrees where its fault does.
pub exit_agrees : {X Y E : Type 0} (view : X → Y) (cause : E → Cause) (result : Result X E) (e : E) (given : Result Y E) → IsErr result × IsErrAnd result (λ d. d ≡ e) → AgreesFault (cause e) e given → Agrees view cause result given
exit_agrees view cause (Ok x) e given exit agrees = absurd (false≢true exit.0)
exit_agrees view cause (Err d) e given exit agrees = rw exit.1 agrees

pub counts_after : (cause : Cause) (old between new : ℕ) → between ≡ old → CountsFault cause between new → CountsFault cause old new
counts_after Determined old between new same counts = counts ∙ same
counts_after Counted old between new same counts = rw (← same) counts
counts_after Free old between new same counts = counts ∙ same

leaves_count_fault : (cause : Cause) (n : ℕ) → IsUncounted cause → CountsFault cause n n
leaves_count_fault Determined n quiet = refl
leaves_count_fault Counted n quiet = absurd quiet
leaves_count_fault Free n quiet = refl

pub leaves_count : {X E : Type 0} (cause : E → Cause) (result : Result X E) (n : ℕ) → Uncounted cause result → Counts cause result n n
leaves_count cause (Ok x) n quiet = refl
leaves_count cause (Err e) n quiet = leaves_count_fault (cause e) n quiet

pub answer_counts : {X E D : Type 0} (cause : E → Cause) (cause' : D → Cause) (becomes : E → D) (result : Result X E) (old new : ℕ)
    → ((e : E) → cause' (becomes e) ≡ cause e) → Counts cause result old new → Counts cause' (with_fault becomes result) old new
answer_counts cause cause' becomes (Ok x) old new same counts = counts
answer_counts cause cause' becomes (Err e) old new same counts = rw (same e) counts
