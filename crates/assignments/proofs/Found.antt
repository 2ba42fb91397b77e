-- Tokens are passed over one after the other.
use Rattle.std.proofs.Common.{◌≡◌, ◌<◌, ℕ, zero, suc, Option, Some, None, Ok, refl, ◌∙◌, arith}
use Rattle.std.specs.Prelude.{IfOk}
use Rattle.std.proofs.lemmas.Result.{IfOk-at_ok}
use Rattle.ts_base.specs.Agreement.{Cause, Determined, Counted, Free, ◌>>=◌, AgreesFault}
use Rattle.tok_lists.specs.declared.token.Token.{Token}
use Rattle.mouth.specs.Reading.{Stop}
use Rattle.mouth.specs.Sizes.{size}
use Rattle.expander.specs.Worlds.{World}
use Rattle.control_faults.specs.declared.turn_fault.TurnFault.{TurnFault}
use Rattle.control_faults.specs.TurnFaults.{read_cause}
use Rattle.assignments.specs.declared.seeking.Sought.{Sought}
use Rattle.assignments.specs.declared.seeking.Sought.TheVariants as sought
use Rattle.assignments.specs.Worlds.{Outcome}
use Rattle.assignments.specs.Reads.{next_token, raw_token}
use Rattle.assignments.specs.Seeking.{passed, taken, Finding, sought_as, sought_on, found_within, found}
use Rattle.std.proofs.Common.{Result, Err}
use Rattle.ts_base.specs.Agreement.{with_fault}
use Rattle.env_groups.specs.Environments.{codes_of}
use Rattle.mouth.specs.Reading.{Reading}
use Rattle.mouth.specs.declared.fault.MouthFault.{MouthFault}
use Rattle.mouth.specs.Tokens.{next, plain, next_plain}
use Rattle.mouth.proofs.Falls.{token_size}
use Rattle.expander.specs.GulletFaults.{stop_as, of_mouth_fault, of_step_fault}
use Rattle.expander.specs.Steps.{Next}
use Rattle.expander.specs.Expansion.{run}
use Rattle.expander.proofs.Sized.{next_leaves}
use Rattle.control_faults.specs.TurnFaults.{of_gullet, turn_stop}

-- ---- each token leaves less

pub if_fault : {X E D : Type 0} (becomes : E → D) (a : Result X E) (P : X → Type 0) → IfOk a P → IfOk (with_fault becomes a) P
if_fault becomes (Ok x) P has = has
if_fault becomes (Err e) P has = tt

pub if_bind : {X Y E : Type 0} (a : Result X E) (f : X → Result Y E) (P : X → Type 0) (Q : Y → Type 0) → IfOk a P → ((x : X) → P x → IfOk (f x) Q) → IfOk (a >>= f) Q
if_bind (Ok x) f P Q has goes = goes x has
if_bind (Err e) f P Q has goes = tt

pub if_weaker : {X E : Type 0} (a : Result X E) (P Q : X → Type 0) → IfOk a P → ((x : X) → P x → Q x) → IfOk a Q
if_weaker (Ok x) P Q has goes = goes x has
if_weaker (Err e) P Q has goes = tt

if_given : {X E : Type 0} (a : Result X E) (P : X → Type 0) → ((x : X) → a ≡ Ok x → P x) → IfOk a P
if_given (Ok x) P has = has x refl
if_given (Err e) P has = tt

bind_same : {X Y E : Type 0} (a : Result X E) (f g : X → Result Y E) → ((x : X) → a ≡ Ok x → f x ≡ g x) → (a >>= f) ≡ (a >>= g)
bind_same (Ok x) f g same = same x refl
bind_same (Err e) f g same = refl

pub next_falls : (w : World) → IfOk (next_token w) (λ t. size t.1.at < size w.at)
unfolding next_token
next_falls w = if_fault (turn_stop of_gullet) (with_fault (stop_as of_step_fault) (run Next w)) _ (if_fault (stop_as of_step_fault) (run Next w) _ (next_leaves w))

plain_falls : (w : World) → IfOk (next_plain (codes_of w.nest) w.at) (λ t. size t.1 < size w.at)
plain_falls w = if_bind (next (codes_of w.nest) w.at) (λ u. Ok (plain u.0, u.1)) (λ u. size u.1 < size w.at) _
    (if_given (next (codes_of w.nest) w.at) _ (λ u is. token_size (codes_of w.nest) w.at u.0 u.1 is)) (λ u less. less)

pub raw_falls : (w : World) → IfOk (raw_token w) (λ t. size t.1.at < size w.at)
unfolding raw_token
raw_falls w = if_bind (with_fault (turn_stop of_gullet) (with_fault (stop_as of_mouth_fault) (next_plain (codes_of w.nest) w.at))) _ (λ t. size t.1 < size w.at) _
    (if_fault (turn_stop of_gullet) (with_fault (stop_as of_mouth_fault) (next_plain (codes_of w.nest) w.at)) _ (if_fault (stop_as of_mouth_fault) (next_plain (codes_of w.nest) w.at) _ (plain_falls w)))
    (λ t less. less)

taken_falls : (what : Sought) (w : World) → IfOk (taken what w) (λ t. size t.1.at < size w.at)
taken_falls sought.Name w = raw_falls w
taken_falls sought.Value w = raw_falls w
taken_falls sought.NonSpace w = next_falls w
taken_falls sought.Solid w = next_falls w
taken_falls (sought.Assignment p) w = next_falls w

taken_less : (what : Sought) (w : World) (t : Token × World) → taken what w ≡ Ok t → size t.1.at < size w.at
taken_less what w t is = IfOk-at_ok (λ (u : Token × World). size u.1.at < size w.at) is (taken_falls what w)

on_falls : (more : Sought → World → Outcome (Finding × World)) (next : Option Sought) (what : Sought) (t : Token × World) (n : ℕ) → size t.1.at < n
    → ((s : Sought) → IfOk (more s t.1) (λ f. size f.1.at < size t.1.at)) → IfOk (sought_as more next what t) (λ f. size f.1.at < n)
on_falls more (Some s) what t n less goes = if_weaker (more s t.1) (λ f. size f.1.at < size t.1.at) _ (goes s) (λ f fewer. omega (arith, less, fewer))
on_falls more None what t n less goes = less

within_falls : (n : ℕ) (what : Sought) (w : World) → IfOk (found_within n what w) (λ f. size f.1.at < size w.at)
unfolding found_within
within_falls zero what w = if_bind (taken what w) _ (λ t. size t.1.at < size w.at) _ (taken_falls what w) (λ t less. less)
within_falls (suc n) what w = if_bind (taken what w) (sought_on (found_within n) what) (λ t. size t.1.at < size w.at) _ (taken_falls what w) (λ t less.
    on_falls (found_within n) (passed t.1.nest what t.0) what t (size w.at) less (λ s. within_falls n s t.1))

pub found_falls : (what : Sought) (w : World) → IfOk (found what w) (λ f. size f.1.at < size w.at)
unfolding found
found_falls what w = within_falls (suc (size w.at)) what w

-- ---- enough levels are enough

as_same : (f g : Sought → World → Outcome (Finding × World)) (next : Option Sought) (what : Sought) (t : Token × World) → ((s : Sought) → f s t.1 ≡ g s t.1) → sought_as f next what t ≡ sought_as g next what t
as_same f g (Some s) what t same = same s
as_same f g None what t same = refl

agree : (n m : ℕ) (what : Sought) (w : World) → size w.at < n → size w.at < m → found_within n what w ≡ found_within m what w
unfolding found_within
agree zero m what w in_n in_m = absurd (omega (arith, in_n))
agree (suc n) zero what w in_n in_m = absurd (omega (arith, in_m))
agree (suc n) (suc m) what w in_n in_m = bind_same (taken what w) (sought_on (found_within n) what) (sought_on (found_within m) what) (λ t is.
    let less = taken_less what w t is in
    as_same (found_within n) (found_within m) (passed t.1.nest what t.0) what t (λ s. agree n m s t.1 (omega (arith, less, in_n)) (omega (arith, less, in_m))))

-- A token is taken, and where it is passed over the same goes on.
pub found_is : (what : Sought) (w : World) → found what w ≡ (taken what w >>= sought_on found what)
unfolding found found_within
found_is what w = bind_same (taken what w) (sought_on (found_within (size w.at)) what) (sought_on found what) (λ t is.
    let less = taken_less what w t is in
    as_same (found_within (size w.at)) found (passed t.1.nest what t.0) what t (λ s. agree (size w.at) (suc (size t.1.at)) s t.1 less (omega arith)))

-- ---- turns of the loop

pub found_on : (what next : Sought) (w v : World) (token : Token) → taken what w ≡ Ok (token, v) → passed v.nest what token ≡ Some next → found what w ≡ found next v
found_on what next w v token is goes = found_is what w ∙ rw (is, goes) refl

pub found_done : (what : Sought) (w v : World) (token : Token) → taken what w ≡ Ok (token, v) → passed v.nest what token ≡ None → found what w ≡ Ok ((what, token), v)
found_done what w v token is stays = found_is what w ∙ rw (is, stays) refl

pub found_refused : (cause : Cause) (what : Sought) (w : World) (e : Stop TurnFault) → AgreesFault cause e (taken what w) → AgreesFault cause e (found what w)
found_refused Determined what w e refuses = found_is what w ∙ rw refuses refl
found_refused Counted what w e refuses = tt
found_refused Free what w e refuses = tt
