-- Runs of a machine, token by token.
use Rattle.std.proofs.Common.{◌≡◌, ◌<◌, ◌≤◌, ℕ, zero, suc, Result, Ok, Err, refl, ap, ◌∙◌, arith}
use Rattle.std.specs.Result.{IsErr, IsErrAnd}
use mathlib.Core.Bool.{false≢true}
use Rattle.ts_base.specs.Agreement.{Cause, Determined, Counted, Free, ◌>>=◌, with_fault, Agrees, AgreesFault}
use Rattle.ts_base.proofs.Composing.{same_agrees}
use Rattle.tok_lists.specs.declared.token.Token.{Token}
use Rattle.env_groups.specs.Environments.{Nest, codes_of}
use Rattle.mouth.specs.declared.fault.MouthFault.{MouthFault}
use Rattle.mouth.specs.Reading.{Reading, Stop, at_place, stop_cause}
use Rattle.mouth.specs.Tokens.{next, plain, next_plain}
use Rattle.mouth.specs.Sizes.{unread}
use Rattle.mouth.proofs.Falls.{token_unread}
use Rattle.raw_texts.specs.declared.fault.MacroFault.{MacroFault}
use Rattle.raw_texts.specs.declared.machine.Progress.TheVariants.{On, Done}
use Rattle.mouth.specs.declared.place.Place.{Place}
use Rattle.raw_texts.specs.Faults.{macro_cause, of_mouth, stopped}
use Rattle.raw_texts.specs.Runs.{Step, token_from, fed, goes_on, run_within, run}

bind_same : {X Y E : Type 0} (a : Result X E) (f g : X → Result Y E) → ((x : X) → a ≡ Ok x → f x ≡ g x) → (a >>= f) ≡ (a >>= g)
bind_same (Ok x) f g same = same x refl
bind_same (Err e) f g same = refl

plain_less : (n : ℕ) (a : Result (Token × Reading) (Stop MouthFault)) (t : Token × Reading) → ((u : Token × Reading) → a ≡ Ok (u.0, u.1) → unread u.1 < n)
    → with_fault of_mouth (a >>= λ u. Ok (plain u.0, u.1)) ≡ Ok t → unread t.1 < n
plain_less n (Ok u) t less is = let same : u.1 ≡ t.1 = ap (λ (s : Token × Reading). s.1) (let both : (plain u.0, u.1) ≡ t = cc in both) in rw (← same) (less u refl)
plain_less n (Err e) t less is = absurd cc

token_less : (nest : Nest) (r : Reading) (t : Token × Reading) → token_from nest r ≡ Ok t → unread t.1 < unread r
token_less nest r t is = plain_less (unread r) (next (codes_of nest) r) t (λ u found. token_unread (codes_of nest) r u.0 u.1 found) is

-- What the exit of a `?` answers, where its fault is that of a run.
pub refusal : {X Y : Type 0} (view : X → Y) (place : Place) (result : Result X MacroFault) (e : MacroFault) (a b : Result Y (Stop MacroFault)) → IsErr result × IsErrAnd result (λ d. d ≡ e) → a ≡ b
    → AgreesFault (macro_cause e) (at_place place e) b → Agrees view (stop_cause macro_cause) (with_fault (at_place place) result) a
refusal view place (Ok x) e a b exit same agrees = absurd (false≢true exit.0)
refusal view place (Err d) e a b exit same agrees = rw exit.1 (same_agrees (macro_cause e) (at_place place e) a b same agrees)

module _ {S : Type 0} (nest : Nest) (step : Nest → Step S) where
  agree : (n m : ℕ) (s : S) (r : Reading) → unread r ≤ n → unread r ≤ m → run_within n nest step s r ≡ run_within m nest step s r
  unfolding run_within
  agree zero zero s r in_n in_m = refl
  agree zero (suc m) s r in_n in_m = bind_same (token_from nest r) _ _ (λ t is. let less = token_less nest r t is in absurd (omega (arith, less)))
  agree (suc n) zero s r in_n in_m = bind_same (token_from nest r) _ _ (λ t is. let less = token_less nest r t is in absurd (omega (arith, less)))
  agree (suc n) (suc m) s r in_n in_m = bind_same (token_from nest r) _ _ (λ t is.
      let less = token_less nest r t is in
      bind_same (fed (step nest) s t) _ _ (λ p was. ap (goes_on p.0 (p.1, t.1)) (agree n m p.1 t.1 (omega (arith, less)) (omega (arith, less)))))

  within : (n : ℕ) (s : S) (r : Reading) → unread r ≤ n
      → run_within n nest step s r ≡ (token_from nest r >>= λ t. fed (step nest) s t >>= λ p. goes_on p.0 (p.1, t.1) (run nest step p.1 t.1))
  unfolding run_within run
  within zero s r in_n = bind_same (token_from nest r) _ _ (λ t is. let less = token_less nest r t is in absurd (omega (arith, less)))
  within (suc n) s r in_n = bind_same (token_from nest r) _ _ (λ t is.
      let less = token_less nest r t is in
      bind_same (fed (step nest) s t) _ _ (λ p was. ap (goes_on p.0 (p.1, t.1)) (agree n (unread t.1) p.1 t.1 (omega (arith, less)) (omega arith))))

  pub run_is : (s : S) (r : Reading)
      → run nest step s r ≡ (token_from nest r >>= λ t. fed (step nest) s t >>= λ p. goes_on p.0 (p.1, t.1) (run nest step p.1 t.1))
  unfolding run
  run_is s r = within (unread r) s r (omega arith)

  -- A token is read and taken, and the machine goes on.
  pub run_on : (s s1 : S) (r r1 : Reading) (token : Token) → next_plain (codes_of nest) r ≡ Ok (token, r1) → step nest s token ≡ Ok (On, s1) → run nest step s r ≡ run nest step s1 r1
  run_on s s1 r r1 token reads takes = run_is s r ∙ rw (reads, takes) refl

  -- A token is read and taken, and the machine is done.
  pub run_done : (s s1 : S) (r r1 : Reading) (token : Token) → next_plain (codes_of nest) r ≡ Ok (token, r1) → step nest s token ≡ Ok (Done, s1) → run nest step s r ≡ Ok (s1, r1)
  run_done s s1 r r1 token reads takes = run_is s r ∙ rw (reads, takes) refl

  -- No token is read.
  pub run_unread : (cause : Cause) (s : S) (r : Reading) (e : Stop MouthFault) → AgreesFault cause e (next_plain (codes_of nest) r) → AgreesFault cause (of_mouth e) (run nest step s r)
  run_unread Determined s r e reads = run_is s r ∙ rw reads refl
  run_unread Counted s r e reads = tt
  run_unread Free s r e reads = tt

  -- The machine refuses a token.
  pub run_refused : (cause : Cause) (s : S) (r r1 : Reading) (token : Token) (e : MacroFault) → next_plain (codes_of nest) r ≡ Ok (token, r1) → AgreesFault cause e (step nest s token)
      → AgreesFault cause (stopped e r1) (run nest step s r)
  run_refused Determined s r r1 token e reads takes = run_is s r ∙ rw (reads, takes) refl
  run_refused Counted s r r1 token e reads takes = tt
  run_refused Free s r r1 token e reads takes = tt
