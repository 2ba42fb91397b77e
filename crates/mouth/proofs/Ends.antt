-- A file that ends, and the one below that goes on.
use Rattle.std.proofs.Common.{◌≡◌, List, [], ◌∷◌, true, false, Result, Ok, Err, refl, sym, ap}
use Rattle.std.specs.Prelude.{◌==◌, if◌then◌else◌, Bool}
use Rattle.std.specs.Result.{IsErr, IsErrAnd}
use mathlib.Core.Bool.{false≢true}
use Rattle.ts_base.specs.Agreement.{Cause, Determined, Counted, Free, ◌>>=◌, with_fault, Agrees, AgreesFault}
use Rattle.ts_base.proofs.Composing.{same_agrees}
use Rattle.mouth.specs.declared.place.Place.{Place}
use Rattle.tok_lists.specs.declared.token.Token.{Token}
use Rattle.tok_lists.specs.Codes.{Codes}
use Rattle.kcat_eyes.specs.declared.seen.Seen.{Seen}
use Rattle.kcat_eyes.specs.declared.seen.Seen.TheVariants as seen
use Rattle.mouth.specs.declared.fault.MouthFault.{MouthFault}
use Rattle.mouth.specs.declared.fault.MouthFault.TheVariants.{FileEnded, NoEnd}
use Rattle.mouth.specs.Reading.{OpenFile, Reading, Stop, stop, at_place, stop_cause, mouth_cause, with_files}
use Rattle.mouth.specs.Tokens.{Given, given, in_file, after, looked, next_over, next, goes_on, file_ended}

guard_ok : {X E : Type 0} (b : Bool) (x : Result X E) (e : E) (y : X) → (if b then x else Err e) ≡ Ok y → (b ≡ true) × (x ≡ Ok y)
guard_ok true x e y is = (refl, is)
guard_ok false x e y is = absurd cc

guard_err : {X Y E : Type 0} (b : Bool) (x : Result X E) (w : Result Y E) (d e : E) → (x ≡ Err e → w ≡ Err e) → (if b then x else Err d) ≡ Err e → (if b then w else Err d) ≡ Err e
guard_err true x w d e same is = same is
guard_err false x w d e same is = let one : d ≡ e = cc in ap Err one

-- A token is the next one.
token_over : (codes : Codes) (r r1 : Reading) (below : List OpenFile) (t : Token) → looked codes r ≡ Ok (seen.Token t, r1) → next_over codes r below ≡ Ok (t, r1)
token_over codes r r1 [] t sees = rw sees refl
token_over codes r r1 (file ∷ files) t sees = rw sees refl

pub token_next : (codes : Codes) (r r1 : Reading) (t : Token) → looked codes r ≡ Ok (seen.Token t, r1) → next codes r ≡ Ok (t, r1)
unfolding next
token_next codes r r1 t sees = token_over codes r r1 r.below t sees

fault_over : (codes : Codes) (r : Reading) (below : List OpenFile) (e : Stop MouthFault) → looked codes r ≡ Err e → next_over codes r below ≡ Err e
fault_over codes r [] e sees = rw sees refl
fault_over codes r (file ∷ files) e sees = rw sees refl

-- A fault of the innermost file is that of the mouth.
pub fault_next : (codes : Codes) (r : Reading) (e : Stop MouthFault) → looked codes r ≡ Err e → next codes r ≡ Err e
unfolding next
fault_next codes r e sees = fault_over codes r r.below e sees

end_over : (codes : Codes) (r r1 r2 : Reading) (below : List OpenFile) → r1.below ≡ below → looked codes r ≡ Ok (seen.End, r1) → file_ended r1 ≡ Ok r2 → next_over codes r below ≡ next codes r2
unfolding next
end_over codes r r1 r2 [] same sees ended =
    let none = guard_ok (r1.inside == 0) (goes_on r1 r1.below) (stop FileEnded r1) r2 ended in
    let never = rw same at none.1 in absurd cc
end_over codes r r1 r2 (file ∷ files) same sees ended =
    let one = guard_ok (r1.inside == 0) (goes_on r1 r1.below) (stop FileEnded r1) r2 ended in
    let goes : goes_on r1 (file ∷ files) ≡ Ok r2 = rw same at one.1 in
    let is : with_files r1 file files ≡ r2 = cc in
    rw (sees, one.0, ← is) refl

told_of : Seen × Reading → Result (Seen × Reading) (Stop MouthFault)
told_of s = Ok s

pairs : (a b : Seen × Reading) → told_of a ≡ told_of b → a.1 ≡ b.1
unfolding told_of
pairs a b same = ap (λ (s : Seen × Reading). s.1) (let both : a ≡ b = cc in both)

given_after : Reading → Given → Result (Seen × Reading) (Stop MouthFault)
given_after r g = Ok (g.seen, after r g)

looked_same : (r : Reading) (g : Result Given (Stop MouthFault)) (s : Seen × Reading) → (g >>= given_after r) ≡ Ok s → s.1.below ≡ r.below
unfolding given_after told_of
looked_same r (Ok g) s is = ap (λ (r : Reading). r.below) (sym (pairs (g.seen, after r g) s is))
looked_same r (Err e) s is = absurd cc

looked_below : (codes : Codes) (r r1 : Reading) (s : Seen) → looked codes r ≡ Ok (s, r1) → r1.below ≡ r.below
unfolding given_after
looked_below codes r r1 s sees = looked_same r (with_fault (in_file r.innermost) (given codes r.names r.innermost)) (s, r1) sees

-- A file that ends and the one below it that goes on: what comes next is what comes then.
pub end_next : (codes : Codes) (r r1 r2 : Reading) → looked codes r ≡ Ok (seen.End, r1) → file_ended r1 ≡ Ok r2 → next codes r ≡ next codes r2
unfolding next
end_next codes r r1 r2 sees ended =
    end_over codes r r1 r2 r.below (looked_below codes r r1 seen.End sees) sees ended

ended_over : (codes : Codes) (r r1 : Reading) (below : List OpenFile) (e : Stop MouthFault) → r1.below ≡ below → looked codes r ≡ Ok (seen.End, r1) → file_ended r1 ≡ Err e → next_over codes r below ≡ Err e
ended_over codes r r1 [] e same sees ended =
    rw sees (guard_err (r1.inside == 0) (goes_on r1 r1.below) (Err (stop NoEnd r1)) (stop FileEnded r1) e (λ none. let this : goes_on r1 [] ≡ Err e = rw same at none in cc) ended)
ended_over codes r r1 (file ∷ files) e same sees ended =
    rw sees (guard_err (r1.inside == 0) (goes_on r1 r1.below) (next_over codes (with_files r1 file files) files) (stop FileEnded r1) e (λ none. let this : goes_on r1 (file ∷ files) ≡ Err e = rw same at none in absurd cc) ended)

-- A file that may not end, or the main file that ends.
pub ended_next : (codes : Codes) (r r1 : Reading) (e : Stop MouthFault) → looked codes r ≡ Ok (seen.End, r1) → file_ended r1 ≡ Err e → next codes r ≡ Err e
unfolding next
ended_next codes r r1 e sees ended =
    ended_over codes r r1 r.below e (looked_below codes r r1 seen.End sees) sees ended

-- ---- what the loop answers

pub refuses_next : (cause : Cause) (codes : Codes) (r : Reading) (e : Stop MouthFault) → AgreesFault cause e (looked codes r) → AgreesFault cause e (next codes r)
refuses_next Determined codes r e agrees = fault_next codes r e agrees
refuses_next Counted codes r e agrees = tt
refuses_next Free codes r e agrees = tt

pub refuses_ended : (cause : Cause) (codes : Codes) (r r1 : Reading) (e : Stop MouthFault) → looked codes r ≡ Ok (seen.End, r1) → AgreesFault cause e (file_ended r1) → AgreesFault cause e (next codes r)
refuses_ended Determined codes r r1 e sees agrees = ended_next codes r r1 e sees agrees
refuses_ended Counted codes r r1 e sees agrees = tt
refuses_ended Free codes r r1 e sees agrees = tt

pub refusal : {X Y : Type 0} (view : X → Y) (place : Place) (result : Result X MouthFault) (e : MouthFault) (a b : Result Y (Stop MouthFault)) → IsErr result × IsErrAnd result (λ d. d ≡ e) → a ≡ b
    → AgreesFault (mouth_cause e) (at_place place e) b → Agrees view (stop_cause mouth_cause) (with_fault (at_place place) result) a
refusal view place (Ok x) e a b exit same agrees = absurd (false≢true exit.0)
refusal view place (Err d) e a b exit same agrees = rw exit.1 (same_agrees (mouth_cause e) (at_place place e) a b same agrees)
