-- What each change of the definition makes of how much may still be read.
use Rattle.std.proofs.Common.{◌≡◌, ◌≤◌, ◌<◌, ℕ, ◌+◌, ◌-◌, List, [], ◌∷◌, length, Bool, true, false, Result, Ok, Err, refl, sym, ap, ◌∙◌, arith, nat_le, ◌≢◌}
use Rattle.std.specs.Prelude.{if◌then◌else◌, ◌==◌}
use Rattle.std.proofs.lemmas.Grind.{common_steps}
use Rattle.std.proofs.lemmas.Bool.{eqb-false}
use Rattle.ts_base.specs.Agreement.{◌>>=◌, with_fault}
use Rattle.tok_lists.specs.declared.spelling.Spelling.{Spelling}
use Rattle.tok_lists.specs.declared.token.Token.{Token}
use Rattle.tok_lists.specs.declared.pending_fault.PendingFault.{PendingFault}
use Rattle.tok_lists.specs.Codes.{Codes}
use Rattle.tok_lists.specs.Pending.{put_before}
use Rattle.kcat_eyes.specs.declared.seen.Seen.{Seen}
use Rattle.kcat_eyes.specs.declared.seen.Seen.TheVariants as seen
use Rattle.kcat_eyes.specs.Eyes.{Sight, Look, FaultAt, next as next_seen}
use Rattle.kcat_eyes.specs.Sights.{ahead}
use Rattle.kcat_eyes.proofs.Falls.{IsLowered, next_lowered}
use Rattle.mouth.specs.declared.fault.MouthFault.{MouthFault}
use Rattle.mouth.specs.declared.fault.MouthFault.TheVariants.{FileEnded, NoEnd, Budget, DepthFull}
use Rattle.mouth.specs.Reading.{OpenFile, Reading, Stop, stop, with_files, with_pending, of_pending, with_units, with_begun}
use Rattle.mouth.specs.Tokens.{Given, given_before, given, in_file, after, looked, taken, next_over, next}
use Rattle.mouth.specs.Changes.{with_list, spent, begun, most_begun}
use Rattle.mouth.specs.Sizes.{file_size, unread, size}
use Rattle.mouth.proofs.Sizing.{put_is}

-- What a file gave leaves less of it to read, and its end no more.
IsLess : ℕ → Seen → ℕ → Type 0
IsLess n (seen.Token token) m = m < n
IsLess n seen.End m = m ≤ n

IsGivenLess : ℕ → Result Given FaultAt → Type 0
IsGivenLess n (Ok g) = IsLess n g.seen (file_size g.file)
IsGivenLess n (Err at) = Unit {0}

seen_less : (codes : Codes) (n : ℕ) (s : Seen) (sight : Sight) (name : List ℕ) → IsLowered n (Ok (record { seen = s; names = []; sight = sight }))
    → IsLess n s (file_size (record { name = name; sight = sight; pending = [] }))
unfolding IsLess
seen_less codes n (seen.Token token) sight name h = omega (arith, h)
seen_less codes n seen.End sight name h = omega (arith, h)

look_less : (codes : Codes) (name : List ℕ) (n : ℕ) (r : Result Look FaultAt) → IsLowered n r
    → IsGivenLess n (r >>= (λ look. Ok (record { seen = look.seen; names = look.names; file = record { name = name; sight = look.sight; pending = [] } })))
unfolding IsGivenLess
look_less codes name n (Ok look) h = seen_less codes n look.seen look.sight name h
look_less codes name n (Err at) h = tt

before_less : (codes : Codes) (names : List Spelling) (file : OpenFile) (pending : List Token)
    → IsGivenLess (ahead file.sight.lines.line_no file.sight.rest + length pending) (given_before codes names file pending)
unfolding IsGivenLess IsLess
before_less codes names file [] =
    let n : ahead file.sight.lines.line_no file.sight.rest + length {A = Token} [] ≡ ahead file.sight.lines.line_no file.sight.rest = omega arith in
    rw n (look_less codes file.name (ahead file.sight.lines.line_no file.sight.rest) (next_seen codes names file.sight) (next_lowered codes names file.sight))
before_less codes names file (token ∷ pending) = omega arith

-- ---- the next token

abbrev Answer : Type 0
Answer = Result (Token × Reading) (Stop MouthFault)

Less : Reading → Reading → Type 0
Less r r' = (unread r' < unread r) × (r'.units ≡ r.units)

bind_ok : {X Y E : Type 0} (r : Result X E) (f : X → Result Y E) (y : Y) → (r >>= f) ≡ Ok y → (x : X) × (r ≡ Ok x) × (f x ≡ Ok y)
bind_ok (Ok x) f y h = (x, refl, h)
bind_ok (Err e) f y h = absurd cc

guard_ok : {X E : Type 0} (b : Bool) (x : Result X E) (e : E) (y : X) → (if b then x else Err e) ≡ Ok y → x ≡ Ok y
guard_ok true x e y is = is
guard_ok false x e y is = absurd cc

answered : Token × Reading → Answer
answered a = Ok a

answers : (a b : Token × Reading) → answered a ≡ answered b → a.1 ≡ b.1
unfolding answered
answers a b same = ap (λ (s : Token × Reading). s.1) (let both : a ≡ b = cc in both)

taken_less : (r : Reading) (s : Seen) (r1 : Reading) (ended : Answer) (t : Token) (r' : Reading) → IsLess (file_size r.innermost) s (file_size r1.innermost)
    → r1.below ≡ r.below → r1.units ≡ r.units → (ended ≡ answered (t, r') → Less r r') → taken s r1 ended ≡ answered (t, r') → Less r r'
unfolding answered Less IsLess unread
taken_less r (seen.Token token) r1 ended t r' less below units goes is =
    let same : r1 ≡ r' = answers (token, r1) (t, r') is in
    rw (← same, below, units) (omega (arith, less), refl)
taken_less r seen.End r1 ended t r' less below units goes is = goes (guard_ok (r1.inside == 0) ended (stop FileEnded r1) (t, r') is)

-- What the innermost file gave leaves less of it, and the other files, the units and the tests as they were.
record Looks (r : Reading) (s : Seen) (r1 : Reading) : Type 0 where
  less : IsLess (file_size r.innermost) s (file_size r1.innermost)
  below : r1.below ≡ r.below
  units : r1.units ≡ r.units

seen_after : Reading → Given → Result (Seen × Reading) (Stop MouthFault)
seen_after r g = Ok (g.seen, after r g)

seen_of : Seen × Reading → Result (Seen × Reading) (Stop MouthFault)
seen_of s = Ok s

same_seen : (a b : Seen × Reading) → seen_of a ≡ seen_of b → (a.0 ≡ b.0) × (a.1 ≡ b.1)
unfolding seen_of
same_seen a b same = let both : a ≡ b = cc in (ap (λ (s : Seen × Reading). s.0) both, ap (λ (s : Seen × Reading). s.1) both)

never_seen : (e : Stop MouthFault) (x : Seen × Reading) → Err e ≡ seen_of x → ⊥
unfolding seen_of
never_seen e x is = cc

given_looks : (r : Reading) (g : Result Given FaultAt) (s : Seen) (r1 : Reading) → IsGivenLess (file_size r.innermost) g → (with_fault (in_file r.innermost) g >>= seen_after r) ≡ seen_of (s, r1) → Looks r s r1
unfolding IsGivenLess seen_after seen_of
given_looks r (Ok g) s r1 less is =
    let same = same_seen (g.seen, after r g) (s, r1) is in
    rw (← same.0, ← same.1) (record { less = less; below = refl; units = refl })
given_looks r (Err at) s r1 less is = absurd (let never : ⊥ = never_seen (in_file r.innermost at) (s, r1) is in never)

looks : (codes : Codes) (r : Reading) (s : Seen) (r1 : Reading) → looked codes r ≡ seen_of (s, r1) → Looks r s r1
unfolding seen_after
looks codes r s r1 is = given_looks r (given codes r.names r.innermost) s r1 (before_less codes r.names r.innermost r.innermost.pending) is

ended_less : (r r1 : Reading) (file : OpenFile) (files : List OpenFile) (r' : Reading) → r.below ≡ file ∷ files → r1.units ≡ r.units → Less (with_files r1 file files) r' → Less r r'
unfolding Less unread
ended_less r r1 file files r' same units less = rw same (omega (arith, less.0), less.1 ∙ units)

over_less : (codes : Codes) (r : Reading) (below : List OpenFile) (t : Token) (r' : Reading) → r.below ≡ below → next_over codes r below ≡ answered (t, r') → Less r r'
unfolding answered seen_of Less
over_less codes r [] t r' same is =
    let found = bind_ok (looked codes r) (λ s. taken s.0 s.1 (Err (stop NoEnd s.1))) (t, r') is in
    let look = looks codes r found.0.0 found.0.1 found.1 in
    taken_less r found.0.0 found.0.1 (Err (stop NoEnd found.0.1)) t r' look.less look.below look.units (λ never. absurd cc) found.2
over_less codes r (file ∷ files) t r' same is =
    let found = bind_ok (looked codes r) (λ s. taken s.0 s.1 (next_over codes (with_files s.1 file files) files)) (t, r') is in
    let look = looks codes r found.0.0 found.0.1 found.1 in
    let r1 = found.0.1 in
    taken_less r found.0.0 r1 (next_over codes (with_files r1 file files) files) t r' look.less look.below look.units
    (λ goes. ended_less r r1 file files r' same look.units (over_less codes (with_files r1 file files) files t r' refl goes)) found.2

next_less : (codes : Codes) (r : Reading) (t : Token) (r' : Reading) → next codes r ≡ Ok (t, r') → Less r r'
unfolding next answered
next_less codes r t r' is = over_less codes r r.below t r' refl is

pub token_unread : (codes : Codes) (r : Reading) (t : Token) (r' : Reading) → next codes r ≡ Ok (t, r') → unread r' < unread r
unfolding Less
token_unread codes r t r' is = (next_less codes r t r' is).0

pub token_size : (codes : Codes) (r : Reading) (t : Token) (r' : Reading) → next codes r ≡ Ok (t, r') → size r' < size r
unfolding Less size
token_size codes r t r' is = let less = next_less codes r t r' is in omega (arith, less.0, less.1)

-- ---- lists, units and expansions

with_list_is : (r : Reading) (list : List Token) (p : Result (List Token) PendingFault) (r' : Reading) → (with_fault (λ f. stop (of_pending f) r) p >>= (λ pending. Ok (with_files r (with_pending r.innermost pending) r.below))) ≡ Ok r'
    → (pending : List Token) × (p ≡ Ok pending) × (with_files r (with_pending r.innermost pending) r.below ≡ r')
with_list_is r list (Ok pending) r' is = (pending, refl, cc)
with_list_is r list (Err e) r' is = absurd cc

pub list_size : (list : List Token) (r r' : Reading) → with_list list r ≡ Ok r' → size r' ≤ size r + 1000000
unfolding size unread
list_size list r r' is =
    let found = with_list_is r list (put_before list r.innermost.pending) r' is in
    let put = put_is list r.innermost.pending found.0 found.1 in
    let most = put.0 in
    let count : length found.0 ≤ length r.innermost.pending + 1000000 = rw (← put.1) (grind (arith, common_steps)) in
    rw (← found.2) (omega (arith, count))

spent_is : (r r' : Reading) → spent r ≡ Ok r' → (r.units ≢ 0) × (with_units r (r.units - 1) ≡ r')
spent_is r r' is = both (r.units == 0) refl is
  where
    both : (b : Bool) → b ≡ (r.units == 0) → (if b then Err (stop Budget r) else Ok (with_units r (r.units - 1))) ≡ Ok r' → (r.units ≢ 0) × (with_units r (r.units - 1) ≡ r')
    both true was is = absurd cc
    both false was is = (eqb-false r.units 0 (sym was), cc)

pub unit_size : (r r' : Reading) → spent r ≡ Ok r' → size r' + 100000000000 ≡ size r
unfolding size unread
unit_size r r' is = let one = spent_is r r' is in let some = one.0 in rw (← one.1) (omega (arith, some))

pub begun_size : (r r' : Reading) → begun r ≡ Ok r' → size r' + 100000000000 ≡ size r
unfolding size unread
begun_size r r' is =
    let found = bind_ok (spent r) (λ s. if nat_le most_begun s.begun then Err (stop DepthFull s) else Ok (with_begun s (s.begun + 1))) r' is in
    let s = found.0 in
    let same = begins (nat_le most_begun s.begun) s r' found.2 in
    rw (← same) (unit_size r s found.1)
  where
    begins : (b : Bool) (s r' : Reading) → (if b then Err (stop DepthFull s) else Ok (with_begun s (s.begun + 1))) ≡ Ok r' → with_begun s (s.begun + 1) ≡ r'
    begins true s r' is = absurd cc
    begins false s r' is = cc
