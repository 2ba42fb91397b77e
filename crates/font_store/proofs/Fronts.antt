-- A file that is read on, and the first bytes of a metric file.
use Rattle.std.proofs.Common.{◌≡◌, ℕ, ◌+◌, ◌*◌, ◌≤◌, ◌<◌, max, List, [], ◌++◌, length, drop, take, Option, Some, None, Result, Ok, Err, refl, ap, subst, sym, ◌∙◌, arith, length-drop, length-take, length-append}
use Rattle.std.proofs.Math.Seq.{take-add}
use Rattle.std.proofs.lemmas.List.{take_all, drop-drop}
use Rattle.ts_base.specs.Agreement.{Cause, Determined, Counted, Free, AgreesFault, Agrees, Counts, Uncounted, with_fault}
use Rattle.ts_base.proofs.Composing.{leaves_count}
use Rattle.ts_outside.specs.declared.files.FileNo.{FileNo}
use Rattle.ts_outside.specs.declared.files.Opened.TheVariants as opened
use Rattle.ts_outside.specs.declared.files.Got.TheVariants as got
use Rattle.ts_outside.specs.Reading.{OpensHeld, Gives}
use Rattle.font_store.specs.declared.metric.Metric.{Metric}
use Rattle.font_store.specs.declared.loading.LoadFault.{LoadFault}
use Rattle.font_store.specs.Metrics.{metric_of}
use Rattle.font_store.specs.Loading.{load_cause, load_fault, loaded_from}
use Rattle.font_store.specs.Pieces.{IsFront, size_of, first_bytes}
use Rattle.font_store.proofs.FirstWords.{metric_in_front}

given : (before now : Option (List ℕ)) (left buffer : List ℕ) (n : ℕ) → before ≡ Some left → Gives before (got.Bytes n) buffer now → (n ≤ length left) × (take n buffer ≡ take n left) × (now ≡ Some (drop n left))
given before now left buffer n is gives = let P : Option (List ℕ) → Type 0 = λ o. Gives o (got.Bytes n) buffer now in subst P is gives

at_end : (before now : Option (List ℕ)) (left buffer : List ℕ) → before ≡ Some left → Gives before got.End buffer now → (left ≡ []) × (now ≡ Some [])
at_end before now left buffer is gives = let P : Option (List ℕ) → Type 0 = λ o. Gives o got.End buffer now in subst P is gives

-- The bytes so far are the front of the whole, also with a piece more.
pub read_more : (before now : Option (List ℕ)) (whole bytes buffer new : List ℕ) (n : ℕ) → IsFront whole bytes before → Gives before (got.Bytes n) buffer now → new ≡ bytes ++ take n buffer → IsFront whole new now
read_more before now whole bytes buffer new n so_far gives joined =
    let k : ℕ = length bytes in
    let g = given before now (drop k whole) buffer n so_far.rest gives in
    let all : new ≡ take (k + n) whole = joined ∙ ap (λ (t : List ℕ). bytes ++ t) g.1 ∙ ap (λ (t : List ℕ). t ++ take n (drop k whole)) so_far.front ∙ sym (take-add k n whole) in
    let len : length new ≡ k + n = ap length joined ∙ length-append bytes (take n buffer) ∙ ap (λ (m : ℕ). k + m) (ap length g.1 ∙ omega (arith, length-take n (drop k whole), g.0)) in
    record {
      front = all ∙ ap (λ (m : ℕ). take m whole) (sym len);
      rest = g.2 ∙ ap (λ (t : List ℕ). Some t) (drop-drop n k whole ∙ ap (λ (m : ℕ). drop m whole) (sym len));
    }

-- At its end the whole of it is there.
pub read_all : (before now : Option (List ℕ)) (whole bytes buffer : List ℕ) (most : ℕ) → length bytes ≤ most → IsFront whole bytes before → Gives before got.End buffer now → (take most whole ≡ bytes) × IsFront whole bytes now
read_all before now whole bytes buffer most within so_far gives =
    let none = at_end before now (drop (length bytes) whole) buffer so_far.rest gives in
    let short : length whole ≤ length bytes = omega (arith, length-drop (length bytes) whole, ap length none.0) in (
      take_all most whole (omega arith) ∙ sym (so_far.front ∙ take_all (length bytes) whole short),
      record {
        front = so_far.front;
        rest = none.1 ∙ ap (λ (t : List ℕ). Some t) (sym none.0);
      },
    )

-- Nothing is read yet.
pub starts : (whole bytes : List ℕ) (left : Option (List ℕ)) → bytes ≡ [] → left ≡ Some whole → IsFront whole bytes left
starts whole bytes left none is = rw none (record { front = refl; rest = is })

-- What isn't determined agrees whatever is given.
pub for_any : {Y E : Type 0} (cause : Cause) (e : E) (x y : Y) → AgreesFault cause e (Ok x) → AgreesFault cause e (Ok y)
for_any Determined e x y agrees = absurd cc
for_any Counted e x y agrees = tt
for_any Free e x y agrees = tt

-- The same bytes are read.
abbrev Read : List ℕ → List ℕ → Type 0
Read x y = ◌≡◌ {A = Result (List ℕ) LoadFault} (Ok x) (Ok y)

taken : (x y : List ℕ) → Read x y → x ≡ y
taken x y is = cc

-- A file of fewer than 28 bytes is read whole.
pub short_file : (left bytes : List ℕ) → Read (take 28 left) bytes → length bytes < 28 → Read (first_bytes left) bytes
short_file left bytes is short =
    let front : take 28 left ≡ bytes = taken (take 28 left) bytes is in
    let small : length left ≤ 28 = omega (arith, length-take 28 left, ap length front) in
    let whole : take 28 left ≡ left = take_all 28 left small in
    let more : first_bytes left ≡ left = take_all (size_of (take 28 left)) left (omega arith) in
    ap (λ (t : List ℕ). Ok t) (more ∙ sym whole ∙ front)

pub long_file : (left bytes new : List ℕ) (most : ℕ) → Read (take 28 left) bytes → most ≡ size_of bytes → Read (take most left) new → Read (first_bytes left) new
long_file left bytes new most is size all =
    let front : take 28 left ≡ bytes = taken (take 28 left) bytes is in
    let same : size_of (take 28 left) ≡ most = ap size_of front ∙ sym size in
    ap (λ (n : ℕ). Ok (take n left)) same ∙ all

-- Found comes where the name is held, and the whole of the file is left.
pub found : (held : Option (List ℕ)) (file : FileNo) (left : ℕ → Option (List ℕ)) → OpensHeld held (opened.Found file) left → (whole : List ℕ) × ((held ≡ Some whole) × (left file.0 ≡ Some whole))
found None file left opens = absurd opens
found (Some whole) file left opens = (whole, (refl, opens))

-- The metric of the bytes that were read is that of the file.
pub loaded_whole : (result : Result Metric LoadFault) (held : Option (List ℕ)) (whole seen : List ℕ) → held ≡ Some whole → (bytes : List ℕ) → seen ≡ bytes → Read (first_bytes whole) bytes
    → Agrees (λ m. m) load_cause result (with_fault load_fault (metric_of seen)) → Agrees (λ m. m) load_cause result (loaded_from held)
loaded_whole result held whole seen is bytes look read agrees =
    let same : seen ≡ first_bytes whole = look ∙ sym (taken (first_bytes whole) bytes read) in
    let metric : metric_of seen ≡ metric_of whole = ap metric_of same ∙ metric_in_front whole in
    let all : with_fault load_fault (metric_of seen) ≡ loaded_from held = ap (with_fault load_fault) metric ∙ sym (ap loaded_from is) in
    let P : Result Metric LoadFault → Type 0 = λ given. Agrees (λ m. m) load_cause result given in
    subst P all agrees

-- What refuses without a call on the files leaves their count.
pub counts_quiet : (result : Result Metric LoadFault) (old new : ℕ) → Uncounted load_cause result → new ≡ old → Counts load_cause result old new
counts_quiet result old new quiet same = rw same (leaves_count load_cause result old quiet)
