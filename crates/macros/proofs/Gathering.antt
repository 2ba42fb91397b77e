-- Arguments that are gathered one after the other.
use Rattle.std.proofs.Common.{◌≡◌, ◌<◌, ◌≤◌, ◌+◌, ◌-◌, ℕ, zero, suc, Bool, List, [], ◌∷◌, ◌++◌, length, take, drop, refl, sym, ap, ◌∙◌, subst, arith, append_assoc, length-drop, Result, Ok, Err}
use Rattle.std.specs.Prelude.{slice_range}
use Rattle.std.proofs.Math.Seq.{drop-length}
use Rattle.std.proofs.lemmas.List.{take-take, drop-take, length-take-le}
use Rattle.ts_base.specs.Agreement.{Cause, Determined, Counted, Free, ◌>>=◌, AgreesFault}
use Rattle.tok_lists.specs.declared.token.Token.{Token}
use Rattle.tok_lists.specs.declared.token.Token.TheVariants.{Char, Ja, Name, Kept, Param}
use Rattle.env_groups.specs.Environments.{Nest}
use Rattle.env_groups.specs.Macros.{param_count}
use Rattle.env_groups.specs.declared.meaning.MacroDef.{MacroDef}
use Rattle.mouth.specs.Reading.{Reading, Stop, with_inside}
use Rattle.mouth.specs.Changes.{entered, left}
use Rattle.raw_texts.specs.declared.fault.MacroFault.{MacroFault}
use Rattle.macros.specs.Calls.{Parts, parts, with_param, met, argument_of, arguments_of, call}
use Rattle.macros.specs.Borders.{AreNoBraces, IsDelimiter}

abbrev Answer : Type 0
Answer = Result (List (List Token) × Reading) (Stop MacroFault)

-- the arguments that were gathered, and others after them
abbrev pub gathered : List (List Token) → List (List Token) × Reading → Answer
gathered args b = Ok (args ++ b.0, b.1)

next_of : (a : List Token) (args : List (List Token)) (r : Answer) → ((r >>= λ b. Ok (a ∷ b.0, b.1)) >>= gathered args) ≡ (r >>= gathered (args ++ a ∷ []))
next_of a args (Ok b) = ap (λ l. Ok (l, b.1)) (sym (append_assoc args (a ∷ []) b.0))
next_of a args (Err e) = refl

pub gathers : (nest : Nest) (long : Bool) (args : List (List Token)) (d : List Token) (ds : List (List Token)) (r r1 : Reading) (a : List Token) → argument_of nest long d r ≡ Ok (a, r1)
    → (arguments_of nest long (d ∷ ds) r >>= gathered args) ≡ (arguments_of nest long ds r1 >>= gathered (args ++ a ∷ []))
gathers nest long args d ds r r1 a reads = rw reads (next_of a args (arguments_of nest long ds r1))

pub gathers_not : (cause : Cause) (nest : Nest) (long : Bool) (args : List (List Token)) (d : List Token) (ds : List (List Token)) (r : Reading) (e : Stop MacroFault)
    → AgreesFault cause e (argument_of nest long d r) → AgreesFault cause e (arguments_of nest long (d ∷ ds) r >>= gathered args)
gathers_not Determined nest long args d ds r e reads = rw reads refl
gathers_not Counted nest long args d ds r e reads = tt
gathers_not Free nest long args d ds r e reads = tt

none_before : (r : Answer) → (r >>= gathered []) ≡ r
none_before (Ok b) = refl
none_before (Err e) = refl

pub gathers_all : (nest : Nest) (long : Bool) (ds : List (List Token)) (r : Reading) → arguments_of nest long ds r ≡ (arguments_of nest long ds r >>= gathered [])
gathers_all nest long ds r = sym (none_before (arguments_of nest long ds r))

-- ---- the delimiters of a parameter text

pub counted : (l : List Token) → length (parts l).delimiters ≡ param_count l
counted [] = refl
counted (Char c k ∷ l) = counted l
counted (Ja c ∷ l) = counted l
counted (Name n ∷ l) = counted l
counted (Kept n ∷ l) = counted l
counted (Param n ∷ l) = let more = counted l in omega (arith, more)

-- the delimiters from a parameter on
pub delimiters_from : (l : List Token) (at to : ℕ) → parts (drop at l) ≡ with_param (parts (drop (at + 1) l)) → (parts (drop (at + 1) l)).prefix ≡ slice_range l (at + 1) to
    → (parts (drop (at + 1) l)).delimiters ≡ (parts (drop to l)).delimiters → (parts (drop at l)).delimiters ≡ slice_range l (at + 1) to ∷ (parts (drop to l)).delimiters
delimiters_from l at to here prefix delimiters =
    ap (λ (p : Parts). p.delimiters) here ∙ ap (λ k. k ∷ (parts (drop (at + 1) l)).delimiters) prefix ∙ ap (λ k. slice_range l (at + 1) to ∷ k) delimiters

pub delimiters_end : (l : List Token) (at : ℕ) → length l ≤ at → at ≤ length l → (parts (drop at l)).delimiters ≡ []
delimiters_end l at least most = let whole : at ≡ length l = omega arith in ap (λ k. (parts (drop k l)).delimiters) whole ∙ ap (λ k. (parts k).delimiters) (drop-length l)

plain_take : (k : ℕ) (a : List Token) → AreNoBraces a → AreNoBraces (take k a)
plain_take zero a h = tt
plain_take (suc k) [] h = tt
plain_take (suc k) (t ∷ a) h = (h.0, plain_take k a h.1)

plain_drop : (k : ℕ) (a : List Token) → AreNoBraces a → AreNoBraces (drop k a)
plain_drop zero a h = h
plain_drop (suc k) [] h = tt
plain_drop (suc k) (t ∷ a) h = plain_drop k a h.1

-- A part of a parameter text is a delimiter.
pub is_delimiter : (l : List Token) (from to : ℕ) → AreNoBraces (take (length l - 1) l) → to ≤ length l → from < to → IsDelimiter (slice_range l from to)
is_delimiter l from to plain most less =
    let inside : to - from ≤ length (drop from l) = simp length-drop (omega arith) in
    let size : length (slice_range l from to) ≡ to - from = length-take-le (to - from) (drop from l) inside in
    let fewer : to - from - 1 ≤ to - from = omega arith in
    let short : from + (to - from - 1) ≤ length l - 1 = omega arith in
    let same : take (length (slice_range l from to) - 1) (slice_range l from to) ≡ drop from (take (from + (to - from - 1)) (take (length l - 1) l)) =
    ap (λ k. take (k - 1) (slice_range l from to)) size ∙ take-take (to - from - 1) (to - from) (drop from l) fewer
    ∙ sym (drop-take from (to - from - 1) l) ∙ ap (drop from) (sym (take-take (from + (to - from - 1)) (length l - 1) l short)) in
    record {
      some = omega (arith, size);
      braces = subst AreNoBraces (sym same) (plain_drop from (take (from + (to - from - 1)) (take (length l - 1) l)) (plain_take (from + (to - from - 1)) (take (length l - 1) l) plain));
    }

-- ---- a call

left_again : (r : Reading) → left (entered r) ≡ r
left_again r = let same : r.inside + 1 - 1 ≡ r.inside = omega arith in ap (with_inside r) same

-- A call without parameter text takes nothing.
pub call_none : (nest : Nest) (definition : MacroDef) (r : Reading) → definition.params ≡ [] → call nest definition r ≡ Ok ([], r)
unfolding call
call_none nest definition r none =
    ap (λ (params : List Token). met nest (parts params).prefix (entered r) >>= λ r. arguments_of nest definition.long (parts params).delimiters r >>= λ a. Ok (a.0, left a.1)) none
    ∙ ap (λ s. Ok ([], s)) (left_again r)
