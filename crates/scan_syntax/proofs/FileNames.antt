-- Steps of names of files.
use Rattle.std.proofs.Common.{◌≡◌, ℕ, ◌<◌, Bool, true, false, List, [], ◌∷◌, ◌++◌, length, Some, None, Result, refl, arith, append-nil, append_assoc}
use Rattle.std.specs.Prelude.{◌==◌}
use Rattle.std.proofs.lemmas.Bool.Decides.{nat_tests}
use Rattle.ts_outside.specs.Names.{is_file_name}
use Rattle.tok_lists.specs.declared.token.Token.{Token}
use Rattle.scan_numbers.specs.declared.fault.ScanFault.{ScanFault}
use Rattle.scan_numbers.specs.declared.fault.ScanKind.TheVariants.{NoName}
use Rattle.scan_numbers.specs.declared.step.Step.{Step}
use Rattle.scan_syntax.specs.declared.naming.Naming.{Naming}
use Rattle.scan_numbers.specs.Contexts.{Context}
use Rattle.scan_numbers.specs.Tokens.{FedToken, fed, is_space}
use Rattle.scan_numbers.specs.Answers.{Answer, Got, Needs, Bad, Expanded, ◌>>=◌}
use Rattle.scan_syntax.specs.FileNames.{name_byte, ends_name, name_bytes, file_named, file_name}
use Rattle.scan_numbers.specs.Machines.{Follows, whole}
use Rattle.scan_syntax.specs.Naming.{naming_left, begun_left, named_left, name_after, same_name}
use Rattle.scan_numbers.proofs.Follows.{same_follows}

pub fresh : (n : Naming) (list : List FedToken) → n.bytes.items ≡ [] → naming_left n list ≡ file_name list
unfolding naming_left
fresh n list is = rw is refl

-- ---- one more character

one_more : (before : List ℕ) (c : ℕ) (a : Answer (List ℕ))
    → (a >>= λ cs context left. Got (c ∷ cs) context left) >>= name_after before ≡ a >>= name_after (before ++ c ∷ [])
one_more before c (Got cs context rest) = rw (append_assoc before (c ∷ []) cs) refl
one_more before c (Needs form) = refl
one_more before c (Bad kind) = refl

begun_is : (before : List ℕ) (c : ℕ) (list : List FedToken) → named_left (before ++ c ∷ []) list ≡ begun_left (before ++ c ∷ []) list
begun_is [] c list = refl
begun_is (b ∷ bs) c list = refl

pub byte_on : (before : List ℕ) (n : Naming) (c : ℕ) (token : Token) (context : Context) (rest : List FedToken) → name_byte token ≡ Some c → n.bytes.items ≡ before ++ c ∷ []
    → begun_left before (fed token context ∷ rest) ≡ naming_left n rest
unfolding begun_left name_bytes naming_left
byte_on before n c token context rest is more = rw (is, more, begun_is before c rest) (one_more before c (name_bytes rest))

-- ---- the end

pub name_done : (before name : List ℕ) (taken : Bool) (token : Token) (context : Context) (rest : List FedToken) → name_byte token ≡ None → taken ≡ ends_name token
    → is_file_name before ≡ true → name ≡ before
    → begun_left before (fed token context ∷ rest) ≡ whole name taken (fed token context) rest
unfolding begun_left name_bytes file_named
name_done before name true token context rest is ends good same = rw (is, ← ends, append-nil before, good, same) refl
name_done before name false token context rest is ends good same = rw (is, ← ends, append-nil before, good, same) refl

bad_by : (before : List ℕ) (taken : Bool) (token : Token) (context : Context) (rest : List FedToken) → name_byte token ≡ None → taken ≡ ends_name token
    → is_file_name before ≡ false → begun_left before (fed token context ∷ rest) ≡ Bad NoName
unfolding begun_left name_bytes file_named
bad_by before true token context rest is ends bad = rw (is, ← ends, append-nil before, bad) refl
bad_by before false token context rest is ends bad = rw (is, ← ends, append-nil before, bad) refl

pub name_bad : (before : List ℕ) (token : Token) (context : Context) (rest : List FedToken) → name_byte token ≡ None
    → is_file_name before ≡ false → begun_left before (fed token context ∷ rest) ≡ Bad NoName
name_bad before token context rest is bad = bad_by before (ends_name token) token context rest is refl bad

pub ruleset steps = (byte_on, name_done, name_bad)

-- ---- spaces

none_yet : (bs : List ℕ) → true ≡ (length bs == 0) → bs ≡ []
none_yet [] is = refl
none_yet (b ∷ bs) is = absurd (grind (arith, nat_tests))

some_yet : (bs : List ℕ) → false ≡ (length bs == 0) → 0 < length bs
some_yet [] is = absurd (grind (arith, nat_tests))
some_yet (b ∷ bs) is = omega arith

pub space_on : (n : Naming) (token : Token) (context : Context) (rest : List FedToken) → true ≡ (length n.bytes.items == 0) → true ≡ is_space token context
    → naming_left n (fed token context ∷ rest) ≡ naming_left n rest
unfolding naming_left file_name
space_on n token context rest none space = rw (none_yet n.bytes.items none, ← space) refl

same_named : (a : Answer (List ℕ)) → a >>= file_named ≡ a >>= name_after []
same_named (Got cs context rest) = refl
same_named (Needs form) = refl
same_named (Bad kind) = refl

first_is : (bs : List ℕ) (token : Token) (context : Context) (rest : List FedToken) → true ≡ (length bs == 0) → false ≡ is_space token context
    → named_left bs (fed token context ∷ rest) ≡ begun_left bs (fed token context ∷ rest)
unfolding begun_left file_name
first_is bs token context rest none dark = rw (none_yet bs none, ← dark) (same_named (name_bytes (fed token context ∷ rest)))

later_is : (bs : List ℕ) (list : List FedToken) → 0 < length bs → named_left bs list ≡ begun_left bs list
later_is [] list some = absurd (omega arith)
later_is (b ∷ bs) list some = refl

pub first_follows : (n : Naming) (token : Token) (context : Context) (result : Result (Step Naming (List ℕ)) ScanFault) → true ≡ (length n.bytes.items == 0) → false ≡ is_space token context
    → Follows same_name naming_left (fed token context) (begun_left n.bytes.items) result → Follows same_name naming_left (fed token context) (naming_left n) result
unfolding naming_left
first_follows n token context result none dark follows =
    same_follows same_name naming_left (fed token context) (begun_left n.bytes.items) (naming_left n) result (λ rest. first_is n.bytes.items token context rest none dark) follows

pub later_follows : (n : Naming) (x : FedToken) (result : Result (Step Naming (List ℕ)) ScanFault) → false ≡ (length n.bytes.items == 0)
    → Follows same_name naming_left x (begun_left n.bytes.items) result → Follows same_name naming_left x (naming_left n) result
unfolding naming_left
later_follows n x result some follows =
    same_follows same_name naming_left x (begun_left n.bytes.items) (naming_left n) result (λ rest. later_is n.bytes.items (x ∷ rest) (some_yet n.bytes.items some)) follows

named_needs : (bs : List ℕ) → named_left bs [] ≡ Needs Expanded
unfolding begun_left name_bytes file_name
named_needs [] = refl
named_needs (b ∷ bs) = refl

pub naming_needs : (n : Naming) → naming_left n [] ≡ Needs Expanded
unfolding naming_left
naming_needs n = named_needs n.bytes.items
