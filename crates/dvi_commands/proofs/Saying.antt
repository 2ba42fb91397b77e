-- Numbers as bytes, the highest first, and the commands that such bytes say.
use Rattle.std.proofs.Common.{◌≡◌, ℕ, zero, suc, ◌+◌, ◌*◌, ◌%◌, ◌^◌, ◌<◌, List, [], ◌∷◌, ◌++◌, length, take, drop, Ok, refl, sym, ap, ◌∙◌, append_assoc, arith, ℤ, pos, false, length-append, pow-suc, mul_comm}
use Rattle.std.specs.Prelude.{negsuc, nat_lt}
use Rattle.std.specs.Int.{w32, byte_at, bytes_high_first, cast_unsigned}
use Rattle.std.specs.Int.RustNames.{FitsSigned}
use Rattle.std.proofs.Math.Nat.{pow-le-pow_right}
use Rattle.std.proofs.Math.Arith.{mod-mul}
use Rattle.std.proofs.lemmas.Int.{ints}
use Rattle.std.proofs.lemmas.List.{append-nil, take-append-le, drop-append-le, take_all, drop_all}
use Rattle.std.proofs.lemmas.Bool.{le-ltb}
use Rattle.ts_base.specs.Agreement.{◌>>=◌}
use Rattle.dvi_commands.specs.declared.font.FontDef.{FontDef}
use Rattle.dvi_commands.specs.Fields.{Field, text, value_after, unsigned, with_sign, signed, font_number}
use Rattle.dvi_commands.specs.Commands as c
use Rattle.dvi_commands.specs.Commands.{Command, Postamble, command, command_after, mark_after, group_after, right_after, down_after, font_after, font_def_after, file_after, post_after}
use Rattle.dvi_commands.specs.Spelling.{four, plain_definition, Spells}

-- ---- numbers

length-bytes : (k n : ℕ) → length (bytes_high_first k n) ≡ k
length-bytes zero n = refl
length-bytes (suc k) n = let e = length-bytes k n in omega (arith, e)

byte_more : (k n high : ℕ) → (high * 256 + byte_at k n) * 256 ^ k + n % 256 ^ k ≡ high * 256 ^ suc k + n % 256 ^ suc k
byte_more zero n high = omega arith
byte_more (suc k) n high =
    let unit = 256 ^ suc k in
    let wider : 256 ^ suc (suc k) ≡ 256 * unit = pow-suc 256 (suc k) ∙ mul_comm unit 256 in
    let some : 0 < unit = pow-le-pow_right {n = 256} (omega arith) {i = 0} {j = suc k} (omega arith) in
    rw (wider, mod-mul n {m = 256} {c = unit} (omega arith) some) (omega arith)

value-bytes : (k n high : ℕ) → value_after high (bytes_high_first k n) ≡ high * 256 ^ k + n % 256 ^ k
value-bytes zero n high = omega arith
value-bytes (suc k) n high = value-bytes k n (high * 256 + byte_at k n) ∙ byte_more k n high

-- ---- fields

abbrev got : {A : Type 0} → A → List ℕ → Field A
got x rest = Ok (x, rest)

pub text-again : (x rest : List ℕ) → text (length x) (x ++ rest) ≡ Ok (x, rest)
text-again x rest =
    let long : nat_lt (length (x ++ rest)) (length x) ≡ false = le-ltb _ _ (omega (arith, length-append x rest)) in
    let t : take (length x) (x ++ rest) ≡ x = take-append-le (length x) x rest (omega arith) ∙ take_all (length x) x (omega arith) in
    let d : drop (length x) (x ++ rest) ≡ rest = drop-append-le (length x) x rest (omega arith) ∙ ap (λ (y : List ℕ). y ++ rest) (drop_all (length x) x (omega arith)) in
    rw (long, t, d) refl

whole : (n m : ℕ) → n < m → 0 * m + n % m ≡ n
whole n m lt = grind arith

unsigned_one : (n : ℕ) (rest : List ℕ) → unsigned 1 (n ∷ rest) ≡ Ok (n, rest)
unfolding unsigned
unsigned_one n rest =
    let v : 0 * 256 + n ≡ n = omega arith in
    rw (text-again (n ∷ []) rest, v) refl

pub unsigned-again : (k n : ℕ) (rest : List ℕ) → n < 256 ^ k → unsigned k (bytes_high_first k n ++ rest) ≡ Ok (n, rest)
unfolding unsigned
unsigned-again k n rest lt =
    let t : text k (bytes_high_first k n ++ rest) ≡ Ok (bytes_high_first k n, rest) = ap (λ (j : ℕ). text j (bytes_high_first k n ++ rest)) (sym (length-bytes k n)) ∙ text-again (bytes_high_first k n) rest in
    let v : value_after 0 (bytes_high_first k n) ≡ n = value-bytes k n 0 ∙ whole n (256 ^ k) lt in
    rw (t, v) refl

with_sign-again : (z : ℤ) → FitsSigned w32 z → with_sign 4 (cast_unsigned w32 z) ≡ z
with_sign-again (pos n) fits = grind (arith, ints)
with_sign-again (negsuc n) fits = grind (arith, ints)

fits_four : (z : ℤ) → FitsSigned w32 z → cast_unsigned w32 z < 2 ^ 32
fits_four (pos n) fits = omega arith
fits_four (negsuc n) fits = omega arith

pub signed-again : (z : ℤ) (rest : List ℕ) → FitsSigned w32 z → signed 4 (four z ++ rest) ≡ Ok (z, rest)
unfolding signed
signed-again z rest fits =
    let e : unsigned 4 (four z ++ rest) ≡ Ok (cast_unsigned w32 z, rest) = unsigned-again 4 (cast_unsigned w32 z) rest (fits_four z fits) in
    rw (e, with_sign-again z fits) refl

signed_alone : (z : ℤ) → FitsSigned w32 z → signed 4 (four z) ≡ Ok (z, [])
signed_alone z fits = ap (signed 4) (sym (append-nil (four z))) ∙ signed-again z [] fits

-- ---- commands

pub says_right : (z : ℤ) → FitsSigned w32 z → command (146 ∷ four z) ≡ Ok (c.right z, [])
unfolding command command_after right_after
says_right z fits = ap (λ (x : Field ℤ). x >>= λ n. Ok (c.right n.0, n.1)) (signed_alone z fits)

pub says_down : (z : ℤ) → FitsSigned w32 z → command (160 ∷ four z) ≡ Ok (c.down z, [])
unfolding command command_after down_after
says_down z fits = ap (λ (x : Field ℤ). x >>= λ n. Ok (c.down n.0, n.1)) (signed_alone z fits)

pub says_set : (code : ℕ) → code < 2 ^ 16 → command (129 ∷ bytes_high_first 2 code) ≡ Ok (c.set code, [])
unfolding command command_after mark_after
says_set code lt = ap (λ (x : Field ℕ). x >>= λ n. Ok (c.set n.0, n.1)) (ap (unsigned 2) (sym (append-nil (bytes_high_first 2 code))) ∙ unsigned-again 2 code [] lt)

pub says_push : command (141 ∷ []) ≡ Ok (c.push, [])
unfolding command command_after group_after
says_push = refl

pub says_pop : command (142 ∷ []) ≡ Ok (c.pop, [])
unfolding command command_after group_after
says_pop = refl

pub says_eop : command (140 ∷ []) ≡ Ok (c.eop, [])
unfolding command command_after group_after
says_eop = refl

pub says_post_post : (at : ℤ) (id : ℕ) → FitsSigned w32 at → command (249 ∷ (four at ++ id ∷ [])) ≡ Ok (c.post_post at id, [])
unfolding command command_after file_after
says_post_post at id fits = rw (signed-again at (id ∷ []) fits) refl

pub says_font_def : (f : FontDef) (number : ℕ) → f.number ≡ pos number → number < 256 → f.check_sum < 2 ^ 32 → f.size < 2 ^ 32 → f.design < 2 ^ 32
    → command (243 ∷ number ∷ (bytes_high_first 4 f.check_sum ++ (bytes_high_first 4 f.size ++ (bytes_high_first 4 f.design ++ 0 ∷ length f.name ∷ f.name)))) ≡ Ok (c.font_def (plain_definition f), [])
unfolding command command_after font_after font_number font_def_after
says_font_def f number is small check_sum size design =
    let tail1 : List ℕ = 0 ∷ length f.name ∷ f.name in
    let tail2 : List ℕ = bytes_high_first 4 f.design ++ tail1 in
    let tail3 : List ℕ = bytes_high_first 4 f.size ++ tail2 in
    let tail4 : List ℕ = bytes_high_first 4 f.check_sum ++ tail3 in
    let n = unsigned_one number tail4 in
    let e1 = unsigned-again 4 f.check_sum tail3 check_sum in
    let e2 = unsigned-again 4 f.size tail2 size in
    let e3 = unsigned-again 4 f.design tail1 design in
    let e4 : text (length f.name) f.name ≡ Ok (f.name, []) = ap (text (length f.name)) (sym (append-nil f.name)) ∙ text-again f.name [] in
    rw (n, e1, e2, e3, text-again [] f.name, e4, ← is) refl

-- post, with the place of the last bop
pub says_post : (p : Postamble) → FitsSigned w32 p.back → p.num < 2 ^ 32 → p.den < 2 ^ 32 → p.mag < 2 ^ 32 → p.height < 2 ^ 32 → p.width < 2 ^ 32 → p.stack < 2 ^ 16 → p.pages < 2 ^ 16
    → command (248 ∷ (four p.back ++ (bytes_high_first 4 p.num ++ (bytes_high_first 4 p.den ++ (bytes_high_first 4 p.mag ++ (bytes_high_first 4 p.height ++ (bytes_high_first 4 p.width ++ (bytes_high_first 2 p.stack ++ bytes_high_first 2 p.pages)))))))) ≡ Ok (c.post p, [])
unfolding command command_after file_after post_after
says_post p back num den mag height width stack pages =
    let tail1 : List ℕ = bytes_high_first 2 p.pages in
    let tail2 : List ℕ = bytes_high_first 2 p.stack ++ tail1 in
    let tail3 : List ℕ = bytes_high_first 4 p.width ++ tail2 in
    let tail4 : List ℕ = bytes_high_first 4 p.height ++ tail3 in
    let tail5 : List ℕ = bytes_high_first 4 p.mag ++ tail4 in
    let tail6 : List ℕ = bytes_high_first 4 p.den ++ tail5 in
    let tail7 : List ℕ = bytes_high_first 4 p.num ++ tail6 in
    let e1 = signed-again p.back tail7 back in
    let e2 = unsigned-again 4 p.num tail6 num in
    let e3 = unsigned-again 4 p.den tail5 den in
    let e4 = unsigned-again 4 p.mag tail4 mag in
    let e5 = unsigned-again 4 p.height tail3 height in
    let e6 = unsigned-again 4 p.width tail2 width in
    let e7 = unsigned-again 2 p.stack tail1 stack in
    let e8 : unsigned 2 tail1 ≡ Ok (p.pages, []) = ap (unsigned 2) (sym (append-nil tail1)) ∙ unsigned-again 2 p.pages [] pages in
    rw (e1, e2, e3, e4, e5, e6, e7, e8) refl

-- ---- commands

pub Spells-append : (cs ds : List Command) (x y : List ℕ) → Spells x cs → Spells y ds → Spells (x ++ y) (cs ++ ds)
Spells-append [] ds x y p q = rw p q
Spells-append (cmd ∷ cs) ds x y p q = (p.0, p.1 ++ y, rw p.2 (append_assoc p.0 p.1 y), p.3, Spells-append cs ds p.1 y p.4 q)
