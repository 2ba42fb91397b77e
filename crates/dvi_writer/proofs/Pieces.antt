-- Pieces of a file that are put one after the other.
use Rattle.std.proofs.Common.{◌≡◌, ℕ, ◌+◌, ◌-◌, ◌%◌, ◌≤◌, ◌<◌, false, List, [], ◌∷◌, ◌++◌, length, take, drop, get_or, replicate, sym, ap, ◌∙◌, append_assoc, ℤ, pos, arith}
use Rattle.std.specs.Prelude.{nat_eq, All, suc}
use Rattle.std.specs.Int.{w32}
use Rattle.std.specs.Int.RustNames.{FitsSigned}
use Rattle.std.proofs.lemmas.List.Elements.{All-nil, All-cons}
use Rattle.std.specs.List.{flat_map}
use Rattle.std.proofs.lemmas.Grind.{common_steps}
use Rattle.std.proofs.lemmas.List.{append-nil, take_more}
use Rattle.std.proofs.lemmas.List.Concat.{flat_map-cons}
use Rattle.byteorder.specs.Endian.{big_bytes}
use Rattle.dvi_commands.specs.declared.font.FontDef.{FontDef}
use Rattle.dvi_commands.specs.Fields.{signed_bytes}
use Rattle.dvi_writer.specs.declared.kept.Kept.{Kept}
use Rattle.dvi_writer.specs.Written.{unit_bytes, preamble_bytes, bop_bytes, definition_bytes, definitions_bytes, opening_bytes, front_bytes, post_bytes, post_post_bytes, id_of, fill_count, closing_bytes, end_bytes}

pub both : (x y z a b : List ℕ) → y ≡ x ++ a → z ≡ y ++ b → z ≡ x ++ (a ++ b)
both x y z a b e f = f ∙ ap (λ (t : List ℕ). t ++ b) e ∙ append_assoc x a b

pub wrote_units : (x0 x1 x2 x3 : List ℕ) → x1 ≡ x0 ++ big_bytes 4 25400000 → x2 ≡ x1 ++ big_bytes 4 473628672 → x3 ≡ x2 ++ big_bytes 4 1000 → x3 ≡ x0 ++ unit_bytes
unfolding unit_bytes
wrote_units x0 x1 x2 x3 e1 e2 e3 = both x0 x2 x3 _ _ (both x0 x1 x2 _ _ e1 e2) e3

pub wrote_preamble : (x0 x1 x2 x3 : List ℕ) → x1 ≡ x0 ++ 247 ∷ 2 ∷ [] → x2 ≡ x1 ++ unit_bytes → x3 ≡ x2 ++ 0 ∷ [] → x3 ≡ x0 ++ preamble_bytes
unfolding preamble_bytes
wrote_preamble x0 x1 x2 x3 e1 e2 e3 = both x0 x2 x3 _ _ (both x0 x1 x2 _ _ e1 e2) e3

pub wrote_bop : (counts : List ℤ) (back : ℤ) (x0 x1 x2 : List ℕ) → x1 ≡ x0 ++ (139 ∷ [] ++ flat_map signed_bytes counts) → x2 ≡ x1 ++ signed_bytes back → x2 ≡ x0 ++ bop_bytes counts back
unfolding bop_bytes
wrote_bop counts back x0 x1 x2 e1 e2 = both x0 x1 x2 _ _ e1 e2

flat_map-snoc : {X A : Type 0} (f : X → List A) (xs : List X) (x : X) → flat_map f (xs ++ x ∷ []) ≡ flat_map f xs ++ f x
flat_map-snoc f [] x = flat_map-cons f x [] ∙ append-nil (f x)
flat_map-snoc f (y ∷ ys) x =
    flat_map-cons f y (ys ++ x ∷ []) ∙ ap (λ t. f y ++ t) (flat_map-snoc f ys x) ∙ sym (append_assoc (f y) (flat_map f ys) (f x)) ∙ ap (λ t. t ++ f x) (sym (flat_map-cons f y ys))

pub wrote_count : (x y z : List ℕ) (counts : List ℤ) (i : ℕ) (d : ℤ) → i < length counts → y ≡ x ++ (139 ∷ [] ++ flat_map signed_bytes (take i counts)) → z ≡ y ++ signed_bytes (get_or counts i d)
    → z ≡ x ++ (139 ∷ [] ++ flat_map signed_bytes (take (i + 1) counts))
wrote_count x y z counts i d lt e f =
    let more : flat_map signed_bytes (take (i + 1) counts) ≡ flat_map signed_bytes (take i counts) ++ signed_bytes (get_or counts i d) = ap (flat_map signed_bytes) (take_more counts i d lt) ∙ flat_map-snoc signed_bytes (take i counts) (get_or counts i d) in
    both x y z _ _ e f ∙ ap (λ (t : List ℕ). x ++ (139 ∷ t)) (sym more)

pub wrote_definition : (n : ℕ) (f : FontDef) (x0 x1 x2 x3 x4 x5 x6 : List ℕ) → x1 ≡ x0 ++ 243 ∷ n ∷ [] → x2 ≡ x1 ++ big_bytes 4 f.check_sum → x3 ≡ x2 ++ big_bytes 4 f.size → x4 ≡ x3 ++ big_bytes 4 f.design
    → x5 ≡ x4 ++ 0 ∷ length f.name ∷ [] → x6 ≡ x5 ++ f.name → x6 ≡ x0 ++ definition_bytes n f
unfolding definition_bytes
wrote_definition n f x0 x1 x2 x3 x4 x5 x6 e1 e2 e3 e4 e5 e6 = both x0 x5 x6 _ _ (both x0 x4 x5 _ _ (both x0 x3 x4 _ _ (both x0 x2 x3 _ _ (both x0 x1 x2 _ _ e1 e2) e3) e4) e5) e6

pub definitions-join : (n m : ℕ) (fs gs : List FontDef) → m ≡ n + length fs → definitions_bytes n (fs ++ gs) ≡ definitions_bytes n fs ++ definitions_bytes m gs
definitions-join n m [] gs e =
    let k : n ≡ m = omega (arith, e) in
    ap (λ (j : ℕ). definitions_bytes j gs) k
definitions-join n m (f ∷ fs) gs e =
    let k : m ≡ n + 1 + length fs = omega (arith, e) in
    ap (λ (t : List ℕ). definition_bytes n f ++ t) (definitions-join (n + 1) m fs gs k) ∙ sym (append_assoc (definition_bytes n f) (definitions_bytes (n + 1) fs) (definitions_bytes m gs))

pub wrote_font : (x y z : List ℕ) (n : ℕ) (fs : List FontDef) (i : ℕ) (f : FontDef) → i < length fs → f ≡ get_or fs i f → y ≡ x ++ definitions_bytes n (take i fs) → z ≡ y ++ definition_bytes (n + i) f
    → z ≡ x ++ definitions_bytes n (take (i + 1) fs)
wrote_font x y z n fs i f lt is e g =
    let more : take (i + 1) fs ≡ take i fs ++ f ∷ [] = take_more fs i f lt ∙ ap (λ (h : FontDef). take i fs ++ h ∷ []) (sym is) in
    let long : n + i ≡ n + length (take i fs) = grind (arith, common_steps) in
    let whole : definitions_bytes n (take (i + 1) fs) ≡ definitions_bytes n (take i fs) ++ definition_bytes (n + i) f =
    ap (definitions_bytes n) more ∙ definitions-join n (n + i) (take i fs) (f ∷ []) long ∙ ap (λ (t : List ℕ). definitions_bytes n (take i fs) ++ t) (append-nil (definition_bytes (n + i) f)) in
    both x y z _ _ e g ∙ ap (λ (t : List ℕ). x ++ t) (sym whole)

pub wrote_post : (k : Kept) (x0 x1 x2 x3 x4 x5 x6 x7 : List ℕ) → x1 ≡ x0 ++ 248 ∷ [] → x2 ≡ x1 ++ signed_bytes k.last → x3 ≡ x2 ++ unit_bytes → x4 ≡ x3 ++ big_bytes 4 k.high → x5 ≡ x4 ++ big_bytes 4 k.wide
    → x6 ≡ x5 ++ big_bytes 2 0 → x7 ≡ x6 ++ big_bytes 2 k.pages → x7 ≡ x0 ++ post_bytes k
unfolding post_bytes
wrote_post k x0 x1 x2 x3 x4 x5 x6 x7 e1 e2 e3 e4 e5 e6 e7 =
    both x0 x6 x7 _ _ (both x0 x5 x6 _ _ (both x0 x4 x5 _ _ (both x0 x3 x4 _ _ (both x0 x2 x3 _ _ (both x0 x1 x2 _ _ e1 e2) e3) e4) e5) e6) e7

pub wrote_post_post : (k : Kept) (id : ℕ) (x0 x1 x2 x3 : List ℕ) → x1 ≡ x0 ++ 249 ∷ [] → x2 ≡ x1 ++ signed_bytes (pos k.given) → x3 ≡ x2 ++ id ∷ [] → id ≡ id_of k.turned → x3 ≡ x0 ++ post_post_bytes k.given k.turned
unfolding post_post_bytes
wrote_post_post k id x0 x1 x2 x3 e1 e2 e3 e4 = both x0 x2 x3 _ _ (both x0 x1 x2 _ _ e1 e2) (e3 ∙ ap (λ (j : ℕ). x2 ++ j ∷ []) e4)

pub wrote_front : (k : Kept) (counts : List ℤ) (defined : ℕ) (table : List FontDef) (x0 x1 x2 x3 : List ℕ) → x1 ≡ x0 ++ opening_bytes k → x2 ≡ x1 ++ bop_bytes counts k.last
    → x3 ≡ x2 ++ definitions_bytes defined (drop defined table) → x3 ≡ x0 ++ front_bytes k counts defined table
unfolding front_bytes
wrote_front k counts defined table x0 x1 x2 x3 e1 e2 e3 = both x0 x2 x3 _ _ (both x0 x1 x2 _ _ e1 e2) e3

pub wrote_end : (k : Kept) (fonts : List FontDef) (len : ℕ) (x0 x1 x2 x3 x4 : List ℕ) → x0 ≡ [] → x1 ≡ x0 ++ post_bytes k → x2 ≡ x1 ++ definitions_bytes 0 fonts → x3 ≡ x2 ++ post_post_bytes k.given k.turned
    → len ≡ length x3 → x4 ≡ x3 ++ replicate (7 - (k.given + len + 3) % 4) 223 → 1 ≤ k.pages → x4 ≡ end_bytes k fonts
unfolding end_bytes closing_bytes
wrote_end k fonts len x0 x1 x2 x3 x4 e0 e1 e2 e3 el e4 some =
    let closing : List ℕ = post_bytes k ++ definitions_bytes 0 fonts ++ post_post_bytes k.given k.turned in
    let is : x3 ≡ closing = both x0 x2 x3 _ _ (both x0 x1 x2 _ _ e1 e2) e3 ∙ ap (λ (t : List ℕ). t ++ closing) e0 in
    let n : 7 - (k.given + len + 3) % 4 ≡ fill_count (k.given + length closing) = ap (λ (j : ℕ). fill_count (k.given + j)) (el ∙ ap length is) in
    let test : nat_eq k.pages 0 ≡ false = grind arith in
    rw test (e4 ∙ ap (λ (t : List ℕ). t ++ replicate (7 - (k.given + len + 3) % 4) 223) is ∙ ap (λ (j : ℕ). closing ++ replicate j 223) n)

pub all_fit_word : (zs : List ℤ) → ((k : ℕ) → k < length zs → FitsSigned w32 (get_or zs k (pos 0))) → All (FitsSigned w32) zs
all_fit_word [] h = All-nil (FitsSigned w32)
all_fit_word (z ∷ zs) h = All-cons (FitsSigned w32) z zs (h 0 (omega arith)) (all_fit_word zs (λ k lt. h (suc k) (omega arith)))
