-- Pieces that are put one after the other.
use Rattle.std.proofs.Common.{◌≡◌, ℕ, ◌+◌, ◌<◌, List, [], ◌∷◌, ◌++◌, length, take, get_or, replicate, sym, ap, ◌∙◌, append_assoc, ℤ, pos, negsuc, length-append}
use Rattle.std.specs.List.{flat_map}
use Rattle.std.proofs.lemmas.List.{append-nil, take_more}
use Rattle.std.proofs.lemmas.List.Concat.{flat_map-cons}
use Rattle.byteorder.specs.Endian.{big_bytes}
use Rattle.dvi_commands.specs.declared.font.FontDef.{FontDef}
use Rattle.ts_job.specs.declared.writer.page.Glyph.{Glyph}
use Rattle.dvi_commands.specs.Fields.{signed_bytes}
use Rattle.ts_job.specs.Written.{unit_bytes, preamble_bytes, bop_bytes, definition_bytes, right_bytes, down_bytes, set_bytes, glyph_bytes, page_bytes, post_bytes, post_post_bytes, fill_count, closing_bytes, end_bytes, file_bytes}

both : (x y z a b : List ℕ) → y ≡ x ++ a → z ≡ y ++ b → z ≡ x ++ (a ++ b)
both x y z a b e f = f ∙ ap (λ (t : List ℕ). t ++ b) e ∙ append_assoc x a b

pub wrote_units : (x0 x1 x2 x3 : List ℕ) → x1 ≡ x0 ++ big_bytes 4 25400000 → x2 ≡ x1 ++ big_bytes 4 473628672 → x3 ≡ x2 ++ big_bytes 4 1000 → x3 ≡ x0 ++ unit_bytes
unfolding unit_bytes
wrote_units x0 x1 x2 x3 e1 e2 e3 = both x0 x2 x3 _ _ (both x0 x1 x2 _ _ e1 e2) e3

pub wrote_preamble : (x0 x1 x2 x3 : List ℕ) → x1 ≡ x0 ++ 247 ∷ 2 ∷ [] → x2 ≡ x1 ++ unit_bytes → x3 ≡ x2 ++ 0 ∷ [] → x3 ≡ x0 ++ preamble_bytes
unfolding preamble_bytes
wrote_preamble x0 x1 x2 x3 e1 e2 e3 = both x0 x2 x3 _ _ (both x0 x1 x2 _ _ e1 e2) e3

pub wrote_bop : (x0 x1 x2 x3 : List ℕ) → x1 ≡ x0 ++ 139 ∷ [] → x2 ≡ x1 ++ replicate 40 0 → x3 ≡ x2 ++ signed_bytes (negsuc 0) → x3 ≡ x0 ++ bop_bytes
unfolding bop_bytes
wrote_bop x0 x1 x2 x3 e1 e2 e3 = both x0 x2 x3 (139 ∷ [] ++ replicate 40 0) _ (both x0 x1 x2 _ _ e1 e2) e3

pub wrote_definition : (f : FontDef) (x0 x1 x2 x3 x4 x5 x6 : List ℕ) → x1 ≡ x0 ++ 243 ∷ 0 ∷ [] → x2 ≡ x1 ++ big_bytes 4 f.check_sum → x3 ≡ x2 ++ big_bytes 4 f.size → x4 ≡ x3 ++ big_bytes 4 f.design
    → x5 ≡ x4 ++ 0 ∷ length f.name ∷ [] → x6 ≡ x5 ++ f.name → x6 ≡ x0 ++ definition_bytes f
unfolding definition_bytes
wrote_definition f x0 x1 x2 x3 x4 x5 x6 e1 e2 e3 e4 e5 e6 = both x0 x5 x6 _ _ (both x0 x4 x5 _ _ (both x0 x3 x4 _ _ (both x0 x2 x3 _ _ (both x0 x1 x2 _ _ e1 e2) e3) e4) e5) e6

pub wrote_post : (high wide : ℕ) (x0 x1 x2 x3 x4 x5 x6 x7 : List ℕ) → x1 ≡ x0 ++ 248 ∷ [] → x2 ≡ x1 ++ signed_bytes (pos 15) → x3 ≡ x2 ++ unit_bytes → x4 ≡ x3 ++ big_bytes 4 high → x5 ≡ x4 ++ big_bytes 4 wide
    → x6 ≡ x5 ++ big_bytes 2 1 → x7 ≡ x6 ++ big_bytes 2 1 → x7 ≡ x0 ++ post_bytes high wide
unfolding post_bytes
wrote_post high wide x0 x1 x2 x3 x4 x5 x6 x7 e1 e2 e3 e4 e5 e6 e7 =
    both x0 x6 x7 _ _ (both x0 x5 x6 _ _ (both x0 x4 x5 _ _ (both x0 x3 x4 _ _ (both x0 x2 x3 _ _ (both x0 x1 x2 _ _ e1 e2) e3) e4) e5) e6) e7

pub wrote_post_post : (post : ℤ) (x0 x1 x2 x3 : List ℕ) → x1 ≡ x0 ++ 249 ∷ [] → x2 ≡ x1 ++ signed_bytes post → x3 ≡ x2 ++ 2 ∷ [] → x3 ≡ x0 ++ post_post_bytes post
unfolding post_post_bytes
wrote_post_post post x0 x1 x2 x3 e1 e2 e3 = both x0 x2 x3 _ _ (both x0 x1 x2 _ _ e1 e2) e3

pub wrote_glyph : (g : Glyph) (x0 x1 x2 x3 x4 x5 : List ℕ) → x1 ≡ x0 ++ 141 ∷ [] → x2 ≡ x1 ++ right_bytes g.at.x → x3 ≡ x2 ++ down_bytes g.at.y → x4 ≡ x3 ++ set_bytes g.code → x5 ≡ x4 ++ 142 ∷ []
    → x5 ≡ x0 ++ glyph_bytes g
unfolding glyph_bytes
wrote_glyph g x0 x1 x2 x3 x4 x5 e1 e2 e3 e4 e5 = both x0 x4 x5 _ _ (both x0 x3 x4 _ _ (both x0 x2 x3 _ _ (both x0 x1 x2 _ _ e1 e2) e3) e4) e5

flat_map-snoc : {X A : Type 0} (f : X → List A) (xs : List X) (x : X) → flat_map f (xs ++ x ∷ []) ≡ flat_map f xs ++ f x
flat_map-snoc f [] x = flat_map-cons f x [] ∙ append-nil (f x)
flat_map-snoc f (y ∷ ys) x =
    flat_map-cons f y (ys ++ x ∷ []) ∙ ap (λ t. f y ++ t) (flat_map-snoc f ys x) ∙ sym (append_assoc (f y) (flat_map f ys) (f x)) ∙ ap (λ t. t ++ f x) (sym (flat_map-cons f y ys))

pub wrote_more : (x y z : List ℕ) (gs : List Glyph) (i : ℕ) (d : Glyph) → i < length gs → y ≡ x ++ flat_map glyph_bytes (take i gs) → z ≡ y ++ glyph_bytes (get_or gs i d) → z ≡ x ++ flat_map glyph_bytes (take (i + 1) gs)
wrote_more x y z gs i d lt e f =
    let more : flat_map glyph_bytes (take (i + 1) gs) ≡ flat_map glyph_bytes (take i gs) ++ glyph_bytes (get_or gs i d) = ap (flat_map glyph_bytes) (take_more gs i d lt) ∙ flat_map-snoc glyph_bytes (take i gs) (get_or gs i d) in
    both x y z _ _ e f ∙ ap (λ (t : List ℕ). x ++ t) (sym more)

pub wrote_page : (f : FontDef) (gs : List Glyph) (x0 x1 x2 x3 x4 x5 : List ℕ) → x1 ≡ x0 ++ bop_bytes → x2 ≡ x1 ++ definition_bytes f → x3 ≡ x2 ++ 171 ∷ [] → x4 ≡ x3 ++ flat_map glyph_bytes gs → x5 ≡ x4 ++ 140 ∷ []
    → x5 ≡ x0 ++ page_bytes f gs
unfolding page_bytes
wrote_page f gs x0 x1 x2 x3 x4 x5 e1 e2 e3 e4 e5 = both x0 x4 x5 _ _ (both x0 x3 x4 _ _ (both x0 x2 x3 _ _ (both x0 x1 x2 _ _ e1 e2) e3) e4) e5

-- closing bytes and fill after the page
pub wrote_end : (f : FontDef) (high wide post n : ℕ) (at : ℤ) (x0 x1 x2 x3 x4 : List ℕ) → post ≡ length x0 → at ≡ pos post → n ≡ fill_count (length x3)
    → x1 ≡ x0 ++ post_bytes high wide → x2 ≡ x1 ++ definition_bytes f → x3 ≡ x2 ++ post_post_bytes at → x4 ≡ x3 ++ replicate n 223 → x4 ≡ x0 ++ end_bytes f (length x0) high wide
unfolding closing_bytes end_bytes
wrote_end f high wide post n at x0 x1 x2 x3 x4 is at_is count e1 e2 e3 e4 =
    let place : at ≡ pos (length x0) = at_is ∙ ap pos is in
    let closing : x3 ≡ x0 ++ closing_bytes f (length x0) high wide = both x0 x2 x3 _ _ (both x0 x1 x2 _ _ e1 e2) (e3 ∙ ap (λ (z : ℤ). x2 ++ post_post_bytes z) place) in
    let long : length x3 ≡ length x0 + length (closing_bytes f (length x0) high wide) = ap length closing ∙ length-append x0 _ in
    let fill : n ≡ fill_count (length x0 + length (closing_bytes f (length x0) high wide)) = count ∙ ap fill_count long in
    both x0 x3 x4 _ _ closing (e4 ∙ ap (λ (k : ℕ). x3 ++ replicate k 223) fill)

pub wrote_front : (f : FontDef) (gs : List Glyph) (x0 x1 x2 : List ℕ) → x0 ≡ [] → x1 ≡ x0 ++ preamble_bytes → x2 ≡ x1 ++ page_bytes f gs → x2 ≡ preamble_bytes ++ page_bytes f gs
wrote_front f gs x0 x1 x2 e0 e1 e2 = both x0 x1 x2 _ _ e1 e2 ∙ ap (λ (t : List ℕ). t ++ (preamble_bytes ++ page_bytes f gs)) e0

pub wrote_file : (f : FontDef) (gs : List Glyph) (high wide : ℕ) (x2 x3 : List ℕ) → x2 ≡ preamble_bytes ++ page_bytes f gs → x3 ≡ x2 ++ end_bytes f (length x2) high wide → x3 ≡ file_bytes f gs high wide
unfolding file_bytes
wrote_file f gs high wide x2 x3 front e3 = e3 ∙ ap (λ (t : List ℕ). t ++ end_bytes f (length t) high wide) front
