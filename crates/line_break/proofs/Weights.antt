-- A line that isn't short.
use Rattle.std.proofs.Common.{Bool, ◌≡◌, ℕ, ◌+ℤ◌, true, false, not, ◌&&◌, int_le, subst, sym, cond, refl, ◌∙◌, ap, arith, ℤ, pos, ◌-ℤ◌, ◌≤ℤ◌, int_lt}
use Rattle.std.proofs.lemmas.Int.{ints}
use Rattle.ts_geometry.specs.declared.measure.Sp.{Sp}
use Rattle.ts_geometry.specs.Directions.{sp}
use Rattle.line_break.specs.declared.totals.Totals.{Totals}
use Rattle.line_break.specs.declared.weight.Class.{Class}
use Rattle.line_break.specs.declared.weight.Weight.{Weight}
use Rattle.line_break.specs.declared.states.Reached.{Reached}
use Rattle.line_break.specs.declared.states.Found.{Found}
use Rattle.line_break.specs.Codes.{made, reach, fits, offered, found_with}
use Rattle.line_break.specs.Lines.{Pass, weight, penalty, plain_demerits, demerits, apart, of_badness, of_penalty, weight_at, weight_short, weight_long}

pub long_is : (h : ℤ) (t : Totals) (r : Weight) (d : Sp) → h ≤ℤ t.width.0 → d ≡ sp (t.width.0 -ℤ h) → r ≡ weight_long d.0 t.shrink.0 → r ≡ weight_at h t
long_is h t r d le e f =
    elim (int_lt t.width.0 h) as (λ b. int_lt t.width.0 h ≡ b → r ≡ cond b (weight_short (h -ℤ t.width.0) t) (weight_long (t.width.0 -ℤ h) t.shrink.0)) [
      | true ↦ λ b. absurd (grind (arith, ints))
      | false ↦ λ b. f ∙ ap (λ (s : Sp). weight_long s.0 t.shrink.0) e
    ] refl

pub plain_is : (p : Pass) (s b : ℕ) (w : Weight) (q r : ℤ) → w ≡ weight p s b → q ≡ penalty p b → r ≡ of_badness (p.shape.line_penalty +ℤ pos w.badness) +ℤ of_penalty q → r ≡ plain_demerits p s b
unfolding plain_demerits
plain_is p s b w q r e f g =
    g
    ∙ ap (λ (v : Weight). of_badness (p.shape.line_penalty +ℤ pos v.badness) +ℤ of_penalty q) e
    ∙ ap (λ z. of_badness (p.shape.line_penalty +ℤ pos (weight p s b).badness) +ℤ of_penalty z) f

pub reach_is : (p : Pass) (b i : ℕ) (x new : Reached) (line : Weight) (d : ℤ) → line ≡ weight p x.at b → d ≡ demerits p x.class x.at b → new ≡ made b line x d i → new ≡ reach p b i x
reach_is p b i x new line d e f g = g ∙ ap (λ (w : Weight). made b w x d i) e ∙ ap (λ z. made b (weight p x.at b) x z i) f

pub found_in : (p : Pass) (b i : ℕ) (found r : Found) (x new : Reached) (line : Weight) → line ≡ weight p x.at b → (not line.overfull && int_le (pos line.badness) p.threshold) ≡ true → new ≡ reach p b i x → r ≡ offered found new → r ≡ found_with p b found i x
unfolding found_with
found_in p b i found r x new line e t f g =
    let u : fits p x.at b ≡ true = subst (λ (w : Weight). (not w.overfull && int_le (pos w.badness) p.threshold) ≡ true) e t in
    g ∙ ap (offered found) f ∙ sym (ap (λ v. cond v (offered found (reach p b i x)) found) u)

pub found_out : (p : Pass) (b i : ℕ) (found : Found) (x : Reached) (line : Weight) → line ≡ weight p x.at b → (not line.overfull && int_le (pos line.badness) p.threshold) ≡ false → found ≡ found_with p b found i x
unfolding found_with
found_out p b i found x line e t =
    let u : fits p x.at b ≡ false = subst (λ (w : Weight). (not w.overfull && int_le (pos w.badness) p.threshold) ≡ false) e t in
    sym (ap (λ v. cond v (offered found (reach p b i x)) found) u)

-- with `\adjdemerits` where the classes are apart
pub demerits_is : (p : Pass) (s b : ℕ) (c : Class) (w : Weight) (q r : ℤ) (t : Bool) → w ≡ weight p s b → q ≡ penalty p b → r ≡ of_badness (p.shape.line_penalty +ℤ pos w.badness) +ℤ of_penalty q → t ≡ apart c w.class → r +ℤ cond t p.shape.adj_demerits (pos 0) ≡ demerits p c s b
demerits_is p s b c w q r t e f g h =
    ap (λ u. r +ℤ cond u p.shape.adj_demerits (pos 0)) (h ∙ ap (λ (v : Weight). apart c v.class) e)
    ∙ ap (λ z. z +ℤ cond (apart c (weight p s b).class) p.shape.adj_demerits (pos 0)) (plain_is p s b w q r e f g)

-- a line that isn't admissible finds nothing
pub found_none : (p : Pass) (b i : ℕ) (found : Found) (x : Reached) → fits p x.at b ≡ false → found ≡ found_with p b found i x
unfolding found_with
found_none p b i found x e = sym (ap (λ v. cond v (offered found (reach p b i x)) found) e)
