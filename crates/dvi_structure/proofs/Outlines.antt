-- The outline of a structure is what one pass keeps of it.
use Rattle.std.proofs.Common.{◌≡◌, ℕ, zero, suc, ◌+◌, ◌%◌, List, [], ◌∷◌, ◌++◌, length, Result, Ok, Err, refl, sym, ap, ℤ, Option, Some, None, Bool, true, false, cond, length-append}
use Rattle.std.specs.Prelude.{is_some, nat_eq, nat_le, ◌&&◌}
use Rattle.ts_base.specs.Agreement.{◌>>=◌}
use Rattle.dvi_commands.specs.declared.fault.DviKind.{DviKind}
use Rattle.dvi_commands.specs.declared.fault.DviKind.TheVariants as kinds
use Rattle.dvi_commands.specs.declared.fault.DviBad.{DviBad}
use Rattle.dvi_commands.specs.declared.font.FontDef.{FontDef}
use Rattle.dvi_commands.specs.Commands as c
use Rattle.dvi_commands.specs.Commands.{Command, Definition, command, font_defined}
use Rattle.dvi_structure.specs.Places.{Item, Placed, said, bad, fill, placed}
use Rattle.dvi_structure.specs.Structure as parts
use Rattle.dvi_structure.specs.Structure.{Inside, Shape, Phase, inside, selected, popped, closed, obeyed, at_start, at_gap, in_page, at_back, defined, placed_at, next_shape, walk, walked_on, walked, structure, answer, fault_at, filled, file_fonts}
use Rattle.dvi_structure.specs.Outline as o
use Rattle.dvi_structure.specs.Outline.{Stage, Standing, Outline, stood_ahead, stood_between, stood_within, stood_after_post, outlined, next_outline, outline_walk, start_outline, outline_fonts}

pub selected_by : (i : Inside) (r : Option FontDef) → selected i r ≡ cond (is_some r) (Ok (record { depth = i.depth; chosen = true })) (Err kinds.FontUndefined)
selected_by i None = refl
selected_by i (Some f) = refl

-- ---- the outline of a structure

abbrev stage_seen : Phase → Stage
stage_seen parts.ahead = o.ahead
stage_seen parts.between = o.between
stage_seen (parts.within counts body places i) = o.within i
stage_seen (parts.after_post post) = o.after_post post
stage_seen parts.ended = o.ended

abbrev standing_seen : Shape → Standing
standing_seen s = record { last = s.last; pages = length s.sheets; stage = stage_seen s.phase }

abbrev pub seen : Shape → Outline
seen s = record { fonts = s.fonts; standing = standing_seen s }

abbrev mapped : {A B E : Type 0} → (A → B) → Result A E → Result B E
mapped f r = r >>= λ x. Ok (f x)

-- a step of the structure and that of its outline
record Agree {E : Type 0} (r : Result Shape E) (q : Result Outline E) : Type 0 where
  is : mapped seen r ≡ q

abbrev kept : List FontDef → Result Standing DviKind → Result Outline DviKind
kept fonts r = r >>= λ st. Ok (record { fonts = fonts; standing = st })

agree_if : (b : Bool) (fonts : List FontDef) (t : Shape) (st : Standing) (k : DviKind) → seen t ≡ record { fonts = fonts; standing = st } → Agree (cond b (Ok t) (Err k)) (kept fonts (cond b (Ok st) (Err k)))
agree_if true fonts t st k e = record { is = ap (λ (x : Outline). Ok x) e }
agree_if false fonts t st k e = record { is = refl }

agree_two : (b d : Bool) (fonts : List FontDef) (t : Shape) (st : Standing) (k l : DviKind) → seen t ≡ record { fonts = fonts; standing = st } → Agree (cond b (cond d (Ok t) (Err l)) (Err k)) (kept fonts (cond b (cond d (Ok st) (Err l)) (Err k)))
agree_two true d fonts t st k l e = agree_if d fonts t st l e
agree_two false d fonts t st k l e = record { is = refl }

agree_err : (k : DviKind) (fonts : List FontDef) → Agree (Err k) (kept fonts (Err k))
agree_err k fonts = record { is = refl }

agree_ok : (t : Shape) → Agree (Ok t) (kept t.fonts (Ok (standing_seen t)))
agree_ok t = record { is = refl }

agree_fonts : (s : Shape) (r : Result (List FontDef) DviKind) → Agree (r >>= λ fonts. Ok (record { last = s.last; fonts = fonts; sheets = s.sheets; phase = s.phase })) (r >>= λ fonts. Ok (record { fonts = fonts; standing = standing_seen s }))
agree_fonts s (Ok fonts) = record { is = refl }
agree_fonts s (Err k) = record { is = refl }

start_agrees : (s : Shape) (cmd : Command) → ((d : Definition) → cmd ≡ c.font_def d → ⊥) → Agree (at_start s cmd) (kept s.fonts (stood_ahead (standing_seen s) cmd))
unfolding at_start stood_ahead
start_agrees s (c.pre p) e = agree_if _ s.fonts _ _ _ refl
start_agrees s _ e = agree_err _ s.fonts

gap_agrees : (s : Shape) (at : ℕ) (cmd : Command) → ((d : Definition) → cmd ≡ c.font_def d → ⊥) → Agree (at_gap s at cmd) (kept s.fonts (stood_between (standing_seen s) at cmd))
unfolding at_gap stood_between
gap_agrees s at (c.font_def d) e = absurd (e d refl)
gap_agrees s at c.nop e = agree_ok s
gap_agrees s at (c.bop counts back) e = agree_if _ s.fonts _ _ _ refl
gap_agrees s at (c.post p) e = agree_two _ _ s.fonts _ _ _ _ refl
gap_agrees s at _ e = agree_err _ s.fonts

closed_agrees : (s : Shape) (sheet : parts.Sheet) (depth : ℕ) → Agree (closed s sheet depth) (kept s.fonts (o.page_counted (standing_seen s) depth))
closed_agrees s sheet zero = let n : length (s.sheets ++ sheet ∷ []) ≡ length s.sheets + 1 = length-append s.sheets (sheet ∷ []) in record { is = rw n refl }
closed_agrees s sheet (suc depth) = record { is = refl }

inside_agrees : (s : Shape) (counts : List ℤ) (body : List Command) (places : List ℕ) (r : Result Inside DviKind) →
    Agree (r >>= λ j. Ok (record { last = s.last; fonts = s.fonts; sheets = s.sheets; phase = parts.within counts body places j }))
    (kept s.fonts (r >>= λ j. Ok (record { last = s.last; pages = length s.sheets; stage = o.within j })))
inside_agrees s counts body places (Ok j) = record { is = refl }
inside_agrees s counts body places (Err k) = record { is = refl }

page_agrees : (s : Shape) (counts : List ℤ) (body : List Command) (places : List ℕ) (i : Inside) (at : ℕ) (cmd : Command) → ((d : Definition) → cmd ≡ c.font_def d → ⊥)
    → Agree (in_page s counts body places i at cmd) (kept s.fonts (stood_within s.fonts (standing_seen s) i cmd))
unfolding in_page stood_within
page_agrees s counts body places i at (c.font_def d) e = absurd (e d refl)
page_agrees s counts body places i at c.eop e = closed_agrees s _ i.depth
page_agrees s counts body places i at cmd e = inside_agrees s counts _ _ (inside s.fonts i cmd)

back_agrees : (s : Shape) (post : ℕ) (cmd : Command) → ((d : Definition) → cmd ≡ c.font_def d → ⊥) → Agree (at_back s post cmd) (kept s.fonts (stood_after_post (standing_seen s) post cmd))
unfolding at_back stood_after_post
back_agrees s post (c.font_def d) e = absurd (e d refl)
back_agrees s post c.nop e = agree_ok s
back_agrees s post (c.post_post at id) e = agree_two _ _ s.fonts _ _ _ _ refl
back_agrees s post _ e = agree_err _ s.fonts

agrees : (s : Shape) (phase : Phase) (at : ℕ) (cmd : Command) → ((d : Definition) → cmd ≡ c.font_def d → ⊥) → Agree (obeyed s phase at cmd) (kept s.fonts (o.stood_at s.fonts (standing_seen s) (stage_seen phase) at cmd))
agrees s parts.ahead at cmd e = start_agrees s cmd e
agrees s parts.between at cmd e = gap_agrees s at cmd e
agrees s (parts.within counts body places i) at cmd e = page_agrees s counts body places i at cmd e
agrees s (parts.after_post post) at cmd e = back_agrees s post cmd e
agrees s parts.ended at cmd e = agree_err _ s.fonts

definition_agrees : (s : Shape) (phase : Phase) (at : ℕ) (d : Definition) →
    Agree (obeyed s phase at (c.font_def d)) (o.defined_at (stage_seen phase) s.fonts (font_defined d) >>= λ fonts. Ok (record { fonts = fonts; standing = standing_seen s }))
unfolding at_start at_gap in_page at_back
definition_agrees s parts.ahead at d = record { is = refl }
definition_agrees s parts.between at d = agree_fonts s (defined s.fonts (font_defined d))
definition_agrees s (parts.within counts body places i) at d = agree_fonts s (defined s.fonts (font_defined d))
definition_agrees s (parts.after_post post) at d = agree_fonts s (defined s.fonts (font_defined d))
definition_agrees s parts.ended at d = record { is = refl }

outline_agrees : (s : Shape) (at : ℕ) (cmd : Command) → Agree (obeyed s s.phase at cmd) (outlined (seen s) at cmd)
unfolding outlined
outline_agrees s at (c.font_def d) = definition_agrees s s.phase at d
outline_agrees s at _ = agrees s s.phase at _ (λ d e. absurd cc)

-- ---- walks

placed_agrees : (at : ℕ) (r : Result Shape DviKind) (q : Result Outline DviKind) → Agree r q → Agree (placed_at at r) (placed_at at q)
placed_agrees at (Ok s) q a = record { is = ap (placed_at at) a.is }
placed_agrees at (Err k) q a = record { is = ap (placed_at at) a.is }

fill_agrees : (s : Shape) (at count : ℕ) (bytes : List ℕ) → Agree (filled s at count bytes) (filled (seen s) at count bytes)
unfolding filled
fill_agrees s at count [] = end_agrees (nat_le 4 count && nat_eq (at % 4) 0)
  where
    end_agrees : (b : Bool) → Agree (cond b (Ok s) (Err (fault_at at kinds.Postamble))) (cond b (Ok (seen s)) (Err (fault_at at kinds.Postamble)))
    end_agrees true = record { is = refl }
    end_agrees false = record { is = refl }
fill_agrees s at count (b ∷ bs) = byte_agrees (nat_eq b 223) _ _ (fill_agrees s (at + 1) (count + 1) bs)
  where
    byte_agrees : (b : Bool) (r : Result Shape DviBad) (q : Result Outline DviBad) → Agree r q → Agree (cond b r (Err (fault_at at kinds.Postamble))) (cond b q (Err (fault_at at kinds.Postamble)))
    byte_agrees true r q a = a
    byte_agrees false r q a = record { is = refl }

next_agrees : (s : Shape) (at : ℕ) (item : Item) → Agree (next_shape s at item) (next_outline (seen s) at item)
next_agrees s at (said cmd) = placed_agrees at _ _ (outline_agrees s at cmd)
next_agrees s at (bad k) = record { is = refl }
next_agrees s at (fill bytes) = fill_agrees s at 0 bytes

-- what a walk gives in the end
abbrev given : parts.Walked → Result Shape DviBad
given w = answer w.shape w.fault

then_agrees : (s : Shape) (r : Result Shape DviBad) (q : Result Outline DviBad) (f : Shape → parts.Walked) (g : Outline → Result Outline DviBad) → Agree r q → ((t : Shape) → Agree (given (f t)) (g (seen t))) → Agree (given (walked_on s f r)) (q >>= g)
then_agrees s (Ok t) q f g a h = let e : q ≡ Ok (seen t) = sym a.is in rw e (h t)
then_agrees s (Err k) q f g a h = let e : q ≡ Err k = sym a.is in rw e (record { is = refl })

walk_agrees : (ps : List Placed) (s : Shape) → Agree (given (walk s ps)) (outline_walk (seen s) ps)
unfolding walk outline_walk
walk_agrees [] s = record { is = refl }
walk_agrees (p ∷ ps) s = then_agrees s (next_shape s p.at p.item) (next_outline (seen s) p.at p.item) _ _ (next_agrees s p.at p.item) (λ t. walk_agrees ps t)

fonts_seen : (r : Result Shape DviBad) (q : Result Outline DviBad) → Agree r q → (q >>= λ t. Ok t.fonts) ≡ (r >>= λ t. Ok t.fonts)
fonts_seen (Ok s) q a = ap (λ (x : Result Outline DviBad). x >>= λ t. Ok t.fonts) (sym a.is)
fonts_seen (Err k) q a = ap (λ (x : Result Outline DviBad). x >>= λ t. Ok t.fonts) (sym a.is)

pub fonts_are : (bytes : List ℕ) → outline_fonts bytes ≡ file_fonts bytes
fonts_are bytes = fonts_seen (structure bytes) (outline_walk start_outline (placed 0 0 bytes)) (walk_agrees (placed 0 0 bytes) parts.start)
