-- How bytes that say commands lead from one structure to another.
use Rattle.std.proofs.Common.{◌≡◌, ℕ, suc, ◌-◌, ◌+◌, List, [], ◌∷◌, ◌++◌, length, Ok, refl, sym, ap, ◌∙◌, append_assoc, arith, ℤ, false, add-zero, length-append}
use Rattle.std.proofs.lemmas.List.{append-nil}
use Rattle.dvi_commands.specs.declared.font.FontDef.{FontDef}
use Rattle.dvi_commands.specs.Commands as c
use Rattle.dvi_commands.specs.Commands.{Command, Definition, command}
use Rattle.dvi_structure.specs.Places.{Placed, said, fill, is_last, placed}
use Rattle.dvi_structure.specs.Structure.{Shape, walk, obeyed, Inside, inside, in_page}
use Rattle.dvi_commands.specs.Spelling.{Spells}
use Rattle.dvi_code.specs.Reading.{Leads, all_inside, paged}
use Rattle.dvi_commands.proofs.Writing.{commands_stay}
use Rattle.dvi_code.proofs.Steps.{bound}

-- ---- places

skipped : (x y : List ℕ) (at : ℕ) → placed at (length x) (x ++ y) ≡ placed (at + length x) 0 y
unfolding placed
skipped [] y at = rw add-zero refl
skipped (b ∷ bs) y at =
    let e : at + 1 + length bs ≡ at + suc (length bs) = omega arith in
    skipped bs y (at + 1) ∙ ap (λ k. placed k 0 y) e

not_nothing : (cmd : Command) → command [] ≡ Ok (cmd, []) → ⊥
unfolding command
not_nothing cmd e = cc

first_placed : (front : List ℕ) (cmd : Command) (at : ℕ) (y : List ℕ) → command front ≡ Ok (cmd, []) → is_last cmd ≡ false
    → placed at 0 (front ++ y) ≡ record { at = at; item = said cmd } ∷ placed (at + length front) 0 y
unfolding placed
first_placed [] cmd at y e last = absurd (not_nothing cmd e)
first_placed (b ∷ bs) cmd at y e last =
    let long : command (b ∷ (bs ++ y)) ≡ Ok (cmd, y) = commands_stay (b ∷ bs) y [] cmd e in
    let n : length (bs ++ y) - length y ≡ length bs = omega (arith, length-append bs y) in
    let k : at + 1 + length bs ≡ at + suc (length bs) = omega arith in
    rw (long, last, n) (ap (λ (ps : List Placed). record { at = at; item = said cmd } ∷ ps) (skipped bs y (at + 1) ∙ ap (λ j. placed j 0 y) k))

-- post_post and the fill after it
pub last_placed : (front : List ℕ) (p : ℤ) (id at : ℕ) (y : List ℕ) → command front ≡ Ok (c.post_post p id, [])
    → placed at 0 (front ++ y) ≡ record { at = at; item = said (c.post_post p id) } ∷ record { at = at + length front; item = fill y } ∷ []
unfolding placed
last_placed [] p id at y e = absurd (not_nothing (c.post_post p id) e)
last_placed (b ∷ bs) p id at y e =
    let long : command (b ∷ (bs ++ y)) ≡ Ok (c.post_post p id, y) = commands_stay (b ∷ bs) y [] (c.post_post p id) e in
    let n : suc (length (bs ++ y)) - length y ≡ suc (length bs) = omega (arith, length-append bs y) in
    rw (long, n) refl

-- ---- structures

pub Leads-nil : (at : ℕ) (s : Shape) → Leads at s [] s
Leads-nil at s = record { on = λ more. ap (λ j. walk s (placed j 0 more)) (sym (add-zero at)) }

pub Leads-then : (at : ℕ) (s t u : Shape) (x y : List ℕ) → Leads at s x t → Leads (at + length x) t y u → Leads at s (x ++ y) u
Leads-then at s t u x y p q = record {
  on = λ more.
      let n : at + length x + length y ≡ at + length (x ++ y) = omega (arith, length-append x y) in
      ap (λ b. walk s (placed at 0 b)) (append_assoc x y more) ∙ p.on (y ++ more) ∙ q.on more ∙ ap (λ j. walk u (placed j 0 more)) n;
}

pub Leads-one : (at : ℕ) (s t : Shape) (front : List ℕ) (cmd : Command) → command front ≡ Ok (cmd, []) → is_last cmd ≡ false → obeyed s s.phase at cmd ≡ Ok t → Leads at s front t
unfolding walk
Leads-one at s t front cmd e last does = record { on = λ more. rw (first_placed front cmd at more e last, does) refl }

-- post_post isn't a command of a page, nor are eop and a definition among those of its body
not_last : (fonts : List FontDef) (i j : Inside) (cmd : Command) → inside fonts i cmd ≡ Ok j → is_last cmd ≡ false
unfolding inside
not_last fonts i j (c.post_post p id) e = absurd cc
not_last fonts i j _ e = refl

no_eop : (fonts : List FontDef) (i j : Inside) → inside fonts i c.eop ≡ Ok j → ⊥
unfolding inside
no_eop fonts i j e = cc

no_font_def : (fonts : List FontDef) (i j : Inside) (d : Definition) → inside fonts i (c.font_def d) ≡ Ok j → ⊥
unfolding inside
no_font_def fonts i j d e = cc

in_body : (s : Shape) (counts : List ℤ) (body : List Command) (places : List ℕ) (i j : Inside) (at : ℕ) (cmd : Command) → inside s.fonts i cmd ≡ Ok j
    → in_page s counts body places i at cmd ≡ Ok (paged s counts (body ++ cmd ∷ []) (places ++ at ∷ []) j)
unfolding in_page
in_body s counts body places i j at c.eop e = absurd (no_eop s.fonts i j e)
in_body s counts body places i j at (c.font_def d) e = absurd (no_font_def s.fonts i j d e)
in_body s counts body places i j at _ e = rw e refl

-- Commands that are right within a page lead on within it.
pub Leads-body : (cs : List Command) (s : Shape) (counts : List ℤ) (body : List Command) (places : List ℕ) (i j : Inside) (at : ℕ) (bytes : List ℕ) → Spells bytes cs → all_inside s.fonts i cs ≡ Ok j
    → (ps : List ℕ) × Leads at (paged s counts body places i) bytes (paged s counts (body ++ cs) ps j)
Leads-body [] s counts body places i j at bytes says e =
    let same : i ≡ j = cc in
    (places, rw (says, ← same, append-nil body) (Leads-nil at _))
Leads-body (cmd ∷ cs) s counts body places i j at bytes says e =
    let m = bound (inside s.fonts i cmd) (λ x. all_inside s.fonts x cs) j e in
    let first : Leads at (paged s counts body places i) says.0 (paged s counts (body ++ cmd ∷ []) (places ++ at ∷ []) m.0) = Leads-one at _ _ says.0 cmd says.3 (not_last s.fonts i m.0 cmd m.1) (in_body (paged s counts body places i) counts body places i m.0 at cmd m.1) in
    let others = Leads-body cs s counts (body ++ cmd ∷ []) (places ++ at ∷ []) m.0 j (at + length says.0) says.1 says.4 m.2 in
    let joined : (body ++ cmd ∷ []) ++ cs ≡ body ++ cmd ∷ cs = append_assoc body (cmd ∷ []) cs in
    (others.0, rw says.2 (Leads-then at _ _ _ says.0 says.1 first (rw joined at others.1)))

pub all_inside-append : (fonts : List FontDef) (cs ds : List Command) (i j k : Inside) → all_inside fonts i cs ≡ Ok j → all_inside fonts j ds ≡ Ok k → all_inside fonts i (cs ++ ds) ≡ Ok k
all_inside-append fonts [] ds i j k p q = let same : i ≡ j = cc in rw same q
all_inside-append fonts (cmd ∷ cs) ds i j k p q =
    let m = bound (inside fonts i cmd) (λ x. all_inside fonts x cs) j p in
    rw m.1 (all_inside-append fonts cs ds m.0 j k m.2 q)
