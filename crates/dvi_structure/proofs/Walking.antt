-- How a reader goes from the command at a place to the next.
use Rattle.std.proofs.Common.{◌≡◌, ℕ, zero, suc, ◌+◌, ◌-◌, ◌≤◌, ◌<◌, List, [], ◌∷◌, length, drop, ℤ, Some, Result, Ok, Err, refl, sym, ap, ◌∙◌, arith, Bool, cond, false, true, ◌%◌, add-zero, length-drop, subst}
use Rattle.std.proofs.lemmas.List.{drop-drop}
use Rattle.std.specs.Prelude.{nat_le, nat_eq, ◌&&◌}
use Rattle.ts_base.specs.Agreement.{◌>>=◌}
use Rattle.dvi_commands.specs.declared.fault.DviKind.{DviKind}
use Rattle.dvi_commands.specs.declared.fault.DviKind.TheVariants.{Truncated, Postamble}
use Rattle.dvi_commands.specs.declared.fault.DviBad.{DviBad}
use Rattle.dvi_commands.specs.declared.font.FontDef.{FontDef}
use Rattle.dvi_commands.specs.Fields.{Field}
use Rattle.dvi_commands.specs.Commands as c
use Rattle.dvi_commands.specs.Commands.{Command, command}
use Rattle.dvi_commands.specs.Next.{set_with, set_first}
use Rattle.dvi_structure.specs.Outline as stages
use Rattle.dvi_structure.specs.Places.{Placed, said, bad, fill, is_last, placed}
use Rattle.dvi_structure.specs.Structure.{inside, placed_at, filled, fill_checked, fault_at}
use Rattle.dvi_structure.specs.Outline.{Stage, Outline, has_font, stood_within, outlined, outline_walk, start_outline, outline_fonts}
use Rattle.ts_base.specs.Agreement.{AgreesFault}
use Rattle.dvi_structure.specs.declared.fault.DviFault.{DviFault}
use Rattle.dvi_structure.specs.declared.fault.DviFault.TheVariants as faults
use Rattle.dvi_structure.specs.Answers.{dvi_cause, faulted}

passed : (xs : List ℕ) (k at : ℕ) → k ≤ length xs → placed at k xs ≡ placed (at + k) 0 (drop k xs)
unfolding placed
passed xs zero at le = ap (λ (j : ℕ). placed j 0 xs) (sym (add-zero at))
passed [] (suc k) at le = absurd (omega arith)
passed (b ∷ bs) (suc k) at le =
    let e : at + 1 + k ≡ at + suc k = omega arith in
    passed bs k (at + 1) (omega arith) ∙ ap (λ (j : ℕ). placed j 0 (drop k bs)) e

one_placed : (xs rest : List ℕ) (at n : ℕ) (cmd : Command) → command xs ≡ Ok (cmd, rest) → rest ≡ drop n xs → 1 ≤ n → n ≤ length xs → is_last cmd ≡ false
    → placed at 0 xs ≡ record { at = at; item = said cmd } ∷ placed (at + n) 0 rest
unfolding placed
one_placed [] rest at n cmd e left some le last = absurd (omega arith)
one_placed (b ∷ bs) rest at zero cmd e left some le last = absurd (omega arith)
one_placed (b ∷ bs) rest at (suc n) cmd e left some le last =
    let len : length rest ≡ length bs - n = rw left (length-drop n bs) in
    let skip : length bs - length rest ≡ n = omega arith in
    let place : at + 1 + n ≡ at + suc n = omega arith in
    rw (e, last, skip) (ap (λ (ps : List Placed). record { at = at; item = said cmd } ∷ ps) (passed bs n (at + 1) (omega arith) ∙ ap (λ (j : ℕ). placed j 0 (drop n bs)) place ∙ ap (placed (at + suc n) 0) (sym left)))

last_one : (xs rest : List ℕ) (at n : ℕ) (cmd : Command) → command xs ≡ Ok (cmd, rest) → rest ≡ drop n xs → 1 ≤ n → n ≤ length xs → is_last cmd ≡ true
    → placed at 0 xs ≡ record { at = at; item = said cmd } ∷ record { at = at + n; item = fill rest } ∷ []
unfolding placed
last_one [] rest at n cmd e left some le last = absurd (omega arith)
last_one (b ∷ bs) rest at n cmd e left some le last =
    let len : length rest ≡ length (b ∷ bs) - n = rw left (length-drop n (b ∷ bs)) in
    let place : suc (length bs) - length rest ≡ n = omega arith in
    rw (e, last, place) refl

bad_one : (xs : List ℕ) (at : ℕ) (k : DviKind) → command xs ≡ Err k → placed at 0 xs ≡ record { at = at; item = bad k } ∷ []
unfolding placed command
bad_one [] at k e = let same : Truncated ≡ k = cc in rw same refl
bad_one (b ∷ bs) at k e = rw e refl

-- ---- at places of a file

left_there : (bytes : List ℕ) (at after : ℕ) → at < after → drop after bytes ≡ drop (after - at) (drop at bytes)
left_there bytes at after lt =
    let n : at + (after - at) ≡ after = omega arith in
    ap (λ (k : ℕ). drop k bytes) (sym n) ∙ sym (drop-drop (after - at) at bytes)

pub placed_next : (bytes : List ℕ) (at after : ℕ) (cmd : Command) → command (drop at bytes) ≡ Ok (cmd, drop after bytes) → at < after → after ≤ length bytes → is_last cmd ≡ false
    → placed at 0 (drop at bytes) ≡ record { at = at; item = said cmd } ∷ placed after 0 (drop after bytes)
placed_next bytes at after cmd e lt le last =
    let n : at + (after - at) ≡ after = omega arith in
    let fits : after - at ≤ length (drop at bytes) = omega (arith, length-drop at bytes) in
    subst (λ (k : ℕ). placed at 0 (drop at bytes) ≡ record { at = at; item = said cmd } ∷ placed k 0 (drop after bytes)) n (one_placed (drop at bytes) (drop after bytes) at (after - at) cmd e (left_there bytes at after lt) (omega arith) fits last)

pub placed_last : (bytes : List ℕ) (at after : ℕ) (cmd : Command) → command (drop at bytes) ≡ Ok (cmd, drop after bytes) → at < after → after ≤ length bytes → is_last cmd ≡ true
    → placed at 0 (drop at bytes) ≡ record { at = at; item = said cmd } ∷ record { at = after; item = fill (drop after bytes) } ∷ []
placed_last bytes at after cmd e lt le last =
    let n : at + (after - at) ≡ after = omega arith in
    let fits : after - at ≤ length (drop at bytes) = omega (arith, length-drop at bytes) in
    subst (λ (k : ℕ). placed at 0 (drop at bytes) ≡ record { at = at; item = said cmd } ∷ record { at = k; item = fill (drop after bytes) } ∷ []) n (last_one (drop at bytes) (drop after bytes) at (after - at) cmd e (left_there bytes at after lt) (omega arith) fits last)

pub placed_bad : (bytes : List ℕ) (at : ℕ) (k : DviKind) → command (drop at bytes) ≡ Err k → placed at 0 (drop at bytes) ≡ record { at = at; item = bad k } ∷ []
placed_bad bytes at k e = bad_one (drop at bytes) at k e

-- ---- outlines

pub outline_bad : (bytes : List ℕ) (at : ℕ) (o : Outline) (k : DviKind) → command (drop at bytes) ≡ Err k → outline_walk o (placed at 0 (drop at bytes)) ≡ Err (fault_at at k)
unfolding outline_walk
outline_bad bytes at o k e = rw (placed_bad bytes at k e) refl

pub outline_next : (bytes : List ℕ) (at after : ℕ) (o : Outline) (cmd : Command) → command (drop at bytes) ≡ Ok (cmd, drop after bytes) → at < after → after ≤ length bytes → is_last cmd ≡ false
    → outline_walk o (placed at 0 (drop at bytes)) ≡ (placed_at at (outlined o at cmd) >>= λ t. outline_walk t (placed after 0 (drop after bytes)))
unfolding outline_walk
outline_next bytes at after o cmd e lt le last = rw (placed_next bytes at after cmd e lt le last) refl

one_left : {A E : Type 0} (r : Result A E) → (r >>= λ t. Ok t) ≡ r
one_left (Ok x) = refl
one_left (Err k) = refl

pub outline_last : (bytes : List ℕ) (at after : ℕ) (o : Outline) (cmd : Command) → command (drop at bytes) ≡ Ok (cmd, drop after bytes) → at < after → after ≤ length bytes → is_last cmd ≡ true
    → outline_walk o (placed at 0 (drop at bytes)) ≡ (placed_at at (outlined o at cmd) >>= λ t. filled t after 0 (drop after bytes))
unfolding outline_walk
outline_last bytes at after o cmd e lt le last = rw (placed_last bytes at after cmd e lt le last) (last_of (placed_at at (outlined o at cmd)))
  where
    last_of : (r : Result Outline DviBad) → (r >>= λ t. filled t after 0 (drop after bytes) >>= λ u. Ok u) ≡ (r >>= λ t. filled t after 0 (drop after bytes))
    last_of (Ok t) = one_left (filled t after 0 (drop after bytes))
    last_of (Err k) = refl

-- ---- characters

abbrev said_as : Command → List ℕ → Field Command
said_as cmd rest = Ok (cmd, rest)

abbrev some_set : ℕ → List ℕ → ℕ × List ℕ
some_set code rest = (code, rest)

pub set_said : (r : Field Command) (code : ℕ) (rest : List ℕ) → set_first r ≡ Some (code, rest) → r ≡ Ok (c.set code, rest)
set_said (Ok x) code rest e = by_command x.0 x.1 e
  where
    by_command : (cmd : Command) (left : List ℕ) → set_with cmd left ≡ Some (code, rest) → said_as cmd left ≡ said_as (c.set code) rest
    by_command (c.set n) left e =
        let same : some_set n left ≡ some_set code rest = cc in
        ap (λ (t : ℕ × List ℕ). said_as (c.set t.0) t.1) same
    by_command _ left e = absurd cc
set_said (Err k) code rest e = absurd cc

-- a character leaves the outline where a font is chosen
set_stands : (fonts : List FontDef) (last : ℤ) (pages : ℕ) (stage : Stage) (at code : ℕ) → has_font stage ≡ true
    → outlined (record { fonts = fonts; standing = record { last = last; pages = pages; stage = stage } }) at (c.set code) ≡ Ok (record { fonts = fonts; standing = record { last = last; pages = pages; stage = stage } })
unfolding outlined stood_within inside
set_stands fonts last pages stages.ahead at code e = absurd cc
set_stands fonts last pages stages.between at code e = absurd cc
set_stands fonts last pages (stages.within i) at code e = rw e refl
set_stands fonts last pages (stages.after_post post) at code e = absurd cc
set_stands fonts last pages stages.ended at code e = absurd cc

pub set_walks : (bytes : List ℕ) (at after : ℕ) (o : Outline) (code : ℕ) → set_first (command (drop at bytes)) ≡ Some (code, drop after bytes) → at < after → after ≤ length bytes → has_font o.standing.stage ≡ true
    → outline_walk o (placed after 0 (drop after bytes)) ≡ outline_walk o (placed at 0 (drop at bytes))
set_walks bytes at after o code e lt le chosen =
    sym (outline_next bytes at after o (c.set code) (set_said _ code _ e) lt le refl
    ∙ ap (λ (r : Result Outline DviKind). placed_at at r >>= λ t. outline_walk t (placed after 0 (drop after bytes))) (set_stands o.fonts o.standing.last o.standing.pages o.standing.stage at code chosen))

-- ---- what a reader answers

pub fault_is : {A : Type 0} (q : Result A DviBad) (b : DviBad) → faulted q ≡ Err (faults.Bad b) → q ≡ Err b
fault_is (Ok x) b e = absurd cc
fault_is (Err d) b e = cc

pub answer_is : {A : Type 0} (q : Result A DviBad) (x : A) → faulted q ≡ Ok x → q ≡ Ok x
answer_is (Ok y) x e = cc
answer_is (Err d) x e = absurd cc

-- a fault of the first step is that of both
pub first_fault : {A B : Type 0} (e : DviFault) (q : Result A DviBad) (g : A → Result B DviBad) → AgreesFault (dvi_cause e) e (faulted q) → AgreesFault (dvi_cause e) e (faulted (q >>= g))
first_fault (faults.Bad b) q g a = rw (fault_is q b a) refl
first_fault faults.NoMemory q g a = tt

pub placed_fault : {A B : Type 0} (e : DviFault) (at : ℕ) (q : Result A DviKind) (g : A → Result B DviKind) → AgreesFault (dvi_cause e) e (faulted (placed_at at q)) → AgreesFault (dvi_cause e) e (faulted (placed_at at (q >>= g)))
placed_fault (faults.Bad b) at (Ok x) g a = absurd cc
placed_fault (faults.Bad b) at (Err k) g a = let same : fault_at at k ≡ b = cc in rw same refl
placed_fault faults.NoMemory at q g a = tt

pub placed_answer : {A B : Type 0} (at : ℕ) (q : Result A DviKind) (x : A) (y : B) (g : A → Result B DviKind) → faulted (placed_at at q) ≡ Ok x → g x ≡ Ok y → faulted (placed_at at (q >>= g)) ≡ Ok y
placed_answer at (Ok z) x y g e h = let same : z ≡ x = cc in rw (same, h) refl
placed_answer at (Err k) x y g e h = absurd cc

-- ---- what the pass answers

abbrev Begun : List ℕ → ℕ → Outline → Type 0
Begun bytes at o = outline_walk o (placed at 0 (drop at bytes)) ≡ outline_walk start_outline (placed 0 0 bytes)

pub kind_is : {A : Type 0} (at : ℕ) (r : Result A DviKind) (b : DviBad) → placed_at at r ≡ Err b → (k : DviKind) × (r ≡ Err k) × (b ≡ fault_at at k)
kind_is at (Ok x) b e = absurd cc
kind_is at (Err k) b e = (k, refl, cc)

pub command_fault : (e : DviFault) (bytes : List ℕ) (at : ℕ) (o : Outline) → Begun bytes at o → AgreesFault (dvi_cause e) e (faulted (placed_at at (command (drop at bytes)))) → AgreesFault (dvi_cause e) e (faulted (outline_fonts bytes))
command_fault faults.NoMemory bytes at o begun a = tt
command_fault (faults.Bad b) bytes at o begun a =
    let k = kind_is at (command (drop at bytes)) b (fault_is _ b a) in
    let walk : outline_walk start_outline (placed 0 0 bytes) ≡ Err b = sym begun ∙ outline_bad bytes at o k.0 k.1 ∙ ap (λ (x : DviBad). Err x) (sym k.2) in
    rw walk refl

-- the command at a place, by what was answered
abbrev pub Says : List ℕ → ℕ → ℕ → Command → Type 0
Says bytes at after cmd = faulted (placed_at at (command (drop at bytes))) ≡ Ok (cmd, drop after bytes)

pub said_is : {A : Type 0} (at : ℕ) (r : Result A DviKind) (x : A) → faulted (placed_at at r) ≡ Ok x → r ≡ Ok x
said_is at (Ok y) x e = cc
said_is at (Err k) x e = absurd cc

pub step_fault : (e : DviFault) (bytes : List ℕ) (at after : ℕ) (o : Outline) (cmd : Command) → Begun bytes at o → Says bytes at after cmd → at < after → after ≤ length bytes
    → AgreesFault (dvi_cause e) e (faulted (placed_at at (outlined o at cmd))) → AgreesFault (dvi_cause e) e (faulted (outline_fonts bytes))
step_fault faults.NoMemory bytes at after o cmd begun says lt le a = tt
step_fault (faults.Bad b) bytes at after o cmd begun says lt le a = by_last (is_last cmd) refl
  where
    is : placed_at at (outlined o at cmd) ≡ Err b
    is = fault_is _ b a

    by_last : (l : Bool) → is_last cmd ≡ l → faulted (outline_fonts bytes) ≡ Err (faults.Bad b)
    by_last true last =
        let walk : outline_walk start_outline (placed 0 0 bytes) ≡ Err b = sym begun ∙ outline_last bytes at after o cmd (said_is at _ _ says) lt le last ∙ ap (λ (r : Result Outline DviBad). r >>= λ t. filled t after 0 (drop after bytes)) is in
        rw walk refl
    by_last false last =
        let walk : outline_walk start_outline (placed 0 0 bytes) ≡ Err b = sym begun ∙ outline_next bytes at after o cmd (said_is at _ _ says) lt le last ∙ ap (λ (r : Result Outline DviBad). r >>= λ t. outline_walk t (placed after 0 (drop after bytes))) is in
        rw walk refl

filled_any : {A : Type 0} (x : A) (at count : ℕ) (bytes : List ℕ) → filled x at count bytes ≡ (filled {A = Unit {0}} tt at count bytes >>= λ u. Ok x)
unfolding filled
filled_any x at count [] = by_end (nat_le 4 count && nat_eq (at % 4) 0)
  where
    by_end : (b : Bool) → cond b (Ok x) (Err (fault_at at Postamble)) ≡ (cond {A = Result (Unit {0}) DviBad} b (Ok tt) (Err (fault_at at Postamble)) >>= λ u. Ok x)
    by_end true = refl
    by_end false = refl
filled_any x at count (b ∷ bs) = by_byte (nat_eq b 223) (filled_any x (at + 1) (count + 1) bs)
  where
    by_byte : (c : Bool) → filled x (at + 1) (count + 1) bs ≡ (filled {A = Unit {0}} tt (at + 1) (count + 1) bs >>= λ u. Ok x)
        → cond c (filled x (at + 1) (count + 1) bs) (Err (fault_at at Postamble)) ≡ (cond c (filled {A = Unit {0}} tt (at + 1) (count + 1) bs) (Err (fault_at at Postamble)) >>= λ u. Ok x)
    by_byte true e = e
    by_byte false e = refl

-- the walk at the last command, where the command itself is right
ends : (bytes : List ℕ) (at after : ℕ) (o t : Outline) (cmd : Command) → Begun bytes at o → Says bytes at after cmd → at < after → after ≤ length bytes → is_last cmd ≡ true
    → faulted (placed_at at (outlined o at cmd)) ≡ Ok t → outline_fonts bytes ≡ (fill_checked after (drop after bytes) >>= λ u. Ok t.fonts)
ends bytes at after o t cmd begun says lt le last right =
    let walk : outline_walk start_outline (placed 0 0 bytes) ≡ (fill_checked after (drop after bytes) >>= λ u. Ok t) =
    sym begun ∙ outline_last bytes at after o cmd (said_is at _ _ says) lt le last ∙ ap (λ (r : Result Outline DviBad). r >>= λ t. filled t after 0 (drop after bytes)) (answer_is _ t right) ∙ filled_any t after 0 (drop after bytes) in
    rw walk (regroup (fill_checked after (drop after bytes)))
  where
    regroup : (r : Result (Unit {0}) DviBad) → (r >>= (λ u. Ok t) >>= λ o. Ok o.fonts) ≡ (r >>= λ u. Ok t.fonts)
    regroup (Ok u) = refl
    regroup (Err b) = refl

pub fill_fault : (e : DviFault) (bytes : List ℕ) (at after : ℕ) (o t : Outline) (cmd : Command) → Begun bytes at o → Says bytes at after cmd → at < after → after ≤ length bytes → is_last cmd ≡ true
    → faulted (placed_at at (outlined o at cmd)) ≡ Ok t → AgreesFault (dvi_cause e) e (faulted (fill_checked after (drop after bytes))) → AgreesFault (dvi_cause e) e (faulted (outline_fonts bytes))
fill_fault e bytes at after o t cmd begun says lt le last right a = rw (ends bytes at after o t cmd begun says lt le last right) (first_fault e (fill_checked after (drop after bytes)) (λ u. Ok t.fonts) a)

pub all_right : (bytes : List ℕ) (at after : ℕ) (o t : Outline) (cmd : Command) (u : Unit {0}) → Begun bytes at o → Says bytes at after cmd → at < after → after ≤ length bytes → is_last cmd ≡ true
    → faulted (placed_at at (outlined o at cmd)) ≡ Ok t → faulted (fill_checked after (drop after bytes)) ≡ Ok u → faulted (outline_fonts bytes) ≡ Ok t.fonts
all_right bytes at after o t cmd u begun says lt le last right filled = rw (ends bytes at after o t cmd begun says lt le last right, answer_is _ u filled) refl

pub goes_on : (bytes : List ℕ) (at after : ℕ) (o t : Outline) (cmd : Command) → Begun bytes at o → Says bytes at after cmd → at < after → after ≤ length bytes → is_last cmd ≡ false
    → faulted (placed_at at (outlined o at cmd)) ≡ Ok t → Begun bytes after t
goes_on bytes at after o t cmd begun says lt le last right =
    sym (outline_next bytes at after o cmd (said_is at _ _ says) lt le last ∙ ap (λ (r : Result Outline DviBad). r >>= λ t. outline_walk t (placed after 0 (drop after bytes))) (answer_is _ t right)) ∙ begun
