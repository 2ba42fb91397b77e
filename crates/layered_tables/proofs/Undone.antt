-- What a change of the table does to the tables below.
use Rattle.std.proofs.Common.{◌≡◌, ◌≢◌, ℕ, ◌+◌, ◌<◌, ◌≤◌, List, [], ◌∷◌, length, map, Option, cond, refl, sym, ap, ◌∙◌, arith, zero, suc, ⊎_elim}
use Rattle.std.proofs.lemmas.Bool.{eq-eqb, ne_eqb, lt-ltb, le-ltb, le-leb, lt-leb, cases_eq, cases_lt}
use Rattle.std.proofs.lemmas.Bool.Decides.{nat_tests}
use Rattle.layered_tables.specs.declared.kept.Kept.{Kept}
use Rattle.layered_tables.specs.declared.layers.Saved.{Saved}
use Rattle.layered_tables.specs.Environments.{in_those_from}
use Rattle.layered_tables.specs.Tables.{Table, member_of, member_at}
use Rattle.layered_tables.specs.Undoing.{write, put_back, undone, tables_to, home, AreSaves}
use Rattle.layered_tables.proofs.Writing.{get-write_there, get-write_apart, write_again, write_apart}

module _ {E : Type 0} where
  pub from_inner : (m : ℕ) (f : E → E) (e : E) (es : List E) → m ≤ length es + 1 → in_those_from m f (e ∷ es) ≡ f e ∷ in_those_from m f es
  from_inner m f e es within = ap (λ b. cond b (f e ∷ in_those_from m f es) (e ∷ es)) (le-leb _ _ within)

  pub from_outer : (m : ℕ) (f : E → E) (e : E) (es : List E) → length es + 1 < m → in_those_from m f (e ∷ es) ≡ e ∷ es
  from_outer m f e es past = ap (λ b. cond b (f e ∷ in_those_from m f es) (e ∷ es)) (lt-leb _ _ past)

module _ {X : Type 0} where
  pub member_at-there : (n : ℕ) (cell : Option (Kept X)) (t : Table X) → member_at (write n cell t) n ≡ member_of cell
  member_at-there n cell t = ap member_of (get-write_there n cell t)

  pub member_at-apart : (n : ℕ) (cell : Option (Kept X)) (t : Table X) (q : ℕ) → q ≢ n → member_at (write n cell t) q ≡ member_at t q
  member_at-apart n cell t q apart = ap member_of (get-write_apart n cell t q apart)

  pub put_back_none : (s : Saved X) (t : Table X) → member_at t s.place ≡ 1 → put_back s t ≡ t
  put_back_none s t e = ap (λ b. cond b t (write s.place s.old t)) (eq-eqb _ _ e)

  pub put_back_old : (s : Saved X) (t : Table X) → member_at t s.place ≢ 1 → put_back s t ≡ write s.place s.old t
  put_back_old s t e = ap (λ b. cond b t (write s.place s.old t)) (ne_eqb _ _ e)

  -- a write elsewhere may come before or after
  pub put_back-apart : (s : Saved X) (n : ℕ) (cell : Option (Kept X)) (t : Table X) → s.place ≢ n → put_back s (write n cell t) ≡ write n cell (put_back s t)
  put_back-apart s n cell t apart =
      let same = member_at-apart n cell t s.place apart in
      ⊎_elim (λ e. put_back_none s (write n cell t) (same ∙ e) ∙ ap (write n cell) (sym (put_back_none s t e)))
      (λ e. put_back_old s (write n cell t) (λ h. e (sym same ∙ h)) ∙ write_apart s.place n s.old cell t apart ∙ ap (write n cell) (sym (put_back_old s t e)))
      (cases_eq (member_at t s.place) 1)

  -- what is put back hides a write that isn't global
  pub put_back-hides : (s : Saved X) (n : ℕ) (cell : Option (Kept X)) (t : Table X) → s.place ≡ n → member_of cell ≢ 1 → member_at t n ≢ 1 → put_back s (write n cell t) ≡ put_back s t
  put_back-hides s n cell t here new old =
      let there = member_at-there s.place cell t in
      rw (← here) (put_back_old s (write s.place cell t) (λ h. new (sym there ∙ h)) ∙ write_again s.place s.old cell t ∙ sym (put_back_old s t (rw here old)))

  -- what is put back doesn't stand against a global write
  pub put_back-global : (s : Saved X) (n : ℕ) (cell : Option (Kept X)) (t : Table X) → member_of cell ≡ 1 → put_back s (write n cell t) ≡ write n cell (put_back s t)
  put_back-global s n cell t global =
      ⊎_elim (λ here.
      let there = member_at-there s.place cell t in
      rw (← here) (put_back_none s (write s.place cell t) (there ∙ global) ∙ ⊎_elim
      (λ e. ap (write s.place cell) (sym (put_back_none s t e)))
      (λ e. sym (ap (write s.place cell) (put_back_old s t e) ∙ write_again s.place cell s.old t))
      (cases_eq (member_at t s.place) 1)))
      (λ apart. put_back-apart s n cell t apart)
      (cases_eq s.place n)

  pub member_at-put_back : (s : Saved X) (n : ℕ) (t : Table X) → s.place ≢ n → member_at (put_back s t) n ≡ member_at t n
  member_at-put_back s n t apart =
      ⊎_elim (λ e. ap (λ u. member_at u n) (put_back_none s t e))
      (λ e. ap (λ u. member_at u n) (put_back_old s t e) ∙ member_at-apart s.place s.old t n (λ h. apart (sym h)))
      (cases_eq (member_at t s.place) 1)

  pub undone_later : (m : ℕ) (s : Saved X) (older : List (Saved X)) (t : Table X) → m < s.member → undone m (s ∷ older) t ≡ undone m older (put_back s t)
  undone_later m s older t later = ap (λ b. cond b (undone m older (put_back s t)) t) (lt-ltb _ _ later)

  pub undone_before : (m : ℕ) (s : Saved X) (older : List (Saved X)) (t : Table X) → s.member ≤ m → undone m (s ∷ older) t ≡ t
  undone_before m s older t before = ap (λ b. cond b (undone m older (put_back s t)) t) (le-ltb _ _ before)

  -- in the environment of the saves there is nothing to put back
  pub undone_none : (m : ℕ) (saves : List (Saved X)) (t : Table X) → AreSaves m saves → undone m saves t ≡ t
  undone_none m [] t ok = refl
  undone_none m (s ∷ older) t ok = undone_before m s older t ok.1

  -- no cell was saved later than the saves
  pub home_most : (m : ℕ) (saves : List (Saved X)) (n : ℕ) → AreSaves m saves → 1 ≤ m → home saves n ≤ m
  home_most m [] n ok one = one
  home_most m (s ∷ older) n ok one = let later = home_most s.member older n ok.3 (omega arith) in grind (arith, nat_tests)

  pub home_least : (m : ℕ) (saves : List (Saved X)) (n : ℕ) → AreSaves m saves → 1 ≤ home saves n
  home_least m [] n ok = omega arith
  home_least m (s ∷ older) n ok = let later = home_least s.member older n ok.3 in grind (arith, nat_tests)

  pub home_there : (s : Saved X) (older : List (Saved X)) (n : ℕ) → s.place ≡ n → home (s ∷ older) n ≡ s.member
  home_there s older n here = ap (λ b. cond b s.member (home older n)) (eq-eqb _ _ here)

  pub home_apart : (s : Saved X) (older : List (Saved X)) (n : ℕ) → s.place ≢ n → home (s ∷ older) n ≡ home older n
  home_apart s older n apart = ap (λ b. cond b s.member (home older n)) (ne_eqb _ _ apart)

  -- a global write is a write in each environment
  pub undone-global : (m : ℕ) (saves : List (Saved X)) (n : ℕ) (cell : Option (Kept X)) (t : Table X) → member_of cell ≡ 1 → undone m saves (write n cell t) ≡ write n cell (undone m saves t)
  undone-global m [] n cell t global = refl
  undone-global m (s ∷ older) n cell t global =
      ⊎_elim (λ later. undone_later m s older (write n cell t) later ∙ ap (undone m older) (put_back-global s n cell t global) ∙ undone-global m older n cell (put_back s t) global ∙ ap (write n cell) (sym (undone_later m s older t later)))
      (λ before. undone_before m s older (write n cell t) before ∙ ap (write n cell) (sym (undone_before m s older t before)))
      (cases_lt m s.member)

  -- A cell that was saved after an environment may be written: that environment stays.
  pub undone-hidden : (d m : ℕ) (saves : List (Saved X)) (n : ℕ) (cell : Option (Kept X)) (t : Table X) → AreSaves d saves → 1 ≤ m → m < home saves n → member_of cell ≢ 1 → member_at t n ≢ 1 → undone m saves (write n cell t) ≡ undone m saves t
  undone-hidden d m [] n cell t ok one late new old = absurd (omega arith)
  undone-hidden d m (s ∷ older) n cell t ok one late new old =
      ⊎_elim (λ later. ⊎_elim
      (λ here. undone_later m s older (write n cell t) later ∙ ap (undone m older) (put_back-hides s n cell t here new old) ∙ sym (undone_later m s older t later))
      (λ apart. undone_later m s older (write n cell t) later ∙ ap (undone m older) (put_back-apart s n cell t apart)
      ∙ undone-hidden s.member m older n cell (put_back s t) ok.3 one (let e = home_apart s older n apart in omega arith) new (λ h. old (sym (member_at-put_back s n t apart) ∙ h))
      ∙ sym (undone_later m s older t later))
      (cases_eq s.place n))
      (λ before. absurd (let most = home_most s.member (s ∷ older) n (ok.0, omega arith, ok.2, ok.3) (omega arith) in omega arith))
      (cases_lt m s.member)

  -- A cell that was not saved after an environment was set in it or before: it may be written there as well.
  pub undone-shared : (d m : ℕ) (saves : List (Saved X)) (n : ℕ) (cell : Option (Kept X)) (t : Table X) → AreSaves d saves → home saves n ≤ m → undone m saves (write n cell t) ≡ write n cell (undone m saves t)
  undone-shared d m [] n cell t ok early = refl
  undone-shared d m (s ∷ older) n cell t ok early =
      ⊎_elim (λ later. ⊎_elim
      (λ here. absurd (let e = home_there s older n here in omega arith))
      (λ apart. undone_later m s older (write n cell t) later ∙ ap (undone m older) (put_back-apart s n cell t apart)
      ∙ undone-shared s.member m older n cell (put_back s t) ok.3 (let e = home_apart s older n apart in omega arith)
      ∙ ap (write n cell) (sym (undone_later m s older t later)))
      (cases_eq s.place n))
      (λ before. undone_before m s older (write n cell t) before ∙ ap (write n cell) (sym (undone_before m s older t before)))
      (cases_lt m s.member)

  -- the same for all environments up to one
  pub length-tables_to : (g : ℕ) (saves : List (Saved X)) (t : Table X) → length (tables_to g saves t) ≡ g
  length-tables_to zero saves t = refl
  length-tables_to (suc g) saves t = ap suc (length-tables_to g saves t)

  pub tables_to-global : (g : ℕ) (saves : List (Saved X)) (n : ℕ) (cell : Option (Kept X)) (t : Table X) → member_of cell ≡ 1 → tables_to g saves (write n cell t) ≡ map (write n cell) (tables_to g saves t)
  tables_to-global zero saves n cell t global = refl
  tables_to-global (suc g) saves n cell t global = λ i. undone-global (suc g) saves n cell t global i ∷ tables_to-global g saves n cell t global i

  pub tables_to-hidden : (d g : ℕ) (saves : List (Saved X)) (n : ℕ) (cell : Option (Kept X)) (t : Table X) → AreSaves d saves → g < home saves n → member_of cell ≢ 1 → member_at t n ≢ 1 → tables_to g saves (write n cell t) ≡ tables_to g saves t
  tables_to-hidden d zero saves n cell t ok late new old = refl
  tables_to-hidden d (suc g) saves n cell t ok late new old =
      let head = undone-hidden d (suc g) saves n cell t ok (omega arith) late new old in
      let tail = tables_to-hidden d g saves n cell t ok (omega arith) new old in
      λ i. head i ∷ tail i

  -- a save that was made after them is put back first
  pub tables_to-save : (g : ℕ) (s : Saved X) (older : List (Saved X)) (t : Table X) → g < s.member → tables_to g (s ∷ older) t ≡ tables_to g older (put_back s t)
  tables_to-save zero s older t later = refl
  tables_to-save (suc g) s older t later =
      let head = undone_later (suc g) s older t later in
      let tail = tables_to-save g s older t (omega arith) in
      λ i. head i ∷ tail i

  -- A write in the environment in which a cell was set is one in those from there on.
  pub tables_to-from : (d g : ℕ) (saves : List (Saved X)) (n : ℕ) (cell : Option (Kept X)) (t : Table X) → AreSaves d saves → home saves n ≡ member_at t n → member_of cell ≡ member_at t n → 1 < member_at t n → tables_to g saves (write n cell t) ≡ in_those_from (member_at t n) (write n cell) (tables_to g saves t)
  tables_to-from d zero saves n cell t ok home same local = refl
  tables_to-from d (suc g) saves n cell t ok home same local =
      let count = length-tables_to g saves t in
      ⊎_elim (λ outer.
      tables_to-hidden d (suc g) saves n cell t ok (omega arith) (λ e. omega arith) (λ e. omega arith)
      ∙ sym (from_outer (member_at t n) (write n cell) (undone (suc g) saves t) (tables_to g saves t) (omega arith)))
      (λ inner.
      let head = undone-shared d (suc g) saves n cell t ok (omega arith) in
      let tail = tables_to-from d g saves n cell t ok home same local in
      (λ i. head i ∷ tail i)
      ∙ sym (from_inner (member_at t n) (write n cell) (undone (suc g) saves t) (tables_to g saves t) (omega arith)))
      (cases_lt (suc g) (member_at t n))
