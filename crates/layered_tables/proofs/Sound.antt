-- A table and its saves stay sound.
use Rattle.std.proofs.Common.{◌≡◌, ◌≢◌, ◌⊎◌, ℕ, ◌+◌, ◌-◌, ◌<◌, ◌≤◌, List, [], ◌∷◌, length, map, Option, Some, Bool, true, false, refl, sym, ap, ◌∙◌, add-one, arith, zero, suc, ⊎_elim, inl, inr, subst}
use Rattle.std.proofs.lemmas.Bool.{cases_eq}
use Rattle.std.specs.FinMap as fin
use Rattle.std.specs.Ordering.{nat_cmp}
use Rattle.layered_tables.specs.declared.kept.Kept.{Kept}
use Rattle.layered_tables.specs.declared.layers.Saved.{Saved}
use Rattle.layered_tables.specs.Environments.{opened, closed, in_those_from}
use Rattle.layered_tables.specs.Tables.{Table, member_of, member_at, with_set, with_replaced}
use Rattle.layered_tables.specs.Undoing.{write, table_from, put_back, tables_to, home, IsHome, AreSaves, AreWithin, IsSound, ArePast}
use Rattle.layered_tables.proofs.Writing.{write_old, write_again}
use Rattle.layered_tables.proofs.Undone.{member_at-there, member_at-apart, member_at-put_back, put_back_none, put_back_old, undone_none, home_least, home_most, home_there, home_apart, length-tables_to, tables_to-global, tables_to-hidden, tables_to-save, tables_to-from, from_inner}

module _ {X : Type 0} where
  -- the cell of a value that is set
  abbrev pub as_set : X → ℕ → Option (Kept X)
  as_set value member = Some (record { value = value; member = member })

  longer_places : (m n : ℕ) (saves : List (Saved X)) → m ≤ n → AreWithin m saves → AreWithin n saves
  longer_places m n [] more ok = tt
  longer_places m n (s ∷ saves) more ok = (omega arith, longer_places m n saves more ok.1)

  -- where the cell is home that is written
  pub homes-written : (saves : List (Saved X)) (n : ℕ) (cell : Option (Kept X)) (t : Table X) → IsHome saves n (member_of cell)
      → ((q : ℕ) → IsHome saves q (member_at t q)) → (q : ℕ) → IsHome saves q (member_at (write n cell t) q)
  homes-written saves n cell t here homes q =
      ⊎_elim (λ e. let P : ℕ → Type 0 = λ k. IsHome saves k (member_at (write n cell t) k) in
      subst P (sym e) (let Q : ℕ → Type 0 = IsHome saves n in subst Q (sym (member_at-there n cell t)) here))
      (λ apart. let Q : ℕ → Type 0 = IsHome saves q in subst Q (sym (member_at-apart n cell t q apart)) (homes q))
      (cases_eq q n)

  pub sound-written : (cells new : List (Option (Kept X))) (saves : List (Saved X)) (d n : ℕ) (cell : Option (Kept X)) → IsSound cells saves d
      → IsHome saves n (member_of cell) → table_from 0 new ≡ write n cell (table_from 0 cells) → length new ≡ length cells → IsSound new saves d
  sound-written cells new saves d n cell ok here is len = record {
    places = longer_places _ _ saves (omega arith) ok.places;
    homes = λ q. rw is (homes-written saves n cell (table_from 0 cells) here ok.homes q);
    saved = ok.saved;
  }

  pub sound-longer : (cells new : List (Option (Kept X))) (saves : List (Saved X)) (d : ℕ) → IsSound cells saves d
      → table_from 0 new ≡ table_from 0 cells → length cells ≤ length new → IsSound new saves d
  sound-longer cells new saves d ok is len = record {
    places = longer_places _ _ saves len ok.places;
    homes = λ q. rw is (ok.homes q);
    saved = ok.saved;
  }

  pub sound-set : (cells grown new : List (Option (Kept X))) (saves : List (Saved X)) (d n : ℕ) (value : X) (m : ℕ) → IsSound cells saves d
      → table_from 0 grown ≡ table_from 0 cells → length cells ≤ length grown → (m ≡ 1) ⊎ (m ≡ member_at (table_from 0 grown) n)
      → table_from 0 new ≡ write n (as_set value m) (table_from 0 grown) → length new ≡ length grown → IsSound new saves d
  sound-set cells grown new saves d n value m ok same longer here is len =
      let grew = sound-longer cells grown saves d ok same longer in
      sound-written grown new saves d n (as_set value m) grew (⊎_elim inl (λ e. rw e (grew.homes n)) here) is len

  -- a cell that wasn't saved is home where it was
  home_before : (s : Saved X) (saves : List (Saved X)) (q member : ℕ) → s.place ≢ q → IsHome saves q member → IsHome (s ∷ saves) q member
  home_before s saves q member apart = ⊎_elim inl (λ e. inr (e ∙ sym (home_apart s saves q apart)))

  home_after : (s : Saved X) (saves : List (Saved X)) (q member : ℕ) → s.place ≢ q → IsHome (s ∷ saves) q member → IsHome saves q member
  home_after s saves q member apart = ⊎_elim inl (λ e. inr (e ∙ home_apart s saves q apart))

  pub sound-saved : (cells new : List (Option (Kept X))) (saves : List (Saved X)) (s : Saved X) (kept : Kept X) → IsSound cells saves s.member
      → s.place < length cells → 1 < s.member → kept.member ≡ s.member → s.old ≡ fin.get (table_from 0 cells) s.place
      → table_from 0 new ≡ write s.place (Some kept) (table_from 0 cells) → length new ≡ length cells → IsSound new (s ∷ saves) s.member
  sound-saved cells new saves s kept ok within later same old is len =
      let t = table_from 0 cells in
      let P : ℕ → Type 0 = IsHome saves s.place in
      record {
        places = (omega arith, longer_places _ _ saves (omega arith) ok.places);
        homes = λ q. rw is (⊎_elim
            (λ e. inr (ap (λ k. member_at (write s.place (Some kept) t) k) e ∙ member_at-there s.place (Some kept) t ∙ same ∙ sym (home_there s saves q (sym e))))
            (λ apart. let Q : ℕ → Type 0 = IsHome (s ∷ saves) q in
            subst Q (sym (member_at-apart s.place (Some kept) t q apart)) (home_before s saves q _ (λ h. apart (sym h)) (ok.homes q)))
            (cases_eq q s.place));
        saved = (later, omega arith, subst P (sym (ap member_of old)) (ok.homes s.place), ok.saved);
      }

  pub sound-set_first : (cells grown new : List (Option (Kept X))) (saves new_saves : List (Saved X)) (d n : ℕ) (value : X) → IsSound cells saves d
      → table_from 0 grown ≡ table_from 0 cells → length cells ≤ length grown → n < length grown → 1 < d
      → table_from 0 new ≡ write n (as_set value d) (table_from 0 grown) → length new ≡ length grown
      → new_saves ≡ record { place = n; old = fin.get (table_from 0 grown) n; member = d } ∷ saves → IsSound new new_saves d
  sound-set_first cells grown new saves new_saves d n value ok same longer within later is len first =
      rw first (sound-saved grown new saves (record { place = n; old = fin.get (table_from 0 grown) n; member = d }) (record { value = value; member = d })
      (sound-longer cells grown saves d ok same longer) within later refl refl is len)

  -- saves of an earlier environment are saves in a later one
  pub saves-later : (m d : ℕ) (saves : List (Saved X)) → m ≤ d → AreSaves m saves → AreSaves d saves
  saves-later m d [] more ok = tt
  saves-later m d (s ∷ older) more ok = (ok.0, omega arith, ok.2, ok.3)

  pub saves-past : (m d : ℕ) (saves : List (Saved X)) → ArePast m saves → AreSaves d saves → AreSaves m saves
  saves-past m d [] past ok = tt
  saves-past m d (s ∷ older) past ok = (ok.0, past, ok.2, ok.3)

  pub sound-later : (cells : List (Option (Kept X))) (saves : List (Saved X)) (m d : ℕ) → m ≤ d → IsSound cells saves m → IsSound cells saves d
  sound-later cells saves m d more ok = record { places = ok.places; homes = ok.homes; saved = saves-later m d saves more ok.saved }

  pub sound-past : (cells : List (Option (Kept X))) (saves : List (Saved X)) (m d : ℕ) → ArePast m saves → IsSound cells saves d → IsSound cells saves m
  sound-past cells saves m d past ok = record { places = ok.places; homes = ok.homes; saved = saves-past m d saves past ok.saved }

  pub sound-put_back : (cells new : List (Option (Kept X))) (s : Saved X) (older : List (Saved X)) (d : ℕ) → IsSound cells (s ∷ older) d
      → table_from 0 new ≡ put_back s (table_from 0 cells) → length new ≡ length cells → IsSound new older d
  sound-put_back cells new s older d ok is len =
      let t = table_from 0 cells in
      record {
        places = longer_places _ _ older (omega arith) ok.places.1;
        homes = λ q. rw is (⊎_elim
            (λ e. let P : ℕ → Type 0 = λ k. IsHome older k (member_at (put_back s t) k) in subst P (sym e) (⊎_elim
            (λ global. inl (ap (λ u. member_at u s.place) (put_back_none s t global) ∙ global))
            (λ local. let Q : ℕ → Type 0 = IsHome older s.place in
            subst Q (sym (ap (λ u. member_at u s.place) (put_back_old s t local) ∙ member_at-there s.place s.old t)) ok.saved.2)
            (cases_eq (member_at t s.place) 1)))
            (λ apart. let Q : ℕ → Type 0 = IsHome older q in
            subst Q (sym (member_at-put_back s q t (λ h. apart (sym h)))) (home_after s older q _ (λ h. apart (sym h)) (ok.homes q)))
            (cases_eq q s.place));
        saved = saves-later s.member d older ok.saved.1 ok.saved.3;
      }

  pub sound-empty : IsSound {X = X} [] [] 1
  sound-empty = record { places = tt; homes = λ q. inl (ap member_of (fin.get-empty nat_cmp q)); saved = tt }

  -- how many tables there are
  pub counted : (g : ℕ) (saves : List (Saved X)) (t : Table X) (ts : List (Table X)) → t ∷ tables_to g saves t ≡ ts → length ts ≡ g + 1
  counted g saves t ts is = let count = length-tables_to g saves t in let e : suc (length (tables_to g saves t)) ≡ length ts = ap length is in omega arith

  -- what each operation makes of the tables of all environments
  pub opens : (g : ℕ) (saves : List (Saved X)) (t : Table X) → AreSaves (suc g) saves → t ∷ tables_to (suc g) saves t ≡ opened (t ∷ tables_to g saves t)
  opens g saves t ok = let e = undone_none (suc g) saves t ok in λ i. t ∷ e i ∷ tables_to g saves t

  pub closes : (g : ℕ) (saves new_saves : List (Saved X)) (t new : Table X) → AreSaves (suc g) new_saves
      → tables_to (suc g) new_saves new ≡ tables_to (suc g) saves t → new ∷ tables_to g new_saves new ≡ closed (t ∷ tables_to (suc g) saves t)
  closes g saves new_saves t new ok same = let e = undone_none (suc g) new_saves new ok in (λ i. sym e i ∷ tables_to g new_saves new) ∙ same

  -- the same, as code counts
  pub opens_at : (g : ℕ) (saves : List (Saved X)) (t : Table X) → AreSaves (g + 1) saves → t ∷ tables_to (g + 1) saves t ≡ opened (t ∷ tables_to g saves t)
  opens_at g saves t ok = rw add-one (opens g saves t (saves-later (g + 1) (suc g) saves (omega arith) ok))

  pub closes_at : (g : ℕ) (saves new_saves : List (Saved X)) (t new : Table X) → 0 < g → AreSaves (g - 1 + 1) new_saves
      → tables_to (g - 1 + 1) new_saves new ≡ tables_to (g - 1 + 1) saves t → new ∷ tables_to (g - 1) new_saves new ≡ closed (t ∷ tables_to g saves t)
  closes_at zero saves new_saves t new some ok same = absurd (omega arith)
  closes_at (suc g) saves new_saves t new some ok same =
      let e : suc g - 1 ≡ g = omega arith in
      let f : suc g - 1 + 1 ≡ suc g = omega arith in
      rw e (closes g saves new_saves t new (saves-later _ (suc g) new_saves (omega arith) ok)
      (let P : ℕ → Type 0 = λ k. tables_to k new_saves new ≡ tables_to k saves t in subst P f same))

  pub sets_globally : (g : ℕ) (saves : List (Saved X)) (t : Table X) (n : ℕ) (value : X)
      → write n (as_set value 1) t ∷ tables_to g saves (write n (as_set value 1) t) ≡ with_set n value true (t ∷ tables_to g saves t)
  sets_globally g saves t n value = ap (λ ts. write n (as_set value 1) t ∷ ts) (tables_to-global g saves n (as_set value 1) t refl)

  -- the innermost is told its number
  told : (g : ℕ) (saves : List (Saved X)) (t : Table X) (n : ℕ) (value : X)
      → write n (as_set value (g + 1)) t ∷ tables_to g saves t ≡ with_set n value false (t ∷ tables_to g saves t)
  told g saves t n value = ap (λ k. write n (as_set value (k + 1)) t ∷ tables_to g saves t) (sym (length-tables_to g saves t))

  pub sets_hidden : (d g : ℕ) (saves : List (Saved X)) (t : Table X) (n : ℕ) (value : X) → AreSaves d saves → 0 < g → member_at t n ≡ g + 1 → IsHome saves n (member_at t n)
      → write n (as_set value (g + 1)) t ∷ tables_to g saves (write n (as_set value (g + 1)) t) ≡ with_set n value false (t ∷ tables_to g saves t)
  sets_hidden d g saves t n value ok some is at_home =
      let late : home saves n ≡ g + 1 = ⊎_elim (λ e. absurd (omega arith)) (λ e. sym e ∙ is) at_home in
      ap (λ ts. write n (as_set value (g + 1)) t ∷ ts) (tables_to-hidden d g saves n (as_set value (g + 1)) t ok (omega arith) (λ e. omega arith) (λ e. omega arith))
      ∙ told g saves t n value

  pub sets_saved : (g : ℕ) (saves : List (Saved X)) (s : Saved X) (t : Table X) (n : ℕ) (value : X) → 0 < g
      → s.place ≡ n → s.old ≡ fin.get t n → s.member ≡ g + 1
      → write n (as_set value (g + 1)) t ∷ tables_to g (s ∷ saves) (write n (as_set value (g + 1)) t) ≡ with_set n value false (t ∷ tables_to g saves t)
  sets_saved g saves s t n value some here old member =
      let new = write n (as_set value (g + 1)) t in
      let there : member_at new s.place ≡ g + 1 = ap (member_at new) here ∙ member_at-there n (as_set value (g + 1)) t in
      let back : put_back s new ≡ t =
      put_back_old s new (λ e. omega arith) ∙ (λ i. write (here i) (old i) new) ∙ write_again n (fin.get t n) (as_set value (g + 1)) t ∙ write_old n t in
      ap (λ ts. new ∷ ts) (tables_to-save g s saves new (omega arith) ∙ ap (tables_to g saves) back)
      ∙ told g saves t n value

  all_from_one : (f : Table X → Table X) (ts : List (Table X)) → in_those_from 1 f ts ≡ map f ts
  all_from_one f [] = refl
  all_from_one f (t ∷ ts) = from_inner 1 f t ts (omega arith) ∙ ap (λ us. f t ∷ us) (all_from_one f ts)

  pub replaces : (g : ℕ) (saves : List (Saved X)) (t : Table X) (n : ℕ) (value : X) → AreSaves (g + 1) saves → IsHome saves n (member_at t n)
      → write n (as_set value (member_at t n)) t ∷ tables_to g saves (write n (as_set value (member_at t n)) t) ≡ with_replaced n value (t ∷ tables_to g saves t)
  replaces g saves t n value ok at_home =
      let m = member_at t n in
      let cell = as_set value m in
      let count = length-tables_to g saves t in
      ⊎_elim
      (λ e. ap (λ ts. write n cell t ∷ ts) (tables_to-global g saves n cell t e)
      ∙ sym (all_from_one (write n cell) (t ∷ tables_to g saves t)) ∙ ap (λ k. in_those_from k (write n cell) (t ∷ tables_to g saves t)) (sym e))
      (λ later.
      let within : m ≤ g + 1 = let most = home_most (g + 1) saves n ok (omega arith) in ⊎_elim (λ e. omega arith) (λ e. omega arith) at_home in
      let is : home saves n ≡ m = ⊎_elim (λ e. absurd (later e)) sym at_home in
      let one : 1 < m = let least = home_least (g + 1) saves n ok in omega arith in
      ap (λ ts. write n cell t ∷ ts) (tables_to-from (g + 1) g saves n cell t ok is refl one)
      ∙ sym (from_inner m (write n cell) t (tables_to g saves t) (omega arith)))
      (cases_eq m 1)

  -- the same, where the table was grown first
  pub set_everywhere : (g : ℕ) (saves : List (Saved X)) (t u new : Table X) (n : ℕ) (value : X) (b : Bool) → u ≡ t → new ≡ write n (as_set value 1) u
      → (b ≡ true) ⊎ (g ≡ 0) → new ∷ tables_to g saves new ≡ with_set n value b (t ∷ tables_to g saves t)
  set_everywhere g saves t u new n value b grown is wide = rw (is, grown) (⊎_elim
      (λ e. rw e (sets_globally g saves t n value))
      (λ e. rw e (elim b as (λ b. write n (as_set value 1) t ∷ [] ≡ with_set n value b (t ∷ [])) [ true ↦ refl | false ↦ refl ]))
      wide)

  pub set_again : (d g : ℕ) (saves : List (Saved X)) (t u new : Table X) (n : ℕ) (value : X) → u ≡ t → new ≡ write n (as_set value (g + 1)) u
      → 0 < g → g + 1 ≡ member_at u n → AreSaves d saves → IsHome saves n (member_at t n) → new ∷ tables_to g saves new ≡ with_set n value false (t ∷ tables_to g saves t)
  set_again d g saves t u new n value grown is some here ok at_home =
      rw (is, grown) (sets_hidden d g saves t n value ok some (ap (λ v. member_at v n) (sym grown) ∙ sym here) at_home)

  pub set_first : (g : ℕ) (saves : List (Saved X)) (t u new : Table X) (n : ℕ) (value : X) → u ≡ t → new ≡ write n (as_set value (g + 1)) u
      → 0 < g → (new_saves : List (Saved X)) → new_saves ≡ record { place = n; old = fin.get u n; member = g + 1 } ∷ saves
      → new ∷ tables_to g new_saves new ≡ with_set n value false (t ∷ tables_to g saves t)
  set_first g saves t u new n value grown is some new_saves saved =
      rw (saved, is, grown) (sets_saved g saves (record { place = n; old = fin.get t n; member = g + 1 }) t n value some refl refl refl)

  pub replaced : (g : ℕ) (saves : List (Saved X)) (t u new : Table X) (n : ℕ) (value : X) (r : ℕ) → u ≡ t → r ≡ member_at u n → new ≡ write n (as_set value r) u
      → AreSaves (g + 1) saves → IsHome saves n (member_at t n) → new ∷ tables_to g saves new ≡ with_replaced n value (t ∷ tables_to g saves t)
  replaced g saves t u new n value r grown member is ok at_home = rw (is, member, grown) (replaces g saves t n value ok at_home)

  -- what the newest save holds is put back first
  pub put_back_first : (g : ℕ) (saves older : List (Saved X)) (s : Saved X) (t u : Table X) → saves ≡ s ∷ older → g < s.member → u ≡ put_back s t
      → tables_to g older u ≡ tables_to g saves t
  put_back_first g saves older s t u first later is = rw (first, is) (sym (tables_to-save g s older t later))
