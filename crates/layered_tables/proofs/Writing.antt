-- What stands in a table after a cell is written.
use Rattle.std.proofs.Common.{◌≡◌, ◌≢◌, ℕ, ◌+◌, ◌<◌, List, [], ◌∷◌, ◌++◌, length, set, get_or, Option, Some, None, cond, eqb, refl, sym, ap, ◌∙◌, arith, zero, suc, ⊎_elim}
use Rattle.std.proofs.lemmas.Bool.{eq-eqb, ne_eqb, cases_eq}
use Rattle.std.proofs.lemmas.Bool.Decides.{nat_tests}
use Rattle.std.proofs.lemmas.List.{get_or_default}
use Rattle.std.specs.Ordering.{nat_cmp}
use Rattle.std.specs.FinMap as map
use Rattle.std.specs.Cmp.{nat_cmp_total, unsigned_tied}
use Rattle.layered_tables.specs.declared.kept.Kept.{Kept}
use Rattle.layered_tables.specs.Tables.{Table}
use Rattle.layered_tables.specs.Undoing.{write, table_from}

module _ {X : Type 0} where
  -- maps that answer alike are one
  pub same_table : (s t : Table X) → ((q : ℕ) → map.get s q ≡ map.get t q) → s ≡ t
  same_table s t is = map.same_map nat_cmp_total map.nat_cmp-IsAntisymmetric s t is

  pub get-write : (n : ℕ) (cell : Option (Kept X)) (t : Table X) (q : ℕ) → map.get (write n cell t) q ≡ cond (eqb q n) cell (map.get t q)
  get-write n None t q = map.get-remove nat_cmp_total t n q ∙ ap (λ b. cond b None (map.get t q)) (unsigned_tied q n)
  get-write n (Some kept) t q = map.get-insert nat_cmp_total t n kept q ∙ ap (λ b. cond b (Some kept) (map.get t q)) (unsigned_tied q n)

  pub get-write_there : (n : ℕ) (cell : Option (Kept X)) (t : Table X) → map.get (write n cell t) n ≡ cell
  get-write_there n cell t = get-write n cell t n ∙ ap (λ b. cond b cell (map.get t n)) (eq-eqb n n refl)

  pub get-write_apart : (n : ℕ) (cell : Option (Kept X)) (t : Table X) (q : ℕ) → q ≢ n → map.get (write n cell t) q ≡ map.get t q
  get-write_apart n cell t q apart = get-write n cell t q ∙ ap (λ b. cond b cell (map.get t q)) (ne_eqb q n apart)

  -- of two writes to one cell the later counts
  pub write_again : (n : ℕ) (a b : Option (Kept X)) (t : Table X) → write n a (write n b t) ≡ write n a t
  write_again n a b t = same_table _ _ (λ q.
      let outer = get-write n a (write n b t) q in
      let inner = get-write n b t q in
      let other = get-write n a t q in
      grind (arith, nat_tests))

  -- a cell that is written as it is
  pub write_old : (n : ℕ) (t : Table X) → write n (map.get t n) t ≡ t
  write_old n t = same_table _ _ (λ q. ⊎_elim
      (λ e. rw e (get-write_there n (map.get t n) t))
      (λ apart. get-write_apart n (map.get t n) t q apart)
      (cases_eq q n))

  -- a write that is taken back
  pub write_undone : (n : ℕ) (cell old : Option (Kept X)) (t u v : Table X) → u ≡ write n cell t → old ≡ map.get t n → v ≡ write n old u → v ≡ t
  write_undone n cell old t u v written before back = rw (back, written, before) (write_again n (map.get t n) cell t ∙ write_old n t)

  -- writes to two cells
  pub write_apart : (n k : ℕ) (a b : Option (Kept X)) (t : Table X) → n ≢ k → write n a (write k b t) ≡ write k b (write n a t)
  write_apart n k a b t apart = same_table _ _ (λ q.
      let one = get-write n a (write k b t) q in
      let two = get-write k b t q in
      let three = get-write k b (write n a t) q in
      let four = get-write n a t q in
      grind (arith, nat_tests))

  -- a cell of a table made of cells
  pub get-table_from : (n : ℕ) (cells : List (Option (Kept X))) (i : ℕ) → map.get (table_from n cells) (n + i) ≡ get_or cells i None
  get-table_from n [] i = map.get-empty nat_cmp (n + i)
  get-table_from n (cell ∷ cells) zero = let e : n + 0 ≡ n = omega arith in rw e (get-write_there n cell (table_from (n + 1) cells))
  get-table_from n (cell ∷ cells) (suc i) =
      let e : n + 1 + i ≡ n + suc i = omega arith in
      get-write_apart n cell (table_from (n + 1) cells) (n + suc i) (omega arith)
      ∙ ap (map.get (table_from (n + 1) cells)) (sym e) ∙ get-table_from (n + 1) cells i

  pub table_from-set : (n : ℕ) (cells : List (Option (Kept X))) (i : ℕ) (cell : Option (Kept X)) → i < length cells → table_from n (set cells i cell) ≡ write (n + i) cell (table_from n cells)
  table_from-set n [] i cell within = absurd (omega arith)
  table_from-set n (c ∷ cells) zero cell within = let e : n + 0 ≡ n = omega arith in rw e (sym (write_again n cell c (table_from (n + 1) cells)))
  table_from-set n (c ∷ cells) (suc i) cell within =
      let e : n + 1 + i ≡ n + suc i = omega arith in
      ap (write n c) (table_from-set (n + 1) cells i cell (omega arith) ∙ ap (λ k. write k cell (table_from (n + 1) cells)) e)
      ∙ write_apart n (n + suc i) c cell (table_from (n + 1) cells) (omega arith)

  -- a cell that was never set is as none
  pub table_from-push : (n : ℕ) (cells : List (Option (Kept X))) → table_from n (cells ++ None ∷ []) ≡ table_from n cells
  table_from-push n [] = same_table _ _ (λ q.
      let one = get-write n None map.empty q in
      let two = map.get-empty {X = Kept X} nat_cmp q in
      grind (arith, nat_tests))
  table_from-push n (cell ∷ cells) = ap (write n cell) (table_from-push (n + 1) cells)

  -- the same for the table of all cells
  pub get-table : (cells : List (Option (Kept X))) (i : ℕ) → map.get (table_from 0 cells) i ≡ get_or cells i None
  get-table cells i = let e : 0 + i ≡ i = omega arith in rw e at (get-table_from 0 cells i)

  pub table-read : (cells : List (Option (Kept X))) (i : ℕ) (x : Option (Kept X)) → i < length cells → x ≡ get_or cells i x → map.get (table_from 0 cells) i ≡ x
  table-read cells i x within is = get-table cells i ∙ get_or_default cells i None x within ∙ sym is

  pub table-set : (cells : List (Option (Kept X))) (i : ℕ) (cell : Option (Kept X)) → i < length cells → table_from 0 (set cells i cell) ≡ write i cell (table_from 0 cells)
  table-set cells i cell within = let e : 0 + i ≡ i = omega arith in rw e at (table_from-set 0 cells i cell within)
