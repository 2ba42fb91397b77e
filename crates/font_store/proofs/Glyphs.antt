-- The numbers of cells are codes of Japanese fonts.
use Rattle.std.proofs.Common.{◌≡◌, ℕ, ◌-◌, ◌/◌, ◌%◌, true, nat_le, Some, arith, refl}
use Rattle.std.proofs.lemmas.Bool.Decides.{nat_tests}
use Rattle.jis_codes.specs.Kuten.{Kuten, IsKuten}
use Rattle.jis_codes.specs.Spellings.{jis}
use Rattle.jis_codes.specs.Numbers.{number_of}
use Rattle.jfm_load.specs.CharTypes.{is_jis}
use Rattle.jfm_load.specs.Metrics as jfm
use Rattle.font_store.specs.declared.metric.Metric.TheVariants.{Japanese}
use Rattle.font_store.specs.Widths.{width_by}

pub cell_is_jis : (k : Kuten) → IsKuten k → is_jis (number_of jis k) ≡ true
unfolding is_jis
cell_is_jis k there =
    let row : number_of jis k / 256 - 32 ≡ k.row = omega (arith, there.3) in
    let cell : number_of jis k % 256 - 32 ≡ k.cell = omega (arith, there.3) in
    let a : nat_le 1 k.row ≡ true = grind (arith, nat_tests, there.0) in
    let b : nat_le k.row 94 ≡ true = grind (arith, nat_tests, there.1) in
    let c : nat_le 1 k.cell ≡ true = grind (arith, nat_tests, there.2) in
    let d : nat_le k.cell 94 ≡ true = grind (arith, nat_tests, there.3) in
    rw (row, cell, a, b, c, d) refl

pub cell_width : (m : jfm.Metric) (size : ℕ) (k : Kuten) → IsKuten k → width_by (Japanese m) size (number_of jis k) ≡ Some (jfm.measures_of m (jfm.class_of m k) size).wd
cell_width m size k there = rw (cell_is_jis k there) refl
