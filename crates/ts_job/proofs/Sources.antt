-- Sources and their fonts, as they are read.
use Rattle.std.proofs.Common.{◌≡◌, ℕ, ◌-◌, ◌/◌, ◌%◌, ◌≤◌, List, length, take, nat_lt, not, ◌&&◌, Bool, true, false, Option, Some, None, Result, Ok, Err, refl, arith, cond}
use Rattle.std.specs.Prelude.{nat_le}
use Rattle.std.specs.Option.{ok_or}
use Rattle.std.proofs.lemmas.Bool.Decides.{nat_tests}
use Rattle.ts_geometry.specs.declared.fault.MetricFault.{MetricFault}
use Rattle.jis_codes.specs.Kuten.{Kuten, IsKuten}
use Rattle.jis_codes.specs.Spellings.{jis}
use Rattle.jis_codes.specs.Numbers.{number_of}
use Rattle.ts_base.specs.Agreement.{◌>>=◌, with_fault, Counts, Uncounted}
use Rattle.ts_base.proofs.Composing.{leaves_count}
use Rattle.ts_outside.specs.States.{Held}
use Rattle.ts_outside.specs.Reading.{bytes_of}
use Rattle.ts_outside.specs.declared.name.NameFault.TheVariants.{BadName}
use Rattle.ts_outside.specs.Names.{is_file_name}
use Rattle.ts_outside.specs.Naming.{named}
use Rattle.ts_outside.specs.Endings.{with_ending, metric_ending}
use Rattle.jfm_load.specs.Metrics.{Metric, metric_of}
use Rattle.metric_words.specs.Words.{halfword}
use Rattle.jfm_load.specs.CharTypes.{is_jis}
use Rattle.ts_job.specs.declared.fault.FaultKind.TheVariants.{FileMissing, FormNotBuilt}
use Rattle.ts_job.specs.declared.stop.Stop.{Stop}
use Rattle.ts_job.specs.declared.stop.Stop.TheVariants as stops
use Rattle.ts_job.specs.Words.{Request}
use Rattle.ts_job.specs.Form.{Form}
use Rattle.ts_job.specs.Loading.{first_of}
use Rattle.ts_job.specs.Meaning.{font_fault, or_not_built, may_be_jfm, has_programs, source_form, font_metric, built, is_built, typeset, page_of, font_def, width_of, ten_points, stop_cause}
use Rattle.ts_job.specs.Promise.{held_widths, width_by, width_in}
use Rattle.ts_job.specs.Setting.{GivesWidths}

-- the metric of the font, by the bytes that were read of it
metric_read : (file : Option (List ℕ)) (bytes : List ℕ) → first_of 262140 file ≡ Ok bytes → ((whole : List ℕ) → take 262140 whole ≡ bytes → built whole ≡ built bytes) → (ok_or file (stops.Fault FileMissing 1) >>= λ b. built b) ≡ built bytes
metric_read None bytes read holds = absurd cc
metric_read (Some file) bytes read holds =
    let first : take 262140 file ≡ bytes = cc in
    holds file first

pub font_metric-read : (held : List Held) (form : Form) (bytes : List ℕ) → first_of 262140 (bytes_of held (with_ending metric_ending form.name)) ≡ Ok bytes → ((whole : List ℕ) → take 262140 whole ≡ bytes → built whole ≡ built bytes) → font_metric held form ≡ built bytes
unfolding font_metric
font_metric-read held form bytes read holds = metric_read (bytes_of held (with_ending metric_ending form.name)) bytes read holds

-- what two files with the same metric and the same first halfwords give
pub built_same : (a b : List ℕ) → 28 ≤ length a → 28 ≤ length b → ((i : ℕ) → i ≤ 12 → halfword a i ≡ halfword b i) → metric_of a ≡ metric_of b → built a ≡ built b
built_same a b long_a long_b same metric =
    let some_a : nat_lt (length a) 2 ≡ false = grind (arith, nat_tests) in
    let some_b : nat_lt (length b) 2 ≡ false = grind (arith, nat_tests) in
    let two_a : nat_le 2 (length a) ≡ true = grind (arith, nat_tests) in
    let two_b : nat_le 2 (length b) ≡ true = grind (arith, nat_tests) in
    let all_a : nat_le 28 (length a) ≡ true = grind (arith, nat_tests) in
    let all_b : nat_le 28 (length b) ≡ true = grind (arith, nat_tests) in
    rw (
      some_a,
      some_b,
      two_a,
      two_b,
      all_a,
      all_b,
      metric,
      same 0 (omega arith),
      same 10 (omega arith),
      same 11 (omega arith),
      same 12 (omega arith),
    ) refl

pub named_is : (text name : List ℕ) → named text ≡ Ok name → text ≡ name
named_is text name is = by_test (is_file_name text) is
  where
    by_test : (test : Bool) → cond test (Ok text) (Err BadName) ≡ Ok name → text ≡ name
    by_test true is = cc
    by_test false is = absurd cc

-- What refuses without a read leaves the count.
pub counts_quiet : {X : Type 0} (result : Result X Stop) (old new : ℕ) → Uncounted stop_cause result → new ≡ old → Counts stop_cause result old new
counts_quiet result old new quiet same = rw same (leaves_count stop_cause result old quiet)

-- ---- widths

cell_is_jis : (k : Kuten) → IsKuten k → is_jis (number_of jis k) ≡ true
unfolding is_jis
cell_is_jis k there =
    let row : number_of jis k / 256 - 32 ≡ k.row = omega (arith, there.3) in
    let cell : number_of jis k % 256 - 32 ≡ k.cell = omega (arith, there.3) in
    let a : nat_le 1 k.row ≡ true = grind (arith, nat_tests, there.0) in
    let b : nat_le k.row 94 ≡ true = grind (arith, nat_tests, there.1) in
    let c : nat_le 1 k.cell ≡ true = grind (arith, nat_tests, there.2) in
    let d : nat_le k.cell 94 ≡ true = grind (arith, nat_tests, there.3) in
    rw (row, cell, a, b, c, d) refl

width_if_built : (m metric : Metric) (k : Kuten) (test : Bool) → IsKuten k → cond test (Ok m) (Err (stops.Fault FormNotBuilt 0)) ≡ Ok metric → width_in ten_points (number_of jis k) (Ok m) ≡ Some (record { 0 = width_of metric k })
width_if_built m metric k true there is =
    let same : m ≡ metric = cc in
    let code = cell_is_jis k there in
    rw (same, code) refl
width_if_built m metric k false there is = absurd cc

width_read : (r : Result Metric MetricFault) (programs : Bool) (metric : Metric) (k : Kuten) → IsKuten k → (with_fault font_fault r >>= or_not_built programs) ≡ Ok metric → width_in ten_points (number_of jis k) r ≡ Some (record { 0 = width_of metric k })
width_read (Err fault) programs metric k there is = absurd cc
width_read (Ok m) programs metric k there is = width_if_built m metric k (not programs && is_built m) there is

width_tested : (test : Bool) (r : Result Metric MetricFault) (programs : Bool) (metric : Metric) (k : Kuten) → IsKuten k
    → cond test (with_fault font_fault r >>= or_not_built programs) (Err (stops.Fault FormNotBuilt 0)) ≡ Ok metric
    → cond test (width_in ten_points (number_of jis k) r) None ≡ Some (record { 0 = width_of metric k })
width_tested true r programs metric k there is = width_read r programs metric k there is
width_tested false r programs metric k there is = absurd cc

width_held : (file : Option (List ℕ)) (metric : Metric) (k : Kuten) → IsKuten k → (ok_or file (stops.Fault FileMissing 1) >>= λ b. built b) ≡ Ok metric → width_by ten_points (number_of jis k) file ≡ Some (record { 0 = width_of metric k })
width_held None metric k there is = absurd cc
width_held (Some file) metric k there is = width_tested (may_be_jfm file) (metric_of file) (has_programs file) metric k there is

-- The metric that is found gives the widths with which the DVI file is read.
pub widths_held : (held : List Held) (form : Form) (metric : Metric) → font_metric held form ≡ Ok metric → GivesWidths (held_widths held) (font_def form metric) metric
unfolding font_metric
widths_held held form metric is = λ k there. width_held (bytes_of held (with_ending metric_ending form.name)) metric k there is

pub typeset-is : (held : List Held) (request : Request) (form : Form) (metric : Metric) → source_form held request ≡ Ok form → font_metric held form ≡ Ok metric → typeset held request ≡ Ok (page_of form metric)
unfolding typeset
typeset-is held request form metric source font = rw (source, font) refl
