-- What is true of fonts as one is added.
use Rattle.std.proofs.Common.{◌≡◌, ◌∙◌, ℕ, zero, suc, ◌<◌, ◌≤◌, ◌⊎◌, inl, inr, ◌&&◌, List, [], ◌∷◌, ◌++◌, length, All, true, false, Bool, Option, Some, None, Result, Ok, Err, IsTrue, refl, ap, arith}
use Rattle.std.specs.Prelude.{slice_get, nat_le, nat_lt, if◌then◌else◌}
use Rattle.std.specs.Option.{option_map}
use Rattle.std.proofs.lemmas.List.Elements.{All-nil, All-head, All-tail, All-push}
use Rattle.ts_geometry.specs.declared.measure.Measures.{Measures}
use Rattle.ts_outside.specs.States.{Held}
use Rattle.ts_outside.specs.Names.{is_file_name}
use Rattle.ts_outside.specs.Endings.{with_ending, metric_ending}
use Rattle.tfm_load.specs.Metrics as tfm
use Rattle.jfm_load.specs.Metrics as jfm
use Rattle.jfm_load.specs.CharTypes.{class_in, is_jis}
use Rattle.dvi_structure.specs.Structure.{is_sound_font}
use Rattle.box_tree.specs.declared.item.FontNo.{FontNo}
use Rattle.font_store.specs.declared.fonts.Font.{Font}
use Rattle.font_store.specs.declared.metric.Metric.{Metric}
use Rattle.font_store.specs.declared.metric.Metric.TheVariants.{Roman, Japanese}
use Rattle.font_store.specs.declared.loading.LoadFault.{LoadFault}
use Rattle.font_store.specs.Store.{font_at}
use Rattle.font_store.specs.Widths.{metric_named, width_by, width_in, widths}
use Rattle.known_fonts.specs.Names.{IsMetricName}
use Rattle.known_fonts.specs.Tables.{definition}
use Rattle.font_store.specs.Measures.{measures_by}
use Rattle.known_fonts.specs.Standing.{GrewBy, AreDefinable, AreAsHeld, measures_in, measures_held}

pub none_held : (held : List Held) → AreAsHeld held []
unfolding AreAsHeld
none_held held = All-nil (λ font. metric_named held font.name ≡ Ok font.metric)

pub none_definable : AreDefinable []
unfolding AreDefinable
none_definable = All-nil (λ font. is_sound_font (definition 0 font) ≡ true)

all_at : {A : Type 0} (P : A → Type 0) (xs : List A) (n : ℕ) (x : A) → All P xs → slice_get xs n ≡ Some x → P x
all_at P [] n x all is = cc
all_at P (y ∷ xs) zero x all is = let same : y ≡ x = cc in rw (← same) (All-head P y xs all)
all_at P (y ∷ xs) (suc n) x all is = all_at P xs n x (All-tail P y xs all) is

pub held_measures : (held : List Held) (fonts : List Font) (number : FontNo) (font : Font) (code : ℕ) → AreAsHeld held fonts → font_at fonts number ≡ Some font
    → measures_held held font.name font.size code ≡ measures_by font.metric font.size code
unfolding AreAsHeld
held_measures held fonts number font code all is =
    rw (all_at (λ f. metric_named held f.name ≡ Ok f.metric) fonts number.0 font all is) refl

jis_width : (b : Bool) (m : Measures) → (if b then Some m.wd else None) ≡ option_map (λ s. s.wd) (if b then Some m else None)
jis_width true m = refl
jis_width false m = refl

metric_width : (metric : Metric) (size code : ℕ) → width_by metric size code ≡ option_map (λ m. m.wd) (measures_by metric size code)
metric_width (Roman m) size code = refl
metric_width (Japanese m) size code = jis_width (is_jis code) (jfm.measures_of m (class_in m.char_types code) size)

result_width : (r : Result Metric LoadFault) (size code : ℕ) → width_in r size code ≡ option_map (λ m. m.wd) (measures_in r size code)
result_width (Ok metric) size code = metric_width metric size code
result_width (Err fault) size code = refl

pub measured_widths : (held : List Held) (name : List ℕ) (size code : ℕ) → widths held name size code ≡ option_map (λ m. m.wd) (measures_held held name size code)
measured_widths held name size code = result_width (metric_named held name) size code

-- ---- a font more

and_all : (a b c d : Bool) → a ≡ true → b ≡ true → c ≡ true → d ≡ true → (a && (b && (c && d))) ≡ true
and_all a b c d is_a is_b is_c is_d = rw (is_a, is_b, is_c, is_d) refl

pub sound_font : (name file : List ℕ) (size : ℕ) (metric : Metric) → IsMetricName name file → 1 ≤ size → size < 8388608
    → is_sound_font (definition 0 (record { name = name; size = size; metric = metric })) ≡ true
unfolding is_sound_font
sound_font name file size metric named least most =
    and_all (is_file_name name) (is_file_name (with_ending metric_ending name)) (nat_le 1 size) (nat_lt size 8388608)
    named.spelt_well (rw (← named.is) named.file_well) (grind arith) (grind arith)

pub definable_grew : (old new : List Font) (font : Font) → GrewBy old font new → is_sound_font (definition 0 font) ≡ true → AreDefinable old → AreDefinable new
unfolding AreDefinable
definable_grew old new font (inl same) sound all = rw same all
definable_grew old new font (inr more) sound all = rw more (All-push (λ f. is_sound_font (definition 0 f) ≡ true) old font all sound)

pub held_grew : (held : List Held) (old new : List Font) (font : Font) → GrewBy old font new → metric_named held font.name ≡ Ok font.metric → AreAsHeld held old → AreAsHeld held new
unfolding AreAsHeld
held_grew held old new font (inl same) is all = rw same all
held_grew held old new font (inr more) is all = rw more (All-push (λ f. metric_named held f.name ≡ Ok f.metric) old font all is)
