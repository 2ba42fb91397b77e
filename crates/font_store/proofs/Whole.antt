-- Metrics that files spell are whole.
use Rattle.std.proofs.Common.{◌≡◌, ℕ, Bool, true, false, List, [], ◌∷◌, All, Option, Some, None, Result, Ok, Err, if◌then◌else◌, refl}
use Rattle.std.proofs.lemmas.List.Elements.{All-weaker}
use Rattle.ts_base.specs.Agreement.{◌>>=◌, with_fault}
use Rattle.ts_geometry.specs.declared.fault.MetricFault.{MetricFault}
use Rattle.ts_outside.specs.States.{Held}
use Rattle.ts_outside.specs.Reading.{bytes_of}
use Rattle.ts_outside.specs.Endings.{with_ending, metric_ending}
use Rattle.jis_codes.specs.Kuten.{Kuten, IsKuten}
use Rattle.metric_words.specs.Lengths.{begins_as_jfm}
use Rattle.tfm_load.specs.Metrics as tfm
use Rattle.tfm_load.specs.Sound.{HasItsLigatures}
use Rattle.jfm_load.specs.Metrics as jfm
use Rattle.font_store.specs.declared.metric.Metric.{Metric}
use Rattle.font_store.specs.declared.metric.Metric.TheVariants.{Roman, Japanese}
use Rattle.font_store.specs.declared.fonts.Font.{Font}
use Rattle.font_store.specs.declared.loading.LoadFault.{LoadFault}
use Rattle.font_store.specs.Metrics.{metric_of}
use Rattle.font_store.specs.Loading.{load_fault, loaded_from, loaded}
use Rattle.font_store.specs.Widths.{metric_named}
use Rattle.font_store.specs.Measures.{IsWhole, AreWhole, SpeltAreWhole, NamedAreWhole, FontsAreWhole, CellsHaveTheirMeasures}
use Rattle.font_store.proofs.Glyphs.{cell_is_jis}

pub cells_measured : CellsHaveTheirMeasures
cells_measured m size cell there = rw (cell_is_jis cell there) refl

-- what the reader of European metrics says
abbrev pub HaveLigatures : Type 0
HaveLigatures = (file : List ℕ) (m : tfm.Metric) → tfm.metric_of file ≡ Ok m → HasItsLigatures m

japanese_whole : (r : Result jfm.Metric MetricFault) (metric : Metric) → (r >>= λ m. Ok (Japanese m)) ≡ Ok metric → IsWhole metric
japanese_whole (Ok m) metric h = let same : Japanese m ≡ metric = cc in rw (← same) tt
japanese_whole (Err fault) metric h = absurd cc

roman_whole : (r : Result tfm.Metric MetricFault) → ((m : tfm.Metric) → r ≡ Ok m → HasItsLigatures m)
    → (metric : Metric) → (r >>= λ m. Ok (Roman m)) ≡ Ok metric → IsWhole metric
roman_whole (Ok m) given metric h = let same : Roman m ≡ metric = cc in rw (← same) (given m refl)
roman_whole (Err fault) given metric h = absurd cc

either_whole : HaveLigatures → (bytes : List ℕ) (b : Bool) (metric : Metric)
    → (if b then (jfm.metric_of bytes >>= λ m. Ok (Japanese m)) else (tfm.metric_of bytes >>= λ m. Ok (Roman m))) ≡ Ok metric → IsWhole metric
either_whole given bytes true metric h = japanese_whole (jfm.metric_of bytes) metric h
either_whole given bytes false metric h = roman_whole (tfm.metric_of bytes) (given bytes) metric h

pub spelt_whole : HaveLigatures → SpeltAreWhole
spelt_whole given bytes metric h = either_whole given bytes (begins_as_jfm bytes) metric h

unfaulted : (r : Result Metric MetricFault) (metric : Metric) → with_fault load_fault r ≡ Ok metric → r ≡ Ok metric
unfaulted (Ok m) metric h = let same : m ≡ metric = cc in rw same refl
unfaulted (Err fault) metric h = absurd cc

from_whole : HaveLigatures → (o : Option (List ℕ)) (metric : Metric) → loaded_from o ≡ Ok metric → IsWhole metric
from_whole given None metric h = absurd cc
from_whole given (Some bytes) metric h = spelt_whole given bytes metric (unfaulted (metric_of bytes) metric h)

pub named_whole : HaveLigatures → NamedAreWhole
named_whole given held name metric h = from_whole given (bytes_of held (with_ending metric_ending name)) metric h

pub fonts_whole : HaveLigatures → FontsAreWhole
unfolding AreWhole
fonts_whole given held fonts all =
    All-weaker (λ (font : Font). metric_named held font.name ≡ Ok font.metric) (λ (font : Font). IsWhole font.metric)
    (λ font h. named_whole given held font.name font.metric h) fonts all
