-- Store and environment number fonts alike.
use Rattle.std.proofs.Common.{◌≡◌, ◌∙◌, ℕ, suc, ◌<◌, Bool, true, false, Option, Some, None, cond, List, [], ◌∷◌, ◌++◌, length, map, refl, ap, arith}
use Rattle.std.specs.Prelude.{nat_lt, nat_le, Result, Ok, Err}
use Rattle.env_groups.specs.declared.fault.EnvFault.{EnvFault}
use Rattle.env_groups.specs.declared.fault.EnvFault.TheVariants.{FontsFull}
use Rattle.std.specs.Option.{option_map}
use Rattle.std.specs.List.{position_or_len}
use Rattle.box_tree.specs.declared.item.FontNo.{FontNo}
use Rattle.font_store.specs.Store.{is_font, font_no, number_of}
use Rattle.env_groups.specs.declared.font.FontFacts.{FontFacts}
use Rattle.env_groups.specs.Environments.{Nest, next_font}
use Rattle.font_store.specs.declared.fonts.Font.{Font}
use Rattle.known_fonts.specs.Metrics.{facts_in}
use Rattle.known_fonts.specs.Placing.{with_facts}
use Rattle.known_fonts.specs.Standing.{AreNumbered}

facts_length : (fonts : List Font) → length (map facts_in fonts) ≡ length fonts
facts_length [] = refl
facts_length (f ∷ fonts) = ap (λ (k : ℕ). suc k) (facts_length fonts)

pub as_many : (nest : Nest) (fonts : List Font) → AreNumbered nest fonts → length nest.fonts ≡ length fonts
as_many nest fonts numbered = ap (λ (fs : List FontFacts). length fs) numbered ∙ facts_length fonts

facts_added : (fonts : List Font) (font : Font) → map facts_in fonts ++ facts_in font ∷ [] ≡ map facts_in (fonts ++ font ∷ [])
facts_added [] font = refl
facts_added (f ∷ fonts) font = ap (λ (fs : List FontFacts). facts_in f ∷ fs) (facts_added fonts font)

pub one_more : (nest : Nest) (fonts : List Font) (font : Font) → AreNumbered nest fonts → AreNumbered (with_facts nest font) (fonts ++ font ∷ [])
one_more nest fonts font numbered = ap (λ (fs : List FontFacts). fs ++ facts_in font ∷ []) numbered ∙ facts_added fonts font

within_by : (b : Bool) (k n : ℕ) (number : FontNo) → nat_lt k n ≡ b → option_map font_no (cond b (Some k) None) ≡ Some number → number.0 < n
within_by true k n number less is = let same : k ≡ number.0 = cc in rw (← same) (grind arith)
within_by false k n number less is = cc

-- A number that is found is that of a font.
pub found_within : (fonts : List Font) (name : List ℕ) (size : ℕ) (number : FontNo) → number_of fonts name size ≡ Some number → number.0 < length fonts
found_within fonts name size number is = within_by (nat_lt (position_or_len (is_font name size) fonts) (length fonts)) (position_or_len (is_font name size) fonts) (length fonts) number refl is

-- ---- the next number

abbrev next_by : Bool → ℕ → Result FontNo EnvFault
next_by b n = cond b (Err FontsFull) (Ok (font_no n))

next_if : (b : Bool) (n : ℕ) (number : FontNo) → nat_le 255 n ≡ b → next_by b n ≡ Ok number → (n < 255) × (number.0 ≡ n)
next_if true n number full is = cc
next_if false n number room is = let same : font_no n ≡ number = cc in (grind arith, rw (← same) refl)

next_is : (nest : Nest) (number : FontNo) → next_font nest ≡ Ok number → (length nest.fonts < 255) × (number.0 ≡ length nest.fonts)
next_is nest number is = next_if (nat_le 255 (length nest.fonts)) (length nest.fonts) number refl is

pub room : (nest : Nest) (fonts : List Font) (number : FontNo) → AreNumbered nest fonts → next_font nest ≡ Ok number → length fonts < 255
room nest fonts number numbered is = rw (← as_many nest fonts numbered) (next_is nest number is).0

pub numbered_as : (nest : Nest) (fonts : List Font) (number : FontNo) → AreNumbered nest fonts → next_font nest ≡ Ok number → number.0 ≡ length fonts
numbered_as nest fonts number numbered is = (next_is nest number is).1 ∙ as_many nest fonts numbered
