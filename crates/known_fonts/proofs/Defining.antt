-- The definitions of fonts by their number.
use Rattle.std.proofs.Common.{◌≡◌, ◌∙◌, ℕ, suc, ◌+◌, List, [], ◌∷◌, ◌++◌, length, All, true, refl, ap, sym, arith}
use Rattle.std.proofs.lemmas.List.Elements.{All-nil, All-cons, All-head, All-tail}
use Rattle.dvi_commands.specs.declared.font.FontDef.{FontDef}
use Rattle.dvi_structure.specs.Structure.{is_sound_font}
use Rattle.shipping.specs.Boxes.{BeginsWith}
use Rattle.font_store.specs.declared.fonts.Font.{Font}
use Rattle.known_fonts.specs.Tables.{definition, definitions_from, definitions}
use Rattle.known_fonts.specs.Standing.{AreDefined, AreDefinable}

grown_from : (n : ℕ) (fonts more : List Font) → BeginsWith (definitions_from n (fonts ++ more)) (definitions_from n fonts)
grown_from n [] more = (definitions_from n more, refl)
grown_from n (f ∷ fonts) more =
    let rest = grown_from (n + 1) fonts more in
    (rest.0, ap (λ (ds : List FontDef). definition n f ∷ ds) rest.1)

pub grown_begins : (fonts more : List Font) → BeginsWith (definitions (fonts ++ more)) (definitions fonts)
unfolding definitions
grown_begins fonts more = grown_from 0 fonts more

-- The number has no part in it.
sound_as : (n : ℕ) (f : Font) → is_sound_font (definition n f) ≡ is_sound_font (definition 0 f)
unfolding is_sound_font
sound_as n f = refl

sound_from : (n : ℕ) (fonts : List Font) → All (λ f. is_sound_font (definition 0 f) ≡ true) fonts → All (λ d. is_sound_font d ≡ true) (definitions_from n fonts)
sound_from n [] sound = All-nil (λ d. is_sound_font d ≡ true)
sound_from n (f ∷ fonts) sound =
    All-cons (λ d. is_sound_font d ≡ true) (definition n f) (definitions_from (n + 1) fonts) (sound_as n f ∙ All-head (λ g. is_sound_font (definition 0 g) ≡ true) f fonts sound)
    (sound_from (n + 1) fonts (All-tail (λ g. is_sound_font (definition 0 g) ≡ true) f fonts sound))

pub all_sound : (fonts : List Font) → AreDefinable fonts → All (λ d. is_sound_font d ≡ true) (definitions fonts)
unfolding definitions AreDefinable
all_sound fonts sound = sound_from 0 fonts sound

each_from : (n : ℕ) (fonts : List Font) → length (definitions_from n fonts) ≡ length fonts
each_from n [] = refl
each_from n (f ∷ fonts) = ap (λ (k : ℕ). suc k) (each_from (n + 1) fonts)

pub one_each : (fonts : List Font) → length (definitions fonts) ≡ length fonts
unfolding definitions
one_each fonts = each_from 0 fonts

one_from : (n : ℕ) (fonts : List Font) (font : Font) → definitions_from n (fonts ++ font ∷ []) ≡ definitions_from n fonts ++ definition (n + length fonts) font ∷ []
one_from n [] font = ap (λ (k : ℕ). definition k font ∷ []) (let same : n ≡ n + 0 = omega arith in same)
one_from n (f ∷ fonts) font =
    let shift : n + 1 + length fonts ≡ n + length (f ∷ fonts) = omega arith in
    ap (λ (ds : List FontDef). definition n f ∷ ds) (one_from (n + 1) fonts font ∙ rw shift refl)

-- A font more is defined after the others.
pub one_defined : (fonts : List Font) (font : Font) → definitions (fonts ++ font ∷ []) ≡ definitions fonts ++ definition (length fonts) font ∷ []
unfolding definitions
one_defined fonts font = let same : 0 + length fonts ≡ length fonts = omega arith in
    one_from 0 fonts font ∙ ap (λ (k : ℕ). definitions_from 0 fonts ++ definition k font ∷ []) same

end_nil : (ds : List FontDef) → ds ++ [] ≡ ds
end_nil [] = refl
end_nil (d ∷ ds) = ap (λ (xs : List FontDef). d ∷ xs) (end_nil ds)

pub begins_itself : (ds : List FontDef) → BeginsWith ds ds
begins_itself ds = ([], sym (end_nil ds))

pub begins_more : (ds : List FontDef) (d : FontDef) → BeginsWith (ds ++ d ∷ []) ds
begins_more ds d = (d ∷ [], refl)

pub one_defined_as : (table : List FontDef) (fonts : List Font) (font : Font) (n : ℕ) → AreDefined table fonts → n ≡ length fonts → AreDefined (table ++ definition n font ∷ []) (fonts ++ font ∷ [])
one_defined_as table fonts font n defined is = rw (is, defined) (sym (one_defined fonts font))
