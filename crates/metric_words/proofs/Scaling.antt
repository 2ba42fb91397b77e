-- A fix word within 16 of 0 is at each size within 16 times that size.
use Rattle.std.proofs.Common.{◌≡◌, ℕ, zero, suc, ◌*◌, ◌≤◌, ◌<◌, true, ℤ, pos, negsuc, neg_ℤ, arith, List, length, map, get_or, refl}
use Rattle.ts_geometry.specs.Numbers.{floor_div, scale}
use Rattle.std.proofs.Math.Nat.{mul-le-mul_right}
use Rattle.std.proofs.lemmas.Bool.Decides.{nat_tests}
use Rattle.std.proofs.lemmas.Int.{ints}
use Rattle.std.proofs.lemmas.List.{get_or-map}
use Rattle.metric_words.specs.declared.characters.CharInfo.{CharInfo}
use Rattle.metric_words.specs.Characters.{Character, character_in, character_at, measures_at, no_character}
use Rattle.metric_words.specs.Sound.{is_fix, has_fix_measures, AreWithin}
use Rattle.ts_geometry.specs.Numbers.{IsWithin}

-- below 0 the quotient is rounded away from 0
pub negative-within : (p z : ℕ) → p ≤ 16777216 * z → IsWithin (16 * z) (floor_div (neg_ℤ (pos p)) 1048576)
negative-within zero z h = (omega (arith, ints), omega (arith, ints))
negative-within (suc q) z h = (omega (arith, ints), omega (arith, ints))

pub scaled_within : (f : ℤ) (z : ℕ) → is_fix f ≡ true → IsWithin (16 * z) (scale f z)
scaled_within (pos n) z h =
    let small : n ≤ 16777216 = grind (arith, nat_tests) in
    let product = mul-le-mul_right z small in
    (omega (arith, ints), omega (arith, ints))
scaled_within (negsuc n) z h =
    let small : suc n ≤ 16777216 = grind (arith, nat_tests) in
    negative-within (suc n * z) z (mul-le-mul_right z small)

pub measures_within : (c : Character) (z : ℕ) → has_fix_measures c ≡ true → AreWithin (16 * z) (measures_at c z)
measures_within c z h = record {
  wd = scaled_within c.width z (grind (arith, nat_tests));
  ht = scaled_within c.height z (grind (arith, nat_tests));
  dp = scaled_within c.depth z (grind (arith, nat_tests));
}

-- a character, by its places in the tables
pub character-places : (characters : List Character) (infos : List CharInfo) (widths heights depths : List ℤ) (at : ℕ) (info : CharInfo)
    → at < length infos → map (character_in widths heights depths) infos ≡ characters → info ≡ get_or infos at info
    → character_at characters at ≡ character_in widths heights depths info
character-places characters infos widths heights depths at info within are is =
    rw (← are, get_or-map (character_in widths heights depths) infos at info no_character within, ← is) refl
