-- What the bytes of the commands of a page say.
use Rattle.std.proofs.Common.{◌≡◌, ℕ, ◌^◌, ◌<◌, [], ◌∷◌, ◌++◌, Ok, refl, ap, arith, ℤ, pos, true}
use Rattle.std.specs.Prelude.{nat_le}
use Rattle.std.specs.Int.{w32, bytes_high_first}
use Rattle.std.specs.Int.RustNames.{FitsSigned}
use Rattle.ts_base.specs.Agreement.{◌>>=◌}
use Rattle.ts_geometry.specs.declared.direction.Dir.{Dir}
use Rattle.dvi_commands.specs.Commands as c
use Rattle.dvi_commands.specs.Commands.{command, command_after, mark_after, right_after, down_after, font_after, file_after}
use Rattle.dvi_commands.specs.Fields.{Field, with_sign, font_number}
use Rattle.dvi_commands.specs.Spelling.{four}
use Rattle.dvi_writer.specs.Saying.{number_of}
use Rattle.dvi_writer.proofs.Numbers.{unsigned_one, unsigned_alone, signed_alone, signed-again, signed_short}

pub says_right2 : (k : ℕ) (z : ℤ) → k < 2 ^ 16 → with_sign 2 k ≡ z → command (144 ∷ bytes_high_first 2 k) ≡ Ok (c.right z, [])
unfolding command command_after right_after
says_right2 k z lt e = ap (λ (x : Field ℤ). x >>= λ n. Ok (c.right n.0, n.1)) (signed_short k z lt e)

pub says_right4 : (z : ℤ) → FitsSigned w32 z → command (146 ∷ four z) ≡ Ok (c.right z, [])
unfolding command command_after right_after
says_right4 z fits = ap (λ (x : Field ℤ). x >>= λ n. Ok (c.right n.0, n.1)) (signed_alone z fits)

pub says_down2 : (k : ℕ) (z : ℤ) → k < 2 ^ 16 → with_sign 2 k ≡ z → command (158 ∷ bytes_high_first 2 k) ≡ Ok (c.down z, [])
unfolding command command_after down_after
says_down2 k z lt e = ap (λ (x : Field ℤ). x >>= λ n. Ok (c.down n.0, n.1)) (signed_short k z lt e)

pub says_down4 : (z : ℤ) → FitsSigned w32 z → command (160 ∷ four z) ≡ Ok (c.down z, [])
unfolding command command_after down_after
says_down4 z fits = ap (λ (x : Field ℤ). x >>= λ n. Ok (c.down n.0, n.1)) (signed_alone z fits)

pub says_turn : (dir : Dir) → command (255 ∷ number_of dir ∷ []) ≡ Ok (c.direction (number_of dir), [])
unfolding command command_after file_after
says_turn dir = refl

pub says_font : (n : ℕ) → command (235 ∷ n ∷ []) ≡ Ok (c.font (pos n), [])
unfolding command command_after font_after font_number
says_font n = rw (unsigned_one n []) refl

pub says_byte : (code : ℕ) → code < 128 → command (code ∷ []) ≡ Ok (c.set code, [])
unfolding command command_after mark_after
says_byte code lt =
    let a : nat_le code 137 ≡ true = grind arith in
    let b : nat_le code 127 ≡ true = grind arith in
    rw (a, b) refl

pub says_set2 : (code : ℕ) → code < 2 ^ 16 → command (129 ∷ bytes_high_first 2 code) ≡ Ok (c.set code, [])
unfolding command command_after mark_after
says_set2 code lt = ap (λ (x : Field ℕ). x >>= λ n. Ok (c.set n.0, n.1)) (unsigned_alone 2 code lt)

pub says_rule : (h w : ℤ) → FitsSigned w32 h → FitsSigned w32 w → command (132 ∷ (four h ++ four w)) ≡ Ok (c.set_rule h w, [])
unfolding command command_after mark_after
says_rule h w fh fw = rw (signed-again h (four w) fh, signed_alone w fw) refl
