-- Bytes that are put at the end of others, and the commands that they say.
use Rattle.std.proofs.Common.{◌≡◌, ℕ, ◌^◌, ◌<◌, ◌≤◌, List, [], ◌∷◌, ◌++◌, length, Ok, refl, sym, ap, ◌∙◌, append_assoc, arith, ℤ, pos, length-append}
use Rattle.std.specs.Int.{w32, bytes_high_first}
use Rattle.std.specs.Int.RustNames.{FitsSigned}
use Rattle.std.proofs.lemmas.List.{append-nil}
use Rattle.byteorder.specs.Endian.{big_bytes}
use Rattle.ts_geometry.specs.declared.direction.Dir.{Dir}
use Rattle.dvi_commands.specs.Commands as c
use Rattle.dvi_commands.specs.Commands.{Command, command}
use Rattle.dvi_commands.specs.Fields.{with_sign, signed_bytes}
use Rattle.dvi_commands.specs.Spelling.{Spells, four}
use Rattle.dvi_writer.specs.Saying.{number_of}
use Rattle.dvi_writer.specs.Wrote.{Wrote}
use Rattle.dvi_writer.proofs.Numbers.{length-bytes}
use Rattle.dvi_writer.proofs.Says.{says_right2, says_right4, says_down2, says_down4, says_turn, says_font, says_byte, says_set2, says_rule}

-- ---- joining

pub spells_join : (cs ds : List Command) (x y : List ℕ) → Spells x cs → Spells y ds → Spells (x ++ y) (cs ++ ds)
spells_join [] ds x y s t = rw s t
spells_join (d ∷ cs) ds x y s t = (s.0, s.1 ++ y, rw s.2 (append_assoc s.0 s.1 y), s.3, spells_join cs ds s.1 y s.4 t)

pub wrote_none : (x : List ℕ) → Wrote x x []
wrote_none x = record { more = []; is = sym (append-nil x); spelt = refl; few = omega arith }

pub wrote_then : (x y z : List ℕ) (cs ds : List Command) → Wrote x y cs → Wrote y z ds → Wrote x z (cs ++ ds)
wrote_then x y z cs ds w v = record {
  more = w.more ++ v.more;
  is = v.is ∙ ap (λ (t : List ℕ). t ++ v.more) w.is ∙ append_assoc x w.more v.more;
  spelt = spells_join cs ds w.more v.more w.spelt v.spelt;
  few = let f = w.few in let g = v.few in omega (arith, length-append w.more v.more, length-append cs ds);
}

pub wrote_four : (v w x y z : List ℕ) (fs bs cs ds : List Command) → Wrote v w fs → Wrote w x bs → Wrote x y cs → Wrote y z ds → Wrote v z (fs ++ (bs ++ (cs ++ ds)))
wrote_four v w x y z fs bs cs ds a b c d = wrote_then v w z fs (bs ++ (cs ++ ds)) a (wrote_then w x z bs (cs ++ ds) b (wrote_then x y z cs ds c d))

pub wrote_one : (x z more : List ℕ) (cmd : Command) → z ≡ x ++ more → command more ≡ Ok (cmd, []) → length more ≤ 9 → Wrote x z (cmd ∷ [])
wrote_one x z more cmd e says few = record {
  more = more;
  is = e;
  spelt = (more, [], sym (append-nil more), says, refl);
  few = omega arith;
}

both : (x y z a b : List ℕ) → y ≡ x ++ a → z ≡ y ++ b → z ≡ x ++ (a ++ b)
both x y z a b e f = f ∙ ap (λ (t : List ℕ). t ++ b) e ∙ append_assoc x a b

-- ---- commands

pub wrote_turn : (x z : List ℕ) (dir : Dir) (n : ℕ) → n ≡ number_of dir → z ≡ x ++ 255 ∷ n ∷ [] → Wrote x z (c.direction (number_of dir) ∷ [])
wrote_turn x z dir n e f = wrote_one x z (255 ∷ number_of dir ∷ []) _ (f ∙ ap (λ (k : ℕ). x ++ 255 ∷ k ∷ []) e) (says_turn dir) (omega arith)

pub wrote_right2 : (x y z : List ℕ) (k : ℕ) (n : ℤ) → y ≡ x ++ 144 ∷ [] → z ≡ y ++ big_bytes 2 k → k < 2 ^ 16 → with_sign 2 k ≡ n → Wrote x z (c.right n ∷ [])
wrote_right2 x y z k n e f lt is = wrote_one x z (144 ∷ bytes_high_first 2 k) _ (both x y z _ _ e f) (says_right2 k n lt is) (omega (arith, length-bytes 2 k))

pub wrote_down2 : (x y z : List ℕ) (k : ℕ) (n : ℤ) → y ≡ x ++ 158 ∷ [] → z ≡ y ++ big_bytes 2 k → k < 2 ^ 16 → with_sign 2 k ≡ n → Wrote x z (c.down n ∷ [])
wrote_down2 x y z k n e f lt is = wrote_one x z (158 ∷ bytes_high_first 2 k) _ (both x y z _ _ e f) (says_down2 k n lt is) (omega (arith, length-bytes 2 k))

pub wrote_right4 : (x y z : List ℕ) (n : ℤ) → y ≡ x ++ 146 ∷ [] → z ≡ y ++ signed_bytes n → FitsSigned w32 n → Wrote x z (c.right n ∷ [])
wrote_right4 x y z n e f fits = wrote_one x z (146 ∷ four n) _ (both x y z _ _ e f) (says_right4 n fits) (omega arith)

pub wrote_down4 : (x y z : List ℕ) (n : ℤ) → y ≡ x ++ 160 ∷ [] → z ≡ y ++ signed_bytes n → FitsSigned w32 n → Wrote x z (c.down n ∷ [])
wrote_down4 x y z n e f fits = wrote_one x z (160 ∷ four n) _ (both x y z _ _ e f) (says_down4 n fits) (omega arith)

pub wrote_font : (x z : List ℕ) (n : ℕ) → z ≡ x ++ 235 ∷ n ∷ [] → Wrote x z (c.font (pos n) ∷ [])
wrote_font x z n e = wrote_one x z (235 ∷ n ∷ []) _ e (says_font n) (omega arith)

pub wrote_byte : (x z : List ℕ) (code : ℕ) → z ≡ x ++ code ∷ [] → code < 128 → Wrote x z (c.set code ∷ [])
wrote_byte x z code e lt = wrote_one x z (code ∷ []) _ e (says_byte code lt) (omega arith)

pub wrote_set2 : (x y z : List ℕ) (code : ℕ) → y ≡ x ++ 129 ∷ [] → z ≡ y ++ big_bytes 2 code → code < 2 ^ 16 → Wrote x z (c.set code ∷ [])
wrote_set2 x y z code e f lt = wrote_one x z (129 ∷ bytes_high_first 2 code) _ (both x y z _ _ e f) (says_set2 code lt) (omega arith)

pub wrote_rule : (x y z w : List ℕ) (height width : ℤ) → y ≡ x ++ 132 ∷ [] → z ≡ y ++ signed_bytes height → w ≡ z ++ signed_bytes width → FitsSigned w32 height → FitsSigned w32 width → Wrote x w (c.set_rule height width ∷ [])
wrote_rule x y z w height width e f g fh fw =
    wrote_one x w (132 ∷ (four height ++ four width)) _ (both x y w (132 ∷ []) _ e (both y z w _ _ f g)) (says_rule height width fh fw) (omega arith)
