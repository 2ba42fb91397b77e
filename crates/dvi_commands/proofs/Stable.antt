-- What was read at the front of bytes is read again whatever follows them.
use Rattle.std.proofs.Common.{◌≡◌, ℕ, zero, suc, ◌-◌, ◌≤◌, List, [], ◌∷◌, ◌++◌, length, take, drop, Result, Ok, Err, refl, ap, arith, ℤ, pos, Bool, true, false, cond}
use Rattle.std.specs.Prelude.{nat_lt, nat_eq, nat_le, if◌then◌else◌}
use Rattle.std.proofs.lemmas.List.{length-append, take-append-le, drop-append-le}
use Rattle.std.proofs.lemmas.Bool.{ltb-false, le-ltb}
use Rattle.ts_base.specs.Agreement.{◌>>=◌}
use Rattle.dvi_commands.specs.declared.fault.DviKind.{DviKind}
use Rattle.dvi_commands.specs.declared.fault.DviKind.TheVariants.{Truncated, Opcode}
use Rattle.dvi_commands.specs.Fields.{Field, byte, text, value_after, unsigned, with_sign, signed, counts, font_number}
use Rattle.dvi_commands.specs.Commands as c
use Rattle.dvi_commands.specs.Commands.{Command, command, command_after, mark_after, group_after, right_after, down_after, font_after, font_def_after, file_after, pre_after, post_after}

pub record Stable {A : Type 0} (p : List ℕ → Field A) : Type 0 where
  pub again : (x y : List ℕ) (a : A) (r : List ℕ) → p x ≡ Ok (a, r) → p (x ++ y) ≡ Ok (a, r ++ y)

-- a first step and then a second that give y, where E is the faults
pub bound : {A B E : Type 0} (r : Result A E) (f : A → Result B E) (y : B) → (r >>= f) ≡ Ok y → (x : A) × (r ≡ Ok x) × (f x ≡ Ok y)
bound (Ok x) f y e = (x, refl, e)
bound (Err d) f y e = absurd cc

abbrev done : {A : Type 0} → A → Result A DviKind
done x = Ok x

abbrev pair : {A : Type 0} → A → List ℕ → Field A
pair a x = Ok (a, x)

ok_is : {A : Type 0} (x y : A) → done x ≡ done y → x ≡ y
ok_is x y e = cc

longer : {A : Type 0} (a b : A) (x r y : List ℕ) → pair a x ≡ pair b r → pair a (x ++ y) ≡ pair b (r ++ y)
longer {A = A} a b x r y e = let m : A × List ℕ = (a, x) in let n : A × List ℕ = (b, r) in ap (λ (t : A × List ℕ). pair t.0 (t.1 ++ y)) (ok_is m n e)

guard_ok : {A : Type 0} (b : Bool) (d : DviKind) (x y : A) → cond b (Err d) (Ok x) ≡ Ok y → (b ≡ false) × (x ≡ y)
guard_ok true d x y e = absurd cc
guard_ok false d x y e = (refl, cc)

Stable-ok : {A : Type 0} (a : A) → Stable (λ x. Ok (a, x))
Stable-ok a = record { again = λ x y b r e. longer a b x r y e }

Stable-err : {A : Type 0} (k : DviKind) → Stable {A = A} (λ x. Err k)
Stable-err k = record { again = λ x y b r e. absurd cc }

Stable-then : {A B : Type 0} (p : List ℕ → Field A) (q : A → List ℕ → Field B) → Stable p → ((a : A) → Stable (q a)) → Stable (λ x. p x >>= λ a. q a.0 a.1)
Stable-then p q hp hq = record {
  again = λ x y b r e.
      let s = bound (p x) (λ a. q a.0 a.1) (b, r) e in
      rw (hp.again x y s.0.0 s.0.1 s.1) ((hq s.0.0).again s.0.1 y b r s.2);
}

Stable-if : {A : Type 0} (b : Bool) (p q : List ℕ → Field A) → Stable p → Stable q → Stable (λ x. if b then p x else q x)
Stable-if true p q hp hq = hp
Stable-if false p q hp hq = hq

Stable-byte : Stable byte
Stable-byte = record { again = again }
  where
    again : (x y : List ℕ) (a : ℕ) (r : List ℕ) → byte x ≡ Ok (a, r) → byte (x ++ y) ≡ Ok (a, r ++ y)
    again [] y a r e = absurd cc
    again (b ∷ bs) y a r e = longer b a bs r y e

Stable-text : (len : ℕ) → Stable (text len)
Stable-text len = record {
  again = λ x y a r e.
      let g = guard_ok (nat_lt (length x) len) Truncated (take len x, drop len x) (a, r) e in
      let le : len ≤ length x = ltb-false _ _ g.0 in
      let long : nat_lt (length (x ++ y)) len ≡ false = le-ltb _ _ (omega (arith, length-append x y)) in
      let t : take len (x ++ y) ≡ take len x = take-append-le len x y le in
      let d : drop len (x ++ y) ≡ drop len x ++ y = drop-append-le len x y le in
      rw (long, t, d) (longer (take len x) a (drop len x) r y (ap done g.1));
}

Stable-unsigned : (len : ℕ) → Stable (unsigned len)
unfolding unsigned
Stable-unsigned len = Stable-then (text len) (λ t x. Ok (value_after 0 t, x)) (Stable-text len) (λ t. Stable-ok _)

Stable-signed : (len : ℕ) → Stable (signed len)
unfolding signed
Stable-signed len = Stable-then (unsigned len) (λ n x. Ok (with_sign len n, x)) (Stable-unsigned len) (λ n. Stable-ok _)

Stable-counts : (n : ℕ) → Stable (counts n)
unfolding counts
Stable-counts zero = Stable-ok []
Stable-counts (suc n) = Stable-then (signed 4) (λ f x. counts n x >>= λ os. Ok (f ∷ os.0, os.1)) (Stable-signed 4) (λ f. Stable-then (counts n) (λ os x. Ok (f ∷ os, x)) (Stable-counts n) (λ os. Stable-ok _))

Stable-font_number : (len : ℕ) → Stable (font_number len)
unfolding font_number
Stable-font_number len = Stable-if (nat_eq len 4) _ _ (Stable-signed 4) (Stable-then (unsigned len) (λ n x. Ok (pos n, x)) (Stable-unsigned len) (λ n. Stable-ok _))

Stable-font_def : (number : ℤ) → Stable (font_def_after number)
unfolding font_def_after
Stable-font_def number = Stable-then (unsigned 4) _ (Stable-unsigned 4) (λ check_sum. Stable-then (unsigned 4) _ (Stable-unsigned 4) (λ size. Stable-then (unsigned 4) _ (Stable-unsigned 4) (λ design.
    Stable-then byte _ Stable-byte (λ area_len. Stable-then byte _ Stable-byte (λ name_len. Stable-then (text area_len) _ (Stable-text area_len) (λ area. Stable-then (text name_len) _ (Stable-text name_len) (λ name. Stable-ok _)))))))

Stable-pre : Stable pre_after
unfolding pre_after
Stable-pre = Stable-then byte _ Stable-byte (λ id. Stable-then (unsigned 4) _ (Stable-unsigned 4) (λ num. Stable-then (unsigned 4) _ (Stable-unsigned 4) (λ den. Stable-then (unsigned 4) _ (Stable-unsigned 4) (λ mag.
    Stable-then byte _ Stable-byte (λ len. Stable-then (text len) _ (Stable-text len) (λ comment. Stable-ok _))))))

Stable-post : Stable post_after
unfolding post_after
Stable-post = Stable-then (signed 4) _ (Stable-signed 4) (λ back. Stable-then (unsigned 4) _ (Stable-unsigned 4) (λ num. Stable-then (unsigned 4) _ (Stable-unsigned 4) (λ den. Stable-then (unsigned 4) _ (Stable-unsigned 4) (λ mag.
    Stable-then (unsigned 4) _ (Stable-unsigned 4) (λ height. Stable-then (unsigned 4) _ (Stable-unsigned 4) (λ width. Stable-then (unsigned 2) _ (Stable-unsigned 2) (λ stack. Stable-then (unsigned 2) _ (Stable-unsigned 2) (λ pages. Stable-ok _))))))))

-- a command with one number
Stable-one : {A : Type 0} (p : List ℕ → Field A) (f : A → Command) → Stable p → Stable (λ x. p x >>= λ n. Ok (f n.0, n.1))
Stable-one p f h = Stable-then p (λ n x. Ok (f n, x)) h (λ n. Stable-ok _)

Stable-rule : (f : ℤ → ℤ → Command) → Stable (λ x. signed 4 x >>= λ height. signed 4 height.1 >>= λ width. Ok (f height.0 width.0, width.1))
Stable-rule f = Stable-then (signed 4) _ (Stable-signed 4) (λ height. Stable-one (signed 4) (f height) (Stable-signed 4))

Stable-mark : (op : ℕ) → Stable (mark_after op)
unfolding mark_after
Stable-mark op =
    Stable-if (nat_le op 127) _ _ (Stable-ok _)
    (Stable-if (nat_le op 131) _ _ (Stable-one (unsigned (op - 127)) c.set (Stable-unsigned _))
    (Stable-if (nat_eq op 132) _ _ (Stable-rule c.set_rule)
    (Stable-if (nat_le op 136) _ _ (Stable-one (unsigned (op - 132)) c.put (Stable-unsigned _))
    (Stable-rule c.put_rule))))

Stable-group : (op : ℕ) → Stable (group_after op)
unfolding group_after
Stable-group op =
    Stable-if (nat_eq op 138) _ _ (Stable-ok _)
    (Stable-if (nat_eq op 139) _ _ (Stable-then (counts 10) _ (Stable-counts 10) (λ cs. Stable-one (signed 4) (c.bop cs) (Stable-signed 4)))
    (Stable-if (nat_eq op 140) _ _ (Stable-ok _)
    (Stable-if (nat_eq op 141) _ _ (Stable-ok _)
    (Stable-ok _))))

Stable-right : (op : ℕ) → Stable (right_after op)
unfolding right_after
Stable-right op =
    Stable-if (nat_le op 146) _ _ (Stable-one (signed (op - 142)) c.right (Stable-signed _))
    (Stable-if (nat_eq op 147) _ _ (Stable-ok _)
    (Stable-if (nat_le op 151) _ _ (Stable-one (signed (op - 147)) c.w (Stable-signed _))
    (Stable-if (nat_eq op 152) _ _ (Stable-ok _)
    (Stable-one (signed (op - 152)) c.x (Stable-signed _)))))

Stable-down : (op : ℕ) → Stable (down_after op)
unfolding down_after
Stable-down op =
    Stable-if (nat_le op 160) _ _ (Stable-one (signed (op - 156)) c.down (Stable-signed _))
    (Stable-if (nat_eq op 161) _ _ (Stable-ok _)
    (Stable-if (nat_le op 165) _ _ (Stable-one (signed (op - 161)) c.y (Stable-signed _))
    (Stable-if (nat_eq op 166) _ _ (Stable-ok _)
    (Stable-one (signed (op - 166)) c.z (Stable-signed _)))))

Stable-font : (op : ℕ) → Stable (font_after op)
unfolding font_after
Stable-font op =
    Stable-if (nat_le op 234) _ _ (Stable-ok _)
    (Stable-if (nat_le op 238) _ _ (Stable-one (font_number (op - 234)) c.font (Stable-font_number _))
    (Stable-if (nat_le op 242) _ _ (Stable-then (unsigned (op - 238)) _ (Stable-unsigned _) (λ len. Stable-one (text len) c.xxx (Stable-text len)))
    (Stable-then (font_number (op - 242)) font_def_after (Stable-font_number _) Stable-font_def)))

Stable-file : (op : ℕ) → Stable (file_after op)
unfolding file_after
Stable-file op =
    Stable-if (nat_eq op 247) _ _ Stable-pre
    (Stable-if (nat_eq op 248) _ _ Stable-post
    (Stable-if (nat_eq op 249) _ _ (Stable-then (signed 4) _ (Stable-signed 4) (λ p. Stable-one byte (c.post_post p) Stable-byte))
    (Stable-if (nat_eq op 255) _ _ (Stable-one byte c.direction Stable-byte)
    (Stable-err Opcode))))

Stable-command_after : (op : ℕ) → Stable (command_after op)
unfolding command_after
Stable-command_after op =
    Stable-if (nat_le op 137) _ _ (Stable-mark op)
    (Stable-if (nat_le op 142) _ _ (Stable-group op)
    (Stable-if (nat_le op 156) _ _ (Stable-right op)
    (Stable-if (nat_le op 170) _ _ (Stable-down op)
    (Stable-if (nat_le op 246) _ _ (Stable-font op)
    (Stable-file op)))))

pub Stable-command : Stable command
unfolding command
Stable-command = Stable-then byte _ Stable-byte Stable-command_after
