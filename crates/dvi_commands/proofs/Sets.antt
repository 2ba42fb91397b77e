-- Characters are set by opcodes up to 131 alone.
use Rattle.std.proofs.Common.{◌≡◌, ℕ, ◌-◌, ◌<◌, List, Ok, Err, None, refl, arith, ℤ, Bool, true, false}
use Rattle.std.specs.Prelude.{nat_le, nat_eq, if◌then◌else◌}
use Rattle.ts_base.specs.Agreement.{◌>>=◌}
use Rattle.dvi_commands.specs.Fields.{Field, byte, text, unsigned, signed, counts, font_number}
use Rattle.dvi_commands.specs.Commands as c
use Rattle.dvi_commands.specs.Commands.{Command, command, command_after, mark_after, group_after, right_after, down_after, font_after, font_def_after, file_after, pre_after, post_after}
use Rattle.dvi_commands.specs.Next.{set_with, set_first}

record Unset (r : Field Command) : Type 0 where
  none : set_first r ≡ None

unset_if : (b : Bool) (p q : Field Command) → Unset p → Unset q → Unset (if b then p else q)
unset_if true p q h k = h
unset_if false p q h k = k

unset_then : {A : Type 0} (p : Field A) (f : A × List ℕ → Field Command) → ((a : A × List ℕ) → Unset (f a)) → Unset (p >>= f)
unset_then (Ok a) f h = h a
unset_then (Err k) f h = record { none = refl }

-- a command that sets no character
leaf : (cmd : Command) (rest : List ℕ) → set_with cmd rest ≡ None → Unset (Ok (cmd, rest))
leaf cmd rest e = record { none = e }

-- a command with one number
unset_one : {A : Type 0} (p : Field A) (f : A → Command) → ((a : A) (rest : List ℕ) → set_with (f a) rest ≡ None) → Unset (p >>= λ n. Ok (f n.0, n.1))
unset_one p f h = unset_then p _ (λ a. leaf (f a.0) a.1 (h a.0 a.1))

unset_rule : (f : ℤ → ℤ → Command) (bytes : List ℕ) → ((a b : ℤ) (rest : List ℕ) → set_with (f a b) rest ≡ None) → Unset (signed 4 bytes >>= λ height. signed 4 height.1 >>= λ width. Ok (f height.0 width.0, width.1))
unset_rule f bytes h = unset_then (signed 4 bytes) _ (λ a. unset_one (signed 4 a.1) (f a.0) (h a.0))

unset_mark : (op : ℕ) (bytes : List ℕ) → 131 < op → Unset (mark_after op bytes)
unfolding mark_after
unset_mark op bytes lt =
    let low : nat_le op 127 ≡ false = grind arith in
    let high : nat_le op 131 ≡ false = grind arith in
    rw (low, high)
    (unset_if (nat_eq op 132) _ _ (unset_rule c.set_rule bytes (λ a b rest. refl))
    (unset_if (nat_le op 136) _ _ (unset_one (unsigned (op - 132) bytes) c.put (λ a rest. refl))
    (unset_rule c.put_rule bytes (λ a b rest. refl))))

unset_group : (op : ℕ) (bytes : List ℕ) → Unset (group_after op bytes)
unfolding group_after
unset_group op bytes =
    unset_if (nat_eq op 138) _ _ (leaf c.nop bytes refl)
    (unset_if (nat_eq op 139) _ _ (unset_then (counts 10 bytes) _ (λ cs. unset_one (signed 4 cs.1) (c.bop cs.0) (λ a rest. refl)))
    (unset_if (nat_eq op 140) _ _ (leaf c.eop bytes refl)
    (unset_if (nat_eq op 141) _ _ (leaf c.push bytes refl)
    (leaf c.pop bytes refl))))

unset_right : (op : ℕ) (bytes : List ℕ) → Unset (right_after op bytes)
unfolding right_after
unset_right op bytes =
    unset_if (nat_le op 146) _ _ (unset_one (signed (op - 142) bytes) c.right (λ a rest. refl))
    (unset_if (nat_eq op 147) _ _ (leaf c.w0 bytes refl)
    (unset_if (nat_le op 151) _ _ (unset_one (signed (op - 147) bytes) c.w (λ a rest. refl))
    (unset_if (nat_eq op 152) _ _ (leaf c.x0 bytes refl)
    (unset_one (signed (op - 152) bytes) c.x (λ a rest. refl)))))

unset_down : (op : ℕ) (bytes : List ℕ) → Unset (down_after op bytes)
unfolding down_after
unset_down op bytes =
    unset_if (nat_le op 160) _ _ (unset_one (signed (op - 156) bytes) c.down (λ a rest. refl))
    (unset_if (nat_eq op 161) _ _ (leaf c.y0 bytes refl)
    (unset_if (nat_le op 165) _ _ (unset_one (signed (op - 161) bytes) c.y (λ a rest. refl))
    (unset_if (nat_eq op 166) _ _ (leaf c.z0 bytes refl)
    (unset_one (signed (op - 166) bytes) c.z (λ a rest. refl)))))

unset_font_def : (number : ℤ) (bytes : List ℕ) → Unset (font_def_after number bytes)
unfolding font_def_after
unset_font_def number bytes = unset_then (unsigned 4 bytes) _ (λ check_sum. unset_then (unsigned 4 check_sum.1) _ (λ size. unset_then (unsigned 4 size.1) _ (λ design.
    unset_then (byte design.1) _ (λ area_len. unset_then (byte area_len.1) _ (λ name_len. unset_then (text area_len.0 name_len.1) _ (λ area. unset_then (text name_len.0 area.1) _ (λ name. leaf _ name.1 refl)))))))

unset_font : (op : ℕ) (bytes : List ℕ) → Unset (font_after op bytes)
unfolding font_after
unset_font op bytes =
    unset_if (nat_le op 234) _ _ (leaf _ bytes refl)
    (unset_if (nat_le op 238) _ _ (unset_one (font_number (op - 234) bytes) c.font (λ a rest. refl))
    (unset_if (nat_le op 242) _ _ (unset_then (unsigned (op - 238) bytes) _ (λ len. unset_one (text len.0 len.1) c.xxx (λ a rest. refl)))
    (unset_then (font_number (op - 242) bytes) _ (λ n. unset_font_def n.0 n.1))))

unset_pre : (bytes : List ℕ) → Unset (pre_after bytes)
unfolding pre_after
unset_pre bytes = unset_then (byte bytes) _ (λ id. unset_then (unsigned 4 id.1) _ (λ num. unset_then (unsigned 4 num.1) _ (λ den. unset_then (unsigned 4 den.1) _ (λ mag.
    unset_then (byte mag.1) _ (λ len. unset_then (text len.0 len.1) _ (λ comment. leaf _ comment.1 refl))))))

unset_post : (bytes : List ℕ) → Unset (post_after bytes)
unfolding post_after
unset_post bytes = unset_then (signed 4 bytes) _ (λ back. unset_then (unsigned 4 back.1) _ (λ num. unset_then (unsigned 4 num.1) _ (λ den. unset_then (unsigned 4 den.1) _ (λ mag.
    unset_then (unsigned 4 mag.1) _ (λ height. unset_then (unsigned 4 height.1) _ (λ width. unset_then (unsigned 2 width.1) _ (λ stack. unset_then (unsigned 2 stack.1) _ (λ pages. leaf _ pages.1 refl))))))))

unset_file : (op : ℕ) (bytes : List ℕ) → Unset (file_after op bytes)
unfolding file_after
unset_file op bytes =
    unset_if (nat_eq op 247) _ _ (unset_pre bytes)
    (unset_if (nat_eq op 248) _ _ (unset_post bytes)
    (unset_if (nat_eq op 249) _ _ (unset_then (signed 4 bytes) _ (λ p. unset_one (byte p.1) (c.post_post p.0) (λ a rest. refl)))
    (unset_if (nat_eq op 255) _ _ (unset_one (byte bytes) c.direction (λ a rest. refl))
    (record { none = refl }))))

unset : (op : ℕ) (bytes : List ℕ) → 131 < op → Unset (command_after op bytes)
unfolding command_after
unset op bytes lt =
    unset_if (nat_le op 137) _ _ (unset_mark op bytes lt)
    (unset_if (nat_le op 142) _ _ (unset_group op bytes)
    (unset_if (nat_le op 156) _ _ (unset_right op bytes)
    (unset_if (nat_le op 170) _ _ (unset_down op bytes)
    (unset_if (nat_le op 246) _ _ (unset_font op bytes)
    (unset_file op bytes)))))

pub none_set : (op : ℕ) (bytes : List ℕ) → 131 < op → set_first (command_after op bytes) ≡ None
none_set op bytes lt = (unset op bytes lt).none
