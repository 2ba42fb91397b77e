use Rattle.std.proofs.Common.{refl, ap, ◌∙◌, arith}
use Rattle.tok_lists.proofs.Rests.{read_on, read_whole, unread_on, unread_whole, none_is_empty}
use Rattle.tok_lists.proofs.pending.take_next.Goals as goal
use Rattle.tok_lists.proofs.pending.take_next.Goals.{then-len-eq0, else-len-eq0}

pub returns-in_err-token-clause-token : goal.returns-in_err-token-clause-token
returns-in_err-token-clause-token c =
    let some = c.in_ok-cursor.ensures.variant.0 refl in
    absurd (none_is_empty _ _ _ c.next.new.self (omega (arith, c.args.cursors.now.ok.0, some)) c.in_ok-cursor.ensures.value c.requires c.in_err-token.ensures.0)

pub returns-clause-token : goal.returns-clause-token
returns-clause-token c =
    let some = c.in_ok-cursor.ensures.variant.0 refl in
    elim c.if-len-eq0.branch [
      | then-len-eq0 w ↦ read_whole _ _ _ c.next.new.self (omega (arith, c.args.cursors.now.ok.0, some)) c.in_ok-cursor.ensures.value _ _ c.in_ok-token.ensures (omega (arith, c.len.ensures))
          (ap (λ v. v.items) w.cursors-is ∙ w.drop_last.ensures)
      | else-len-eq0 w ↦ read_on _ _ _ c.next.new.self (omega (arith, c.args.cursors.now.ok.0, some)) c.in_ok-cursor.ensures.value _ _ c.in_ok-token.ensures (ap (λ v. v.items) w.cursors-is)
    ]

pub returns-clause-unread : goal.returns-clause-unread
returns-clause-unread c =
    let some = c.in_ok-cursor.ensures.variant.0 refl in
    elim c.if-len-eq0.branch [
      | then-len-eq0 w ↦ unread_whole _ _ _ c.next.new.self (omega (arith, c.args.cursors.now.ok.0, some)) c.in_ok-cursor.ensures.value _ c.requires (ap (λ v. v.items) w.cursors-is ∙ w.drop_last.ensures)
      | else-len-eq0 w ↦ unread_on _ _ _ c.next.new.self (omega (arith, c.args.cursors.now.ok.0, some)) c.in_ok-cursor.ensures.value _ c.requires (omega (arith, c.len.ensures)) (ap (λ v. v.items) w.cursors-is)
    ]
