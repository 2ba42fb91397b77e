use Rattle.std.proofs.Common.{◌≡◌, ◌∙◌, ◌+◌, ap, sym, arith, drop, List, Some, Ok}
use Rattle.std.proofs.lemmas.List.{at_drop_all}
use Rattle.jis_codes.specs.declared.Char.{Char}
use Rattle.input_codings.specs.declared.item.Item.TheVariants.{Character, Escape}
use Rattle.input_codings.specs.Decoding.{decoded_from}
use Rattle.input_codings.specs.Lines.{closed}
use Rattle.input_codings.proofs.Decodes.{item_same, step_bad, step_escape, step_char, after_all, after_one, finished}
use Rattle.input_codings.proofs.decode.decode.Goals as goal

pub returns-in-None-clause-exact : goal.returns-in-None-clause-exact
returns-in-None-clause-exact c =
    let is = item_same c.args.coding c.loop-at.state c.loop-at.at _ _ c.args.bytes.now _ c.byte_at-second.ensures c.byte_at-third.ensures c.item_of.ensures ∙ c.in-None.is in
    let here = step_bad c.args.coding c.loop-at.state c.loop-at.at c.args.bytes.now c.loop-at-test.true is in
    ap closed (c.loop-at.invariant.same ∙ ap (after_all _) here)

pub loop-at-preserved-in-Some-Escape : goal.loop-at-preserved-in-Some-Escape
loop-at-preserved-in-Some-Escape c =
    let gave : c.item_of.result ≡ Some (Escape c.in-Some-Escape.selected) = cc in
    let is = item_same c.args.coding c.loop-at.state c.loop-at.at _ _ c.args.bytes.now _ c.byte_at-second.ensures c.byte_at-third.ensures c.item_of.ensures ∙ gave in
    record {
      few = omega arith;
      whole = c.loop-at.invariant.whole;
      same = c.loop-at.invariant.same ∙ ap (after_all _) (step_escape c.args.coding c.loop-at.state c.in-Some-Escape.selected c.loop-at.at c.args.bytes.now c.loop-at-test.true is);
    }

pub loop-at-preserved : goal.loop-at-preserved
loop-at-preserved c =
    let gave : c.item_of.result ≡ Some (Character c.in-Some-Character.c) = cc in
    let is = item_same c.args.coding c.loop-at.state c.loop-at.at _ _ c.args.bytes.now _ c.byte_at-second.ensures c.byte_at-third.ensures c.item_of.ensures ∙ gave in
    let step = step_char c.args.coding c.loop-at.state c.in-Some-Character.c c.loop-at.at c.args.bytes.now c.loop-at-test.true is in
    let later = decoded_from c.args.coding c.loop-at.state 0 (c.loop-at.at + c.length_of-at.result) (drop (c.loop-at.at + c.length_of-at.result) c.args.bytes.now) in
    record {
      few = omega (arith, c.in_ok-spaces-in-Some-Character.ensures.most);
      whole = c.in_ok-spaces-in-Some-Character.ensures.trimmed c.loop-at.invariant.whole;
      same = c.loop-at.invariant.same ∙ ap (after_all _) (rw (← c.length_of-at.ensures.value) at step) ∙ after_one _ c.in-Some-Character.c later ∙ ap (λ (cs : List Char). after_all cs later) (sym c.in_ok-spaces-in-Some-Character.ensures.all);
    }

pub returns-clause-exact : goal.returns-clause-exact
returns-clause-exact c =
    let at_end = at_drop_all (decoded_from c.args.coding c.loop-at.state 0 c.loop-at.at) c.args.bytes.now c.loop-at.at c.loop-at-test.false in
    ap closed (c.loop-at.invariant.same ∙ ap (after_all _) at_end) ∙ finished c.loop-at.chars c.loop-at.spaces c.loop-at.invariant.whole ∙ ap Ok (sym c.in_ok-push.ensures.ok)
