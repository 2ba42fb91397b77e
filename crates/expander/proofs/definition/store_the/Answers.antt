use Rattle.std.proofs.Common.{◌≡◌, ◌∙◌}
use Rattle.raw_texts.specs.Holding.{AreTokens}
use Rattle.macros.specs.StillHeld.{body_still}
use Rattle.expander.specs.Numbers.{value_shown}
use Rattle.expander.proofs.Outcomes.{on_ok}
use Rattle.expander.proofs.Printing.{value_plain}
use Rattle.expander.proofs.definition.store_the.Goals as goal

pub returns-clause-body : goal.returns-clause-body
returns-clause-body g c =
    let names = c.scan.new.mouth.names in
    let plain = value_plain names c.in_ok-value.value c.in_ok-value.ensures.listed in
    let same : c.as_slice.result.now ≡ value_shown c.in_ok-value.value = c.as_slice.ensures ∙ c.in_ok-list.ensures in
    let held : AreTokens names (value_shown c.in_ok-value.value) = record { held = plain.1; no_param = plain.0 } in
    rw c.end.ensures.names (on_ok _ c.store.result _ c.in_ok-store.was (c.store.ensures.holds names (rw same held)
    (body_still c.begin.new.mouth.names names c.args.body.now c.scan.ensures.goes.names (rw c.begin.ensures.names c.requires.body))))
