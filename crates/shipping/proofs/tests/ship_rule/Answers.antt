use Rattle.std.proofs.Common.{◌≡◌, ◌∙◌, List, [], ◌∷◌, ◌++◌, Result, Ok, Err, Some}
use Rattle.std.specs.Prelude.{OnOk, OnErr}
use Rattle.dvi_writer.specs.Reading.{Asked}
use Rattle.shipping.specs.Boxes.{last_table}
use Rattle.shipping.specs.Standing.{Took}
use Rattle.shipping.proofs.Takes.{last_is}
use Rattle.shipping.proofs.tests.ship_rule.Goals as goal

still : {X E : Type 0} (r : Result X E) (old new : List Asked → Type 0) (a : Asked) → OnOk r ((boxes : List Asked) → old boxes → new (boxes ++ a ∷ [])) → OnErr r ((boxes : List Asked) → old boxes → new boxes) → a.fonts ≡ []
    → (boxes : List Asked) × old boxes × (last_table boxes ≡ []) → (boxes : List Asked) × new boxes × (last_table boxes ≡ [])
still (Ok x) old new a took kept none stood = (stood.0 ++ a ∷ [], took stood.0 stood.1, last_is stood.0 a ∙ none)
still (Err e) old new a took kept none stood = (stood.0, kept stood.0 stood.1, stood.2)

pub returns-in-Ok : goal.returns-in-Ok
returns-in-Ok c = record {
  stands = still c.ship-in-Ok.result
      (λ boxes. Took (Some c.args.shipper.now.out.now.bytes) c.args.shipper.now.writer c.args.shipper.now.put c.args.shipper.now.broken boxes)
      (λ boxes. Took (Some c.ship-in-Ok.new.self.out.now.bytes) c.ship-in-Ok.new.self.writer c.ship-in-Ok.new.self.put c.ship-in-Ok.new.self.broken boxes)
      _ c.ship-in-Ok.ensures.took c.ship-in-Ok.ensures.kept c.new.ensures c.requires.stands;
}
