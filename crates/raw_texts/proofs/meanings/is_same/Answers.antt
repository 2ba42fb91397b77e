use Rattle.std.proofs.Common.{◌∙◌, sym}
use Rattle.raw_texts.proofs.Tellings.{meaning_tells}
use Rattle.raw_texts.proofs.meanings.is_same.Goals as goal

pub returns : goal.returns
returns c =
    let tells = meaning_tells c.args.first.now c.args.second.now in
    (λ is. tells.0 (sym c.eq.ensures ∙ is), λ same. c.eq.ensures ∙ tells.1 same)
