use Rattle.known_fonts.proofs.Shipped.{held_whole}
use Rattle.known_fonts.proofs.laws.fonts_as_held_are_whole.Goals as goal

pub returns : goal.returns
returns c = λ held fonts as_held. held_whole c.loaded_metrics_are_whole.ensures.fonts held fonts as_held
