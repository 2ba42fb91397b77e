use Rattle.font_store.proofs.Whole.{spelt_whole, named_whole, fonts_whole}
use Rattle.font_store.proofs.laws.loaded_metrics_are_whole.Goals as goal

pub returns-clause-spelt : goal.returns-clause-spelt
returns-clause-spelt c = spelt_whole c.ligatures_are_there.ensures

pub returns-clause-named : goal.returns-clause-named
returns-clause-named c = named_whole c.ligatures_are_there.ensures

pub returns-clause-fonts : goal.returns-clause-fonts
returns-clause-fonts c = fonts_whole c.ligatures_are_there.ensures
