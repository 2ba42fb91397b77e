use Rattle.std.proofs.Common.{arith, rules, FitsSigned, w64, to_z-of_z, ap, length, ◌<◌, refl}
use Rattle.std.proofs.lemmas.List.{length-map}
use Rattle.metric_words.proofs.Scaling.{character-places}
use Rattle.metric_words.proofs.characters.Characters.measures.Goals as goal

pub returns-clause-value : goal.returns-clause-value
returns-clause-value c =
    let width_fits : FitsSigned w64 c.scaled_at.result = search rules in
    let height_fits : FitsSigned w64 c.scaled_at-2.result = search rules in
    let depth_fits : FitsSigned w64 c.scaled_at-3.result = search rules in
    let within : c.args.at < length c.self.inside.infos.items =
    omega (arith, c.requires.inside, simp length-map at (ap length c.self.view_is)) in
    let is = character-places c.args.self.now c.self.inside.infos.items c.self.inside.widths.items c.self.inside.heights.items c.self.inside.depths.items
    c.args.at _ within c.self.view_is c.index-info.ensures in
    simp to_z-of_z
    (rw (is, rw c.deref.ensures.value at c.scaled_at.ensures.value, rw c.deref-2.ensures.value at c.scaled_at-2.ensures.value, rw c.deref-3.ensures.value at c.scaled_at-3.ensures.value) refl)
