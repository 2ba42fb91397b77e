use Rattle.std.proofs.Common.{◌≡◌, rules, FitsSigned, w64, to_z-of_z, pos, get_or}
use Rattle.ts_geometry.specs.Numbers.{scale}
use Rattle.metric_words.specs.Sound.{is_fix}
use Rattle.metric_words.proofs.SoundParts.{all_at}
use Rattle.metric_words.proofs.Scaling.{scaled_within}
use Rattle.metric_words.proofs.characters.scaled_at.Goals as goal

pub returns-clause-within : goal.returns-clause-within
returns-clause-within c =
    let fits : FitsSigned w64 c.scale.result = search rules in
    let is : c.scale.result ≡ scale (get_or c.args.table.now c.args.place (pos 0)) c.args.z = search rules in
    let fix = all_at is_fix c.args.table.now c.args.place (pos 0) c.requires.fix c.requires.inside in
    simp to_z-of_z (rw is (scaled_within (get_or c.args.table.now c.args.place (pos 0)) c.args.z fix))
