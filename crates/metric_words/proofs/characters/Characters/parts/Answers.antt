use Rattle.std.proofs.lemmas.List.{length-map}
use Rattle.metric_words.proofs.SoundParts.{sound_characters, sound_infos, sound_table, fix_characters}
use Rattle.metric_words.proofs.characters.Characters.parts.Goals as goal

pub invariant_of-result : goal.invariant_of-result
invariant_of-result c =
    sound_characters c.args.bytes.now c.args.lengths.now _ _ _ _ c.width_start.result c.height_start.result c.depth_start.result _ _ _
    c.in_ok-infos.ensures c.from.ensures c.in_ok-widths.ensures c.from-2.ensures c.in_ok-heights.ensures c.from-3.ensures c.in_ok-depths.ensures

pub returns-clause-count : goal.returns-clause-count
returns-clause-count c =
    let infos = sound_infos c.args.bytes.now c.args.lengths.now _ c.in_ok-infos.ensures in
    rw length-map infos.0

pub returns-clause-fix : goal.returns-clause-fix
returns-clause-fix c =
    let file = c.args.bytes.now in
    fix_characters c.in_ok-infos.infos.items c.in_ok-widths.widths.items c.in_ok-heights.heights.items c.in_ok-depths.depths.items
    (sound_table file c.width_start.result _ _ c.in_ok-widths.ensures).1
    (sound_table file c.height_start.result _ _ c.in_ok-heights.ensures).1
    (sound_table file c.depth_start.result _ _ c.in_ok-depths.ensures).1
