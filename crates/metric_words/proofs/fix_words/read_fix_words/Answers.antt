use Rattle.std.proofs.Common.{◌≡◌, rules, Ok}
use Rattle.metric_words.specs.FixWords.{fix_words_in}
use Rattle.metric_words.proofs.SoundParts.{sound_words}
use Rattle.metric_words.proofs.fix_words.read_fix_words.Goals as goal

pub returns-clause-fix : goal.returns-clause-fix
returns-clause-fix c =
    let read : fix_words_in c.args.bytes.now c.args.start c.args.len ≡ Ok c.append_fix_words.new.table.items = search rules in
    sound_words c.args.bytes.now c.args.start c.args.len c.append_fix_words.new.table.items read
