use Rattle.std.proofs.Common.{reverse, refl}
use Rattle.open_lists.specs.Characters.{kanji_entry}
use Rattle.open_lists.proofs.Lifting.{put_lifts}
use Rattle.open_lists.proofs.lists.OpenLists.kanji.Goals as goal

pub returns-clause-exact : goal.returns-clause-exact
returns-clause-exact g c entries stand =
    put_lifts c.args.self.now c.self.inside.main c.in-Some.list c.kanji.new.self (reverse c.self.inside.around.items)
    (λ dir. kanji_entry c.args.fonts.now c.args.env.now dir c.args.cell) c.kanji.result entries
    (rw (← c.self.view_is, c.in-Some.is) refl) stand c.kanji.ensures.exact
