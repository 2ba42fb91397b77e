use Rattle.std.proofs.Common.{◌≡◌, reverse, refl, sym, ap, ◌∙◌}
use Rattle.env_groups.specs.declared.situation.Situation.{Situation}
use Rattle.open_lists.proofs.Lifting.{begun_lifts}
use Rattle.open_lists.proofs.lists.OpenLists.begin_hbox.Goals as goal

pub returns-clause-exact : goal.returns-clause-exact
returns-clause-exact c entries stand =
    begun_lifts c.args.self.now c.self.inside.main (reverse c.put_around.new.around.items) c.hbox.result c.args.plan entries
    (rw (← c.self.view_is, c.put_around.ensures.lists, c.reserve.ensures.items) refl)
    (c.hbox.ensures.dir ∙ ap (λ (s : Situation). s.dir) c.situation-dir.ensures.kept) c.hbox.ensures.contents c.hbox.ensures.stands stand
    (sym (c.is_deep.ensures.lists entries) ∙ c.if-is_deep.false)
