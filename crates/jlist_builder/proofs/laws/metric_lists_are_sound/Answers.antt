use Rattle.jlist_builder.proofs.Soundness.{metric_list_sound}
use Rattle.jlist_builder.proofs.laws.metric_lists_are_sound.Goals as goal

pub returns : goal.returns
returns c =
    metric_list_sound (record {
      near = c.fix_words_stay_near.ensures.word;
      pair = c.a_metric_stays_near.ensures.pair;
      letters = c.a_metric_stays_near.ensures.measures;
      between = c.a_metric_stays_near-2.ensures.between;
      classes = c.a_metric_stays_near-2.ensures.measures;
      joins = c.lists_of_sound_items_are_sound.ensures.joined;
    })
