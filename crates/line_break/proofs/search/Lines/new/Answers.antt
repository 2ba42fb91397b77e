use Rattle.std.proofs.Common.{rules, SFits, w32}
use Rattle.line_break.proofs.Ends.{adj_near}
use Rattle.line_break.proofs.search.Lines.new.Goals as goal

pub returns-clause-prepared : goal.returns-clause-prepared
returns-clause-prepared c =
    let adj_fits : SFits w32 c.args.shape.now.adj_demerits = search rules in
    record {
      breaks = c.requires.breaks;
      background = c.background.ensures;
      sound = c.requires.sound;
      shape_sound = c.requires.shape_sound;
      extra = c.requires.extra;
      few = c.requires.few;
      adj = adj_near c.args.shape.now.adj_demerits adj_fits;
      limit = c.limit_above.ensures;
    }
