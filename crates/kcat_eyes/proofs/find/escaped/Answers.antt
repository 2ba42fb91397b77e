use Rattle.kcat_eyes.proofs.Finds.{symbol}
use Rattle.kcat_eyes.proofs.find.escaped.Goals as goal

pub returns-in-len1-up-2-clause-value : goal.returns-in-len1-up-2-clause-value
returns-in-len1-up-2-clause-value g c = symbol (g.C.CodeTable.codes c.args.codes.now) c.args.line.now c.args.at _ _ _ c.in-len1-up.len_at_least c.first-item.is c.first-item-2.is c.if-is_letter.ensures c.after_symbol.ensures
