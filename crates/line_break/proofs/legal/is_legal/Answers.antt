use Rattle.std.proofs.Common.{◌∙◌}
use Rattle.line_break.proofs.Running.{legal_is}
use Rattle.line_break.proofs.legal.is_legal.Goals as goal

pub returns : goal.returns
returns c = c.can_end_at.ensures ∙ legal_is c.args.items.now c.args.place c.is_after_solid-after_solid.result c.is_before_glue-before_glue.result c.index-items-place.result c.requires c.index-items-place.is c.is_after_solid-after_solid.ensures c.is_before_glue-before_glue.ensures
