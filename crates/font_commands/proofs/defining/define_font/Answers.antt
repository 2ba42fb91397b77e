use Rattle.std.proofs.Common.{◌∙◌}
use Rattle.font_commands.specs.Fonts.{font_defined}
use Rattle.font_commands.proofs.Answering.{named_agrees}
use Rattle.font_commands.proofs.defining.define_font.Goals as goal

pub returns-clause-exact : goal.returns-clause-exact
unfolding font_defined
returns-clause-exact g c = λ held is told.
    let before = g.F.Files.state c.read_naming.new.files in
    let after = g.F.Files.state c.name_font.new.files in
    rw (c.in_ok-naming.ensures.exact told)
    (named_agrees c.read_naming.new.gullet before after c.read_naming.new.env c.name_font.new.env c.name_font.new.fonts c.name_font.result _
    c.read_naming.ensures.goes.opened c.name_font.ensures.kept (c.name_font.ensures.exact held (c.read_naming.ensures.goes.others.0 ∙ is)))
