use Rattle.main_control.specs.Worlds.{text_of}
use Rattle.main_control.specs.Groups.{text_done}
use Rattle.main_control.specs.Turn.{quiet_done}
use Rattle.main_control.proofs.Sets.{text_sets}
use Rattle.main_control.proofs.control.Control.do_quiet.Goals as goal

pub returns-in-Text-clause-exact : goal.returns-in-Text-clause-exact
unfolding quiet_done
returns-in-Text-clause-exact g c told entries stand =
    let before = g.F.Files.state c.args.files.now in
    rw c.in-Text.is (text_sets c.args.self.now c.do_text.new.self before (g.F.Files.state c.do_text.new.files) entries c.do_text.result (text_done c.in-Text.command (text_of c.args.self.now before)) (c.do_text.ensures.exact told) c.do_text.ensures.apart stand)
