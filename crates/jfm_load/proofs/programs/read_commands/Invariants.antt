use Rattle.std.proofs.Common.{◌≡◌}
use Rattle.jfm_load.specs.Programs.{commands_in, program_kind}
use Rattle.metric_words.specs.Left.{commands_left}
use Rattle.jfm_load.proofs.programs.read_commands.Given as goal

abbrev pub invariant-loop-place : goal.invariant-loop-place
invariant-loop-place l =
    commands_in l.bytes l.lengths ≡ commands_left (program_kind l.lengths) l.bytes l.start l.place l.len l.commands.items
