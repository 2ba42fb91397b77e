use Rattle.std.proofs.Common.{arith, sym, ◌∙◌}
use Rattle.tfm_load.specs.Programs.{program_kind}
use Rattle.metric_words.proofs.PartsLeft.{commands_left-more, commands_left-bad, refused}
use Rattle.tfm_load.proofs.programs.read_commands.Goals as goal

pub returns-in-Some : goal.returns-in-Some
returns-in-Some c =
    refused _ _ c.in-Some.kind _ c.bad.ensures
    (commands_left-bad (program_kind c.args.bytes.now c.args.lengths.now) _ _ _ _ _ _ _ _ (omega arith) c.loop-place.invariant c.word_at-word.ensures (sym c.program_kind.ensures ∙ c.in-Some.is))

pub loop-place-preserved : goal.loop-place-preserved
loop-place-preserved c =
    commands_left-more (program_kind c.args.bytes.now c.args.lengths.now) _ _ _ _ _ _ _ _ _ (omega arith) c.loop-place.invariant c.word_at-word.ensures
    (sym c.program_kind.ensures ∙ c.in_default.is) c.command_of.ensures c.in_ok-push.ensures.items
