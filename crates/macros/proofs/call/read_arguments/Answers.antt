use Rattle.std.proofs.Common.{◌≡◌, ◌<◌, ◌+◌, ◌∷◌, [], List, length, drop, arith, sym, ap, ◌∙◌, length-append}
use Rattle.std.specs.Prelude.{slice_range}
use Rattle.ts_base.specs.Agreement.{◌>>=◌}
use Rattle.tok_lists.specs.declared.token.Token.{Token}
use Rattle.tok_lists.proofs.Flat.{all_held_last, lists_held_still, no_param_last}
use Rattle.mouth.specs.Keeping.{reading}
use Rattle.raw_texts.proofs.Chains.{reads_then}
use Rattle.macros.specs.Calls.{parts, arguments_of}
use Rattle.macros.proofs.Gathering.{gathered, gathers, delimiters_from, is_delimiter}
use Rattle.macros.proofs.call.read_arguments.Goals as goal

pub read_argument-requires-clause-delimiter : goal.read_argument-requires-clause-delimiter
read_argument-requires-clause-delimiter g c = λ less.
    let most = rw c.as_slice-in-loop-at.ensures at c.next_param-to.ensures.most in
    is_delimiter c.args.params.now (c.loop-at.at + 1) c.next_param-to.result c.requires.plain most less

pub loop-at-preserved : goal.loop-at-preserved
loop-at-preserved g c =
    let was = c.loop-at.invariant in
    let read = c.in_ok-argument.ensures in
    let params = c.args.params.now in
    let nest = c.args.env.now in
    let long = c.args.long in
    let at = c.loop-at.at in
    let to = c.next_param-to.result in
    let a = c.in_ok-argument.argument in
    let ds = (parts (drop to params)).delimiters in
    let slice = slice_range params (at + 1) to in
    let first = g.F.Files.state c.args.files.now in
    let old = g.F.Files.state c.loop-at.files in
    let new = g.F.Files.state c.read_argument.new.files in
    let r = reading c.loop-at.mouth old in
    let r1 = reading c.read_argument.new.mouth new in
    let within : at < length params = rw c.as_slice.ensures at c.loop-at-test.true in
    let prefix = rw c.as_slice-in-loop-at.ensures at c.next_param-to.ensures.prefix in
    let delimiters = rw c.as_slice-in-loop-at.ensures at c.next_param-to.ensures.delimiters in
    let most = rw c.as_slice-in-loop-at.ensures at c.next_param-to.ensures.most in
    let here = rw c.as_slice-in-loop-at.ensures at c.next_param-to.ensures.here in
    let all = delimiters_from params at to (was.here within) prefix delimiters in
    let count : length (parts (drop at params)).delimiters ≡ 1 + length ds = ap (λ (l : List (List Token)). length l) all ∙ omega arith in
    let args = c.loop-at.args in
    let pushed = c.in_ok-push.ensures.ok in
    record {
      same = λ told. was.same told ∙ ap (λ (l : List (List Token)). arguments_of nest long l r >>= gathered args) all
          ∙ gathers nest long args slice ds r r1 a (read.exact (was.leaves.told told))
          ∙ ap (λ (l : List (List Token)). arguments_of nest long ds r1 >>= gathered l) (sym pushed);
      leaves = reads_then c.args.mouth.now c.loop-at.mouth c.read_argument.new.mouth first old new was.leaves read.leaves;
      readable = read.readable;
      arguments = rw pushed (record {
        held = all_held_last c.read_argument.new.mouth.names args a (lists_held_still c.loop-at.mouth.names c.read_argument.new.mouth.names args read.leaves.names was.arguments.held) read.tokens.held;
        no_param = no_param_last args a was.arguments.no_param read.tokens.no_param;
      });
      count = rw pushed (omega (arith, length-append args (a ∷ []), count, was.count));
      most = most;
      here = here;
      unread = omega (arith, read.unread, was.unread);
      size = omega (arith, read.size, was.size);
      counted = read.counted ∙ was.counted;
    }
