use Rattle.std.proofs.Common.{◌≡◌, ◌≤◌, ◌+◌, ◌*◌, []}
use Rattle.mouth.specs.Sizes.{size}
use Rattle.mouth.specs.Keeping.{reading, AreTold, IsReadable}
use Rattle.expander.specs.Worlds.{world}
use Rattle.expander.specs.Leaving.{but_meanings}
use Rattle.expander.specs.Holding.{AreFit, Goes}
use Rattle.expander.specs.Steps.{Next, PastSpaces, Chars}
use Rattle.scan_syntax.specs.States.{reads}
use Rattle.expander.specs.Expansion.{run}
use Rattle.expander.proofs.Turns.{Turned}
use Rattle.expander.proofs.expansion.+expand.Given as goal

abbrev pub decreases-expand : goal.decreases-expand
decreases-expand g l = 8 * size (reading l.mouth.now (g.F.Files.state l.files.now)) + 2

abbrev pub decreases-expand_primitive : goal.decreases-expand_primitive
decreases-expand_primitive g l = 8 * size (reading l.mouth.now (g.F.Files.state l.files.now)) + 1

abbrev pub decreases-expand_after : goal.decreases-expand_after
decreases-expand_after g l = 8 * size (reading l.mouth.now (g.F.Files.state l.files.now))

abbrev pub decreases-expand_next : goal.decreases-expand_next
decreases-expand_next g l = 8 * size (reading l.mouth.now (g.F.Files.state l.files.now))

abbrev pub decreases-next_token : goal.decreases-next_token
decreases-next_token g l = 8 * size (reading l.mouth.now (g.F.Files.state l.files.now))

abbrev pub invariant-next_token-loop-token : goal.invariant-next_token-loop-token
invariant-next_token-loop-token g l =
    let old = g.F.Files.state l.fn.files in
    let new = g.F.Files.state l.files in
    record {
      same : AreTold l.fn.mouth old → run Next (world (reading l.fn.mouth old) l.fn.env) ≡ run Next (world (reading l.mouth new) l.env);
      goes : Goes l.fn.mouth old l.mouth new;
      readable : IsReadable l.mouth;
      fit : AreFit l.mouth.names l.env;
      kept : but_meanings l.env ≡ but_meanings l.fn.env;
      size : size (reading l.mouth new) ≤ size (reading l.fn.mouth old);
      counted : new.faults ≡ old.faults;
    }

abbrev pub decreases-next_token-loop-token : goal.decreases-next_token-loop-token
decreases-next_token-loop-token g l = size (reading l.mouth (g.F.Files.state l.files))

abbrev pub decreases-expand_further : goal.decreases-expand_further
decreases-expand_further g l = 8 * size (reading l.mouth.now (g.F.Files.state l.files.now)) + 5

abbrev pub decreases-test_scanned : goal.decreases-test_scanned
decreases-test_scanned g l = 8 * size (reading l.mouth.now (g.F.Files.state l.files.now)) + 3

abbrev pub decreases-compare_scanned : goal.decreases-compare_scanned
decreases-compare_scanned g l = 8 * size (reading l.mouth.now (g.F.Files.state l.files.now)) + 4

abbrev pub decreases-compare_with : goal.decreases-compare_with
decreases-compare_with g l = 8 * size (reading l.mouth.now (g.F.Files.state l.files.now)) + 3

abbrev pub decreases-read_relation : goal.decreases-read_relation
decreases-read_relation g l = 8 * size (reading l.mouth.now (g.F.Files.state l.files.now)) + 2

abbrev pub decreases-next_past_spaces : goal.decreases-next_past_spaces
decreases-next_past_spaces g l = 8 * size (reading l.mouth.now (g.F.Files.state l.files.now)) + 1

abbrev pub invariant-next_past_spaces-loop-token : goal.invariant-next_past_spaces-loop-token
invariant-next_past_spaces-loop-token g l =
    let old = g.F.Files.state l.fn.files in
    let new = g.F.Files.state l.files in
    record {
      same : AreTold l.fn.mouth old → run PastSpaces (world (reading l.fn.mouth old) l.fn.env) ≡ run PastSpaces (world (reading l.mouth new) l.env);
      goes : Goes l.fn.mouth old l.mouth new;
      readable : IsReadable l.mouth;
      fit : AreFit l.mouth.names l.env;
      kept : but_meanings l.env ≡ but_meanings l.fn.env;
      size : size (reading l.mouth new) ≤ size (reading l.fn.mouth old);
      counted : new.faults ≡ old.faults;
    }

abbrev pub decreases-next_past_spaces-loop-token : goal.decreases-next_past_spaces-loop-token
decreases-next_past_spaces-loop-token g l = size (reading l.mouth (g.F.Files.state l.files))

abbrev pub decreases-compare_tokens : goal.decreases-compare_tokens
decreases-compare_tokens g l = 8 * size (reading l.mouth.now (g.F.Files.state l.files.now)) + 1

abbrev pub decreases-make_name : goal.decreases-make_name
decreases-make_name g l = 8 * size (reading l.mouth.now (g.F.Files.state l.files.now)) + 2

abbrev pub decreases-read_chars : goal.decreases-read_chars
decreases-read_chars g l = 8 * size (reading l.mouth.now (g.F.Files.state l.files.now)) + 1

abbrev pub decreases-input : goal.decreases-input
decreases-input g l = 8 * size (reading l.mouth.now (g.F.Files.state l.files.now)) + 3

abbrev pub invariant-read_chars-loop-chars : goal.invariant-read_chars-loop-chars
invariant-read_chars-loop-chars g l =
    let old = g.F.Files.state l.fn.files in
    let new = g.F.Files.state l.files in
    record {
      same : AreTold l.fn.mouth old → run (Chars []) (world (reading l.fn.mouth old) l.fn.env) ≡ run (Chars l.chars) (world (reading l.mouth new) l.env);
      goes : Goes l.fn.mouth old l.mouth new;
      readable : IsReadable l.mouth;
      fit : AreFit l.mouth.names l.env;
      kept : but_meanings l.env ≡ but_meanings l.fn.env;
      size : size (reading l.mouth new) ≤ size (reading l.fn.mouth old);
      counted : new.faults ≡ old.faults;
    }

abbrev pub decreases-read_chars-loop-chars : goal.decreases-read_chars-loop-chars
decreases-read_chars-loop-chars g l = size (reading l.mouth (g.F.Files.state l.files))

abbrev pub decreases-print_scanned : goal.decreases-print_scanned
decreases-print_scanned g l = 8 * size (reading l.mouth.now (g.F.Files.state l.files.now)) + 3

abbrev pub decreases-scan : goal.decreases-scan
decreases-scan g l = 8 * size (reading l.mouth.now (g.F.Files.state l.files.now)) + 2

abbrev pub decreases-take_wanted : goal.decreases-take_wanted
decreases-take_wanted g l = 8 * size (reading l.mouth.now (g.F.Files.state l.files.now)) + 1

abbrev pub invariant-scan-loop-scan : goal.invariant-scan-loop-scan
invariant-scan-loop-scan g l =
    let old = g.F.Files.state l.fn.files in
    let new = g.F.Files.state l.files in
    record {
      turned : Turned (AreTold l.fn.mouth old) l.fn.want l.raw (reads l.scan) (world (reading l.fn.mouth old) l.fn.env) (world (reading l.mouth new) l.env);
      goes : Goes l.fn.mouth old l.mouth new;
      readable : IsReadable l.mouth;
      fit : AreFit l.mouth.names l.env;
      kept : but_meanings l.env ≡ but_meanings l.fn.env;
      size : size (reading l.mouth new) ≤ size (reading l.fn.mouth old);
      counted : new.faults ≡ old.faults;
    }

abbrev pub decreases-scan-loop-scan : goal.decreases-scan-loop-scan
decreases-scan-loop-scan g l = size (reading l.mouth (g.F.Files.state l.files))
