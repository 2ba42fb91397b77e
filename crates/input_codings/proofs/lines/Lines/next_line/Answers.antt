use Rattle.std.proofs.Common.{◌<◌, ap, sym, refl, arith, length, Ok, Err}
use Rattle.std.proofs.lemmas.Result.{err_from_is_err_and}
use Rattle.input_codings.proofs.Blocks.{keeps_more}
use Rattle.input_codings.proofs.Ends.{before-le}
use Rattle.input_codings.proofs.Next.{next_many, next_long, answers_line, answers_fault, answers_end, some_left}
use Rattle.input_codings.proofs.lines.Lines.next_line.Goals as goal

pub returns-then-self-gt-MOST_LINES-clause-exact : goal.returns-then-self-gt-MOST_LINES-clause-exact
returns-then-self-gt-MOST_LINES-clause-exact g c =
    let more : 0 < length c.has_more.new.self.buffered = c.in_ok-has_more.ensures.more (ap Ok c.if-not-branch.false) in
    rw (← c.self.view_is) (λ told. next_many c.self.inside.coding c.self.inside.line_no _ (some_left _ c.has_more.new.self.buffered _ (c.has_more.ensures.bytes told).1 more) c.if-self-gt-MOST_LINES.true)

pub returns-in_err-count-clause-exact : goal.returns-in_err-count-clause-exact
returns-in_err-count-clause-exact g c =
    let p = err_from_is_err_and c.from_residual-in_err-count.result c.from_residual-in_err-count.ensures.1 in
    let keeps = keeps_more c.self.inside.source c.has_more.new.self c.find_end.new.self (g.F.Files.state c.args.files.now).left (g.F.Files.state c.has_more.new.files).left (g.F.Files.state c.find_end.new.files).left c.has_more.ensures.same c.has_more.ensures.bytes c.find_end.ensures.bytes in
    rw (← c.self.view_is, p.1, p.2)
    (λ told. answers_end c.in_err-count.field-0.0 _ c.in_err-count.ensures.quiet
    (λ long. next_long c.self.inside.coding c.self.inside.line_no _ c.find_end.new.self.buffered _ (sym (keeps told).1) c.if-self-gt-MOST_LINES.false (c.in_err-count.ensures.long (ap Err long))))

pub line_chars-requires-clause-within : goal.line_chars-requires-clause-within
line_chars-requires-clause-within g c =
    let le = before-le c.find_end.new.self.buffered in
    rw c.buffered.ensures (omega (arith, le, c.in_ok-count.ensures.end))

pub returns-in_err-chars-clause-exact : goal.returns-in_err-chars-clause-exact
returns-in_err-chars-clause-exact g c =
    let p = err_from_is_err_and c.from_residual-in_err-chars.result c.from_residual-in_err-chars.ensures.1 in
    let keeps = keeps_more c.self.inside.source c.has_more.new.self c.find_end.new.self (g.F.Files.state c.args.files.now).left (g.F.Files.state c.has_more.new.files).left (g.F.Files.state c.find_end.new.files).left c.has_more.ensures.same c.has_more.ensures.bytes c.find_end.ensures.bytes in
    let more : 0 < length c.has_more.new.self.buffered = c.in_ok-has_more.ensures.more (ap Ok c.if-not-branch.false) in
    let some : 0 < length c.find_end.new.self.buffered = omega (arith, more, c.find_end.ensures.more) in
    let gave = rw c.buffered.ensures at c.in_err-chars.ensures.exact in
    rw (← c.self.view_is, p.1, p.2)
    (λ told. answers_fault c.self.inside.coding c.self.inside.line_no c.in_ok-count.count _ c.find_end.new.self.buffered _ c.in_err-chars.field-0.0 (sym (keeps told).1) c.if-self-gt-MOST_LINES.false c.in_ok-count.ensures.end c.in_ok-count.ensures.most (λ all. rw (c.in_ok-count.ensures.whole all) refl) some gave)

pub returns-clause-exact : goal.returns-clause-exact
returns-clause-exact g c =
    let keeps = keeps_more c.self.inside.source c.has_more.new.self c.find_end.new.self (g.F.Files.state c.args.files.now).left (g.F.Files.state c.has_more.new.files).left (g.F.Files.state c.find_end.new.files).left c.has_more.ensures.same c.has_more.ensures.bytes c.find_end.ensures.bytes in
    let more : 0 < length c.has_more.new.self.buffered = c.in_ok-has_more.ensures.more (ap Ok c.if-not-branch.false) in
    let some : 0 < length c.find_end.new.self.buffered = omega (arith, more, c.find_end.ensures.more) in
    let gave = rw c.buffered.ensures at c.in_ok-chars.ensures.exact in
    rw (← c.self.view_is, c.new.ensures, c.skip_line.ensures)
    (λ told. answers_line c.self.inside.coding c.self.inside.line_no c.in_ok-count.count _ c.find_end.new.self.buffered _ c.in_ok-chars.chars (sym (keeps told).1) c.if-self-gt-MOST_LINES.false c.in_ok-count.ensures.end c.in_ok-count.ensures.most (λ all. rw (c.in_ok-count.ensures.whole all) refl) some gave)
