use Rattle.std.proofs.Common.{rules, ◌≡◌, ◌∙◌, arith, ap, sym, None, length}
use Rattle.dvi_writer.specs.Keeping.{limit_of, kept_after}
use Rattle.dvi_writer.specs.Tables.{known}
use Rattle.dvi_writer.proofs.Bounds.{writer_bounded, bounded_short}
use Rattle.dvi_writer.proofs.Pages.{known_few}
use Rattle.dvi_writer.proofs.writer.Writer.page.Goals as goal

pub page_of-requires-clause-few : goal.page_of-requires-clause-few
page_of-requires-clause-few c = rw c.known-table.ensures (known_few c.as_slice.result.now)

pub after-kept-requires-clause-short : goal.after-kept-requires-clause-short
after-kept-requires-clause-short c =
    let table : c.known-table.result.now ≡ known c.args.fonts.now = c.known-table.ensures ∙ ap known c.as_slice.ensures in
    let free : limit_of c.args.self.now.kept.pages c.args.self.now.kept.weight c.args.node.now ≡ None = sym c.limit.ensures ∙ c.in-None.is in
    let long : c.len-2.result ≡ length c.in_ok-page.page.out.items = search (rules, c.len-2.ensures) in
    let bounds = writer_bounded c.args.self.now.kept c.args.self.now.fonts c.args.fonts.now c.requires.begins.0 _ _ _ c.len-2.result c.args.node.now c.args.counts.now _ _ c.in_ok-page.ensures.ok
    c.len.ensures table c.in_ok-copies.ensures long c.few_are_placed.ensures c.requires.fonts_sound c.told-counts c.requires.begins.1 c.args.self.now.bounds free in
    let short = bounded_short (kept_after c.args.self.now.kept c.args.node.now c.len-2.result c.in_ok-page.page.turned) _ bounds in
    omega (arith, short)

pub invariant_of-drop : goal.invariant_of-drop
invariant_of-drop c =
    let table : c.known-table.result.now ≡ known c.args.fonts.now = c.known-table.ensures ∙ ap known c.as_slice.ensures in
    let free : limit_of c.args.self.now.kept.pages c.args.self.now.kept.weight c.args.node.now ≡ None = sym c.limit.ensures ∙ c.in-None.is in
    let long : c.len-2.result ≡ length c.in_ok-page.page.out.items = search (rules, c.len-2.ensures) in
    let bounds = writer_bounded c.args.self.now.kept c.args.self.now.fonts c.args.fonts.now c.requires.begins.0 _ _ _ c.len-2.result c.args.node.now c.args.counts.now _ _ c.in_ok-page.ensures.ok
    c.len.ensures table c.in_ok-copies.ensures long c.few_are_placed.ensures c.requires.fonts_sound c.told-counts c.requires.begins.1 c.args.self.now.bounds free in
    record { bounds = rw c.after-kept.ensures bounds }
