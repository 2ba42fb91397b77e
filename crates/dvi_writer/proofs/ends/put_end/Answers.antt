use Rattle.std.proofs.Common.{rules, ◌≡◌, length}
use Rattle.dvi_writer.proofs.Pieces.{wrote_end}
use Rattle.dvi_writer.proofs.ends.put_end.Goals as goal

pub returns-clause-bytes : goal.returns-clause-bytes
returns-clause-bytes c =
    let len : c.len.result ≡ length c.put_post_post.new.out.items = search (rules, c.len.ensures) in
    wrote_end c.args.kept.now c.args.fonts.now c.len.result _ _ _ _ _ c.requires.empty c.in_ok-put_post.ensures.bytes c.in_ok-put_definitions.ensures.bytes c.in_ok-put_post_post.ensures len c.in_ok-put_fill.ensures c.requires.some
