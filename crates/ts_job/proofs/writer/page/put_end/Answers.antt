use Rattle.std.proofs.Common.{rules, arith, ◌≡◌, ◌<◌, ◌^◌, ap, length, pos, w32, to_z}
use Rattle.std.proofs.lemmas.Int.{ints}
use Rattle.ts_job.specs.Written.{fill_count}
use Rattle.ts_job.proofs.Puts.{wrote_end}
use Rattle.ts_job.proofs.writer.page.put_end.Goals as goal

pub returns : goal.returns
returns c =
    let post : c.len-post.result ≡ length c.args.out.now.items = search (rules, c.len-post.ensures) in
    let small : c.len-post.result < 2 ^ 31 = omega (arith, c.requires) in
    let at : to_z w32 c.len-post.result ≡ pos c.len-post.result = omega (arith, ints, small) in
    let count : c.len.result ≡ length c.put_post_post.new.out.items = search (rules, c.len.ensures) in
    wrote_end c.args.font.now c.args.high c.args.wide c.len-post.result _ (to_z w32 c.len-post.result) c.args.out.now.items _ _ _ _ post at (ap fill_count count) c.in_ok-put_post.ensures c.in_ok-put_definition.ensures.bytes c.in_ok-put_post_post.ensures c.in_ok-put_fill.ensures
