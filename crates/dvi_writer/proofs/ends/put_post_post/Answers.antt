use Rattle.dvi_writer.proofs.Pieces.{wrote_post_post}
use Rattle.dvi_writer.proofs.ends.put_post_post.Goals as goal

pub returns : goal.returns
returns c = wrote_post_post c.args.kept.now _ _ _ _ _ c.in_ok-push.ensures.items c.in_ok-put_place.ensures c.in_ok-push-2.ensures.items c.id_of.ensures
