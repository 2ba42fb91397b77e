use Rattle.std.proofs.Common.{◌≡◌, true}
use Rattle.box_tree.specs.Nodes.{tree_items}
use Rattle.packaging.specs.Packing.{are_dimens}
use Rattle.packaging.specs.Running.{measures_of}
use Rattle.packaging.proofs.Bounds.{totals_light}
use Rattle.packaging.proofs.Soundness.{boxed_agrees, boxed_sound}
use Rattle.packaging.proofs.pack.pack.Goals as goal

pub set_glue-requires-clause-near : goal.set_glue-requires-clause-near
set_glue-requires-clause-near c = totals_light _ _ _ _ c.requires.totals c.requires.sound (cc)

pub returns-clause-value : goal.returns-clause-value
returns-clause-value c =
    let d : are_dimens (measures_of c.args.target.size) ≡ true = cc in
    boxed_agrees c.args.target.kind c.args.target.dir (measures_of c.args.target.size) c.args.target.excess.0 (tree_items c.args.items) c.args.totals.now c.boxed.result d
    c.requires.totals (rw (c.short.ensures, c.set_glue.ensures, c.short-2.ensures) at c.boxed.ensures)

pub returns-clause-sound : goal.returns-clause-sound
returns-clause-sound c =
    let d : are_dimens (measures_of c.args.target.size) ≡ true = cc in
    boxed_sound c.args.target.kind c.args.target.dir (measures_of c.args.target.size) c.args.target.excess.0 (tree_items c.args.items) c.args.totals.now c.boxed.result d
    c.requires.totals c.requires.sound c.requires.near (rw (c.short.ensures, c.set_glue.ensures, c.short-2.ensures) at c.boxed.ensures)
