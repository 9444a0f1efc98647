use Rattle.formats.specs.Format.{cramfs}
use Rattle.manifest_tree.specs.Tree.{tree_of}
use Rattle.layout_plan.proofs.Readying.{rows_are_fit, cramfs_laid}
use Rattle.layout_plan.proofs.laid.place_cramfs.Goals as goal

pub lay_out-requires : goal.lay_out-requires
lay_out-requires c = let r = c.requires in rows_are_fit (cramfs c.args.order) r.0 r.1 _ _ _ r.2

pub returns : goal.returns
returns c = λ m sizes r.
    let n = tree_of m.lines sizes in
    cramfs_laid c.args.order m sizes _ _ _ r c.lay_out.result (c.lay_out.ensures.whole n r.rows_are)
    (λ cs p. c.lay_out.ensures.items n c.args.volume.now cs r.rows_are p)
