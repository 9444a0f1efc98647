use Rattle.std.proofs.Common.{map}
use Rattle.formats.specs.Format.{romfs}
use Rattle.manifest_tree.specs.Tree.{tree_of}
use Rattle.plan_rows.specs.Rows.{inode_view, row_view}
use Rattle.romfs_plan.proofs.Fitting.{fitting}
use Rattle.layout_plan.proofs.Readying.{ready_volume, rows_are_fit, romfs_whole, romfs_fits, romfs_planned_in}
use Rattle.layout_plan.proofs.Readying.{romfs_items_are}
use Rattle.layout_plan.proofs.laid.place_romfs.Goals as goal

pub image_len-requires-clause-volume : goal.image_len-requires-clause-volume
image_len-requires-clause-volume c = let r = c.requires in ready_volume romfs r.0 r.1 _ _ _ r.2

pub image_len-requires-clause-fit : goal.image_len-requires-clause-fit
image_len-requires-clause-fit c =
    let r = c.requires in fitting (map row_view c.args.rows.now) (rows_are_fit romfs r.0 r.1 _ _ _ r.2)

pub returns-in_default : goal.returns-in_default
returns-in_default c = λ m sizes r.
    romfs_whole m sizes _ _ _ r c.image_len.result c.in_default.is
    (c.image_len.ensures (inode_view c.args.root.now) (tree_of m.lines sizes) r.rows_are)

pub items-requires : goal.items-requires
items-requires c =
    let r = c.requires in
    let f = romfs_fits r.0 r.1 _ _ _ r.2 c.image_len.result c.in-Some.image_len c.in-Some.is
    (c.image_len.ensures (inode_view c.args.root.now) (tree_of r.0.lines r.1) r.2.rows_are) in
    let p = romfs_planned_in r.0 r.1 _ _ _ r.2 f.0 in
    record { planned = (tree_of r.0.lines r.1, p.0, r.2.rows_are, p.1) }

pub returns : goal.returns
returns c = λ m sizes r.
    let f = romfs_fits m sizes _ _ _ r c.image_len.result c.in-Some.image_len c.in-Some.is
    (c.image_len.ensures (inode_view c.args.root.now) (tree_of m.lines sizes) r.rows_are) in
    let p = romfs_planned_in m sizes _ _ _ r f.0 in
    (f.0, f.1, romfs_items_are m sizes _ _ _ r _ (c.in_ok-items.ensures (tree_of m.lines sizes) p.0 r.rows_are p.1))
