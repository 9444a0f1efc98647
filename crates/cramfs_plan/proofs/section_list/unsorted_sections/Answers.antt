use Rattle.std.proofs.Common.{◌∷◌, ap, not, ◌∙◌}
use Rattle.manifest_layout.specs.Views.{item_view}
use Rattle.cramfs_plan.proofs.Sectioning.{holds_more, short_at, item_at, item_done}
use Rattle.cramfs_plan.proofs.section_list.unsorted_sections.Goals as goal

pub push_item-requires : goal.push_item-requires
push_item-requires c =
    short_at c.args.items.now c.loop-i.i c.index-items-i.result c.loop-i-test.true c.index-items-i.is c.requires

pub loop-i-preserved : goal.loop-i-preserved
loop-i-preserved c =
    let d = c.loop-i.invariant.done in
    let x = c.index-items-i.result in
    let is = item_at c.args.items.now c.loop-i.i x c.loop-i-test.true c.index-items-i.is in
    record {
      done = (
        item_view x ∷ d.0,
        holds_more d.0 (item_view x) _ _ d.1 c.in_ok-fresh.ensures.updates,
        item_done _ _ _ d.0 c.loop-i.i (item_view x) _ _ c.in_ok-fresh.fresh is
            (c.in_ok-fresh.ensures.added ∙ ap not (d.1 x.table)) c.in_ok-push_item.ensures d.2,
      );
    }
