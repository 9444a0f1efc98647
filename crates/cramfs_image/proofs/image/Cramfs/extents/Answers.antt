use Rattle.std.proofs.Common.{ℕ, List}
use Rattle.record_forest.specs.Forest.{Forest, all_rows}
use Rattle.cramfs_format.specs.Refers.{references}
use Rattle.cramfs_format.specs.Superblock.{IsSuperblock}
use Rattle.cramfs_image.specs.Extents.{AreTheSame}
use Rattle.cramfs_image.specs.Merged.{expanded}
use Rattle.cramfs_image.specs.Reported.{order_in}
use Rattle.cramfs_format.specs.Tree.{extents_of, IsTree}
use Rattle.cramfs_image.proofs.Listing.{records_by, lists_by, ok_by}
use Rattle.cramfs_image.proofs.image.Cramfs.extents.Goals as goal

pub all_extents-requires : goal.all_extents-requires
all_extents-requires c =
    let w = c.in_ok-rows.ensures in
    record {
      records = records_by (order_in c.args.self.now) c.parts-parts.result.order c.args.self.now.all.now
          c.bytes.result.now
          c.in-Some.bytes.now c.parts-parts.ensures.order c.bytes.ensures c.in-Some.ensures.part.1
          c.requires.1.tree.b c.requires.1.tree.super c.parts-parts.result.references w.0 c.in_ok-rows.rows.items
          c.deref.result.now c.in-Some.ensures.long w.1 w.2 c.deref.ensures.value;
    }

pub returns : goal.returns
returns c =
    let w = c.in_ok-rows.ensures in
    ok_by (λ v. AreTheSame (expanded v.items)
    (extents_of c.parts-parts.result.order c.in-Some.bytes.now c.deref.result.now))
    (λ v. (b : List ℕ) (most deepest : ℕ) (f : Forest)
    → IsSuperblock (order_in c.args.self.now) c.args.self.now.all.now b
    → IsTree (order_in c.args.self.now) b most deepest f
    → AreTheSame (expanded v.items) (extents_of (order_in c.args.self.now) b
    (all_rows (references (order_in c.args.self.now) b) f))) c.all_extents.result
    (λ v. lists_by (order_in c.args.self.now) c.parts-parts.result.order c.args.self.now.all.now c.bytes.result.now
    c.in-Some.bytes.now c.parts-parts.ensures.order c.bytes.ensures c.in-Some.ensures.part.1
    c.parts-parts.result.references w.0 c.in_ok-rows.rows.items c.deref.result.now w.1 w.2 c.deref.ensures.value
    (expanded v.items))
    c.all_extents.ensures.same
