use Rattle.std.proofs.Common.{◌∙◌, ◌++◌, List, ap}
use Rattle.image_extents.specs.declared.extent.Record.{Record}
use Rattle.image_extents.specs.declared.extent.Extent.{Extent}
use Rattle.image_extents.specs.declared.extent.Kind.TheVariants.{Super}
use Rattle.image_extents.specs.Found.{cramfs_all_found, cramfs_nexts, found, table_in, with_records}
use Rattle.image_extents.specs.Listed.{cramfs_listed}
use Rattle.image_extents.specs.Tables.{nexts}
use Rattle.image_extents.proofs.cramfs_records.add_cramfs.Goals as goal

pub returns-clause-next : goal.returns-clause-next
unfolding cramfs_nexts
returns-clause-next c =
    c.in_ok-next.ensures.next
    ∙ ap (nexts (table_in c.args.order c.args.b.now) 0) (c.deref.ensures.value ∙ c.in_ok-list_records.ensures.records)

pub returns-clause-extents : goal.returns-clause-extents
unfolding cramfs_all_found
returns-clause-extents c =
    let W : List Record → List Extent → List Extent =
    λ rs xs. with_records c.args.joined c.args.order c.args.b.now rs xs 0 rs in
    c.in_ok-add_extents.ensures
    ∙ ap (λ (v : List Record). W v c.add.new.extents.items)
    (c.deref-2.ensures.value ∙ c.in_ok-list_records.ensures.records)
    ∙ ap (W (cramfs_listed c.args.order c.args.b.now))
    (c.in_ok-add.ensures ∙ ap (λ (v : List Extent). v ++ found Super 0 76 0 0) c.requires.none.1)
