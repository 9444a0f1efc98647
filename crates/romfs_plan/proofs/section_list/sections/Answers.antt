use Rattle.std.proofs.Common.{◌<◌, length}
use Rattle.manifest_tree.specs.Items.{Item}
use Rattle.manifest_layout.specs.Views.{item_view}
use Rattle.romfs_plan.proofs.Lists.{here}
use Rattle.romfs_plan.proofs.section_list.sections.Goals as goal

pub record_section-requires : goal.record_section-requires
record_section-requires c =
    here (λ (i : Item). length i.name < 256) item_view c.args.items.now c.loop-index.index c.index-items-index.result
    c.requires.names c.loop-index-test.true c.index-items-index.is
