use Rattle.std.proofs.Common.{◌≡◌, ◌++◌, drop, map}
use Rattle.manifest_layout.specs.Views.{item_view, section_view}
use Rattle.romfs_layout.specs.Items.{sections_from, sections_of}
use Rattle.romfs_plan.proofs.section_list.sections.Given as goal

abbrev pub invariant-loop-index : goal.invariant-loop-index
invariant-loop-index l = map section_view l.found.items ++ sections_from l.index (map item_view (drop l.index l.items))
    ≡ sections_of l.volume (map item_view l.items)
