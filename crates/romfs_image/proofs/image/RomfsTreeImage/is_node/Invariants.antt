use Rattle.romfs_format.specs.Made.{made}
use Rattle.rom_tree.specs.Tree.{nodes}
use Rattle.romfs_format.proofs.Stack.{weight}
use Rattle.rom_tree.proofs.Numbers.{among}
use Rattle.romfs_image.proofs.Walk.{Walks}
use Rattle.romfs_image.proofs.image.RomfsTreeImage.is_node.Given as goal

abbrev pub invariant-loop-at : goal.invariant-loop-at
invariant-loop-at l = Walks l.self.accessible.bytes.now l.self.accessible.root l.self.references l.n.0
    (among l.n.0 (nodes (made l.self.accessible.bytes.now l.self.accessible.root l.self.references
    l.self.accessible.root))) l.stack.items

abbrev pub decreases-loop-at : goal.decreases-loop-at
decreases-loop-at l = weight l.self.references l.self.accessible.bytes.now l.stack.items
