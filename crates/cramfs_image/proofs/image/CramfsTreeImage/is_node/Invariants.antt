use Rattle.cramfs_format.specs.Refers.{root_place}
use Rattle.cramfs_format.specs.Made.{made}
use Rattle.rom_tree.specs.Tree.{nodes}
use Rattle.cramfs_format.proofs.Stack.{weight}
use Rattle.rom_tree.proofs.Numbers.{among}
use Rattle.cramfs_image.proofs.Walk.{Walks}
use Rattle.cramfs_image.proofs.image.CramfsTreeImage.is_node.Given as goal

abbrev pub invariant-loop-list : goal.invariant-loop-list
invariant-loop-list l = Walks l.self.accessible.order l.self.accessible.bytes.now l.self.references l.n.0
    (among l.n.0 (nodes (made l.self.accessible.order l.self.accessible.bytes.now l.self.references root_place)))
    l.stack.items

abbrev pub decreases-loop-list : goal.decreases-loop-list
decreases-loop-list l = weight l.self.references l.self.accessible.order l.self.accessible.bytes.now l.stack.items
