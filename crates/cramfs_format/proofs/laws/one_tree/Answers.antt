use Rattle.std.proofs.Common.{sym, subst, ◌∙◌}
use Rattle.cramfs_format.specs.declared.order.Order.{Order}
use Rattle.cramfs_format.specs.Tree.{CramfsTree}
use Rattle.cramfs_format.proofs.Begins.{tree_order}
use Rattle.cramfs_format.proofs.Bridge.{same_tree}
use Rattle.cramfs_format.proofs.laws.one_tree.Goals as goal

pub returns-clause-tree : goal.returns-clause-tree
returns-clause-tree c = λ o p bytes m n d e t u h k.
    let same = tree_order p bytes n e u k ∙ sym (tree_order o bytes m d t h) in
    same_tree o bytes m n d e t u h (subst (λ (v : Order). CramfsTree v bytes n e u) same k)

pub returns-clause-order : goal.returns-clause-order
returns-clause-order c = tree_order
