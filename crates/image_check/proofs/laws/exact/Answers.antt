use Rattle.std.proofs.Common.{inl, inr, subst}
use Rattle.cramfs_format.specs.declared.order.Order.{Order}
use Rattle.cramfs_format.specs.Superblock.{order_of}
use Rattle.cramfs_format.specs.Faults.{HasNoFault}
use Rattle.cramfs_format.proofs.Begins.{tree_order}
use Rattle.image_check.specs.Checked.{no_romfs_fault, no_cramfs_fault}
use Rattle.image_check.proofs.Formats.{romfs_begins, cramfs_begins}
use Rattle.image_check.proofs.laws.exact.Goals as goal

pub returns-clause-tree : goal.returns-clause-tree
returns-clause-tree c = λ all limits t x. elim x [
  | inl r ↦ no_romfs_fault (romfs_begins r) (c.exact.ensures.tree all limits.references limits.depth t r)
  | inr r ↦ no_cramfs_fault (cramfs_begins r.1)
      (subst (λ (o : Order). HasNoFault o all limits.references limits.depth)
      (tree_order r.0 all limits.references limits.depth t r.1)
      (c.exact-2.ensures.tree r.0 all limits.references limits.depth t r.1))
]

pub returns-clause-faultless : goal.returns-clause-faultless
returns-clause-faultless c = λ all limits x. elim x [
  | no_romfs_fault begins h ↦ let t = c.exact.ensures.faultless all limits.references limits.depth h in (t.0, inl t.1)
  | no_cramfs_fault begins h ↦ let t =
      c.exact-2.ensures.faultless (order_of all) all limits.references limits.depth h in (t.0, inr (order_of all, t.1))
]
