use Rattle.std.proofs.Common.{inl, inr}
use Rattle.image_check.proofs.Formats.{apart, romfs_begins}
use Rattle.image_check.proofs.laws.one_tree.Goals as goal

pub returns : goal.returns
returns c = λ all limits others t u x y. elim x [
  | inl r ↦ elim y [
    | inl s ↦ c.one_tree.ensures all limits.references others.references limits.depth others.depth t u r
        s
    | inr s ↦ absurd (apart s.0 all (romfs_begins r) s.1.super.begins)
  ]
  | inr r ↦ elim y [
    | inl s ↦ absurd (apart r.0 all
        (romfs_begins s) r.1.super.begins)
    | inr s ↦ c.one_tree-2.ensures.tree r.0 s.0 all limits.references
        others.references limits.depth others.depth t u r.1 s.1
  ]
]
