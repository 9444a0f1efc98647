use Rattle.std.proofs.Common.{length-take, arith, ℕ, List, take, true, false, ap, subst}
use Rattle.cramfs_format.specs.Superblock.{accessible as cramfs_accessible}
use Rattle.image_extents.proofs.CramfsApart.{cramfs_apart}
use Rattle.image_extents.specs.Apart.{AreApart}
use Rattle.image_extents.specs.Sorted.{AreBlocks}
use Rattle.image_info.proofs.Given.{cramfs_size, cramfs_known}
use Rattle.image_extents.proofs.collecting.joined_extents.Goals as goal

pub slice_bounds-bytes-end : goal.slice_bounds-bytes-end
slice_bounds-bytes-end c =
    let w = (cramfs_size c.args.order c.args.all.now c.requires).0 in
    let e = c.accessible_size.ensures in
    let l = length-take c.accessible_size.result c.args.all.now in
    grind (arith, w, e, l)

pub cramfs_extents-requires : goal.cramfs_extents-requires
cramfs_extents-requires c = cramfs_known c.args.order c.args.all.now c.accessible_size.result c.requires
    c.accessible_size.type_inv c.accessible_size.ensures

pub cramfs_extents-requires-2 : goal.cramfs_extents-requires-2
cramfs_extents-requires-2 c = cramfs_known c.args.order c.args.all.now c.accessible_size.result c.requires
    c.accessible_size.type_inv c.accessible_size.ensures

pub returns-then-are_apart : goal.returns-then-are_apart
returns-then-are_apart c =
    let B : List ℕ → Type 0 = λ b. AreBlocks true c.args.order b c.in_ok-joined.joined in
    record {
      joined = true;
      blocks = subst B (ap (λ (n : ℕ). take n c.args.all.now) c.accessible_size.ensures) c.in_ok-joined.ensures;
      apart = subst AreApart c.deref.ensures.value c.if-are_apart.ensures;
    }

pub returns : goal.returns
returns c =
    let b : List ℕ = cramfs_accessible c.args.order c.args.all.now in
    let B : List ℕ → Type 0 = λ v. AreBlocks false c.args.order v c.in_ok-single.single in
    let blocks : B b =
    subst B (ap (λ (n : ℕ). take n c.args.all.now) c.accessible_size.ensures) c.in_ok-single.ensures in
    record {
      joined = false;
      blocks = blocks;
      apart = cramfs_apart c.args.order b c.requires.most c.requires.deepest c.requires.forest c.in_ok-single.single
          c.requires.whole c.requires.few blocks;
    }
