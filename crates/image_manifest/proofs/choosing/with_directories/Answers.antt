use Rattle.std.proofs.Common.{◌≡◌, ◌-◌, ◌<◌, suc, ℕ, List, Bool, length, subst, arith, refl}
use Rattle.image_manifest.specs.declared.naming.Member.{Member}
use Rattle.image_manifest.proofs.Wanted.{IsLeft, left_first, left_next, are_chosen}
use Rattle.image_manifest.proofs.choosing.with_directories.Goals as goal

pub loop-left-init : goal.loop-left-init
loop-left-init c = (omega arith, left_first c.args.members.now c.args.wanted.items c.requires)

pub add_directory-requires : goal.add_directory-requires
add_directory-requires c = record {
  within = omega (arith, c.loop-left.invariant.0, c.loop-left-test.true);
  all = c.loop-left.invariant.1.many;
}

pub loop-left-preserved : goal.loop-left-preserved
loop-left-preserved c =
    let ms : List Member = c.args.members.now in
    let old : List Bool = c.args.wanted.items in
    let n : ℕ = c.loop-left.left in
    let inside : n - 1 < length ms = omega (arith, c.loop-left.invariant.0, c.loop-left-test.true) in
    let is : n ≡ suc (n - 1) = omega (arith, c.loop-left-test.true) in (
      omega (arith, inside),
      left_next ms old (n - 1) c.loop-left.chosen.items c.add_directory.new.chosen.items
          (subst (λ (k : ℕ). IsLeft ms old k c.loop-left.chosen.items) is c.loop-left.invariant.1) inside
          c.add_directory.ensures.length c.add_directory.ensures.added,
    )

pub returns : goal.returns
returns c = λ ps are.
    let ms : List Member = c.args.members.now in
    let old : List Bool = c.args.wanted.items in
    let none : c.loop-left.left ≡ 0 = omega (arith, c.loop-left-test.false) in
    are_chosen ms old c.loop-left.chosen.items
    (subst (λ (k : ℕ). IsLeft ms old k c.loop-left.chosen.items) none c.loop-left.invariant.1) ps are
