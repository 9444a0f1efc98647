use Rattle.std.proofs.Common.{ℕ, ◌+◌, ◌≤◌, length, take, refl, sym, ap, arith, rules}
use Rattle.std.proofs.lemmas.List.{length-take-le}
use Rattle.romfs_image.proofs.image.Romfs.again.Goals as goal

pub invariant_of-accessible : goal.invariant_of-accessible
invariant_of-accessible c =
    let e = length-take-le c.args.parts.accessible c.args.all.now c.requires.within in
    let h : c.args.parts.root + 32 ≤ length (take c.args.parts.accessible c.args.all.now) =
    omega (arith, e, c.requires.header) in
    record { small = c.requires.sound.small; below = c.requires.below; header = h }

pub invariant_of-result : goal.invariant_of-result
invariant_of-result c =
    let n = c.args.parts.accessible in
    let all = c.args.all.now in
    let e = length-take-le n all c.requires.within in
    let w : length (take n all) ≤ length all = omega (arith, e, c.requires.within) in
    record { sound = c.requires.sound; few = search rules; within = w; front = ap (λ (v : ℕ). take v all) (sym e) }

pub returns-clause-tree : goal.returns-clause-tree
returns-clause-tree c = refl

pub returns-clause-cursors : goal.returns-clause-cursors
returns-clause-cursors c = refl
