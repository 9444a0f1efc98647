use Rattle.std.proofs.Common.{◌≡◌, ◌+◌, ◌*◌, ◌/◌, ℕ, length, drop, List, arith, ap}
use Rattle.romfs_format.specs.Record.{before_zero}
use Rattle.romfs_format.specs.Tree.{root_of}
use Rattle.romfs_image.proofs.superblock.root_offset.Goals as goal

-- the root's offset behind a volume name of n bytes
root_is : (b : List ℕ) (n : ℕ) → n ≡ length (before_zero (drop 16 b)) → 16 + (n + 1 + 15) / 16 * 16 ≡ root_of b
unfolding root_of
root_is b n e = ap (λ (x : ℕ). 16 + (x + 1 + 15) / 16 * 16) e

pub returns-in_default : goal.returns-in_default
returns-in_default c = λ h. c.in_default.ensures h.0

pub returns-then-b-root : goal.returns-then-b-root
returns-then-b-root c = λ h. let e = root_is c.args.b.now c.in-Some.len c.in-Some.ensures.1 in omega arith

pub returns : goal.returns
returns c =
    let e = root_is c.args.b.now c.in-Some.len c.in-Some.ensures.1 in
    ((c.in-Some.ensures.0, omega arith), e)
