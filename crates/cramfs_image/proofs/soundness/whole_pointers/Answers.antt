use Rattle.std.proofs.Common.{◌≡◌, ℕ, ◌+◌, ◌*◌, ◌/◌, subst, arith}
use Rattle.cramfs_format.specs.Order.{word}
use Rattle.cramfs_format.specs.Inode.{IsPlain, Lies, block_start}
use Rattle.cramfs_image.proofs.soundness.whole_pointers.Goals as goal

pub returns-clause-whole : goal.returns-clause-whole
returns-clause-whole c = λ i l.
    let b = c.args.b.now.bytes.now in
    let aligned = c.requires.aligned in
    let most = c.min.ensures in
    let rest = c.saturating_sub.ensures in
    let is : 4 * (c.args.table / 4 + i) ≡ c.args.table + 4 * i = omega arith in
    subst (λ (q : ℕ). IsPlain c.args.b.now.order b (word c.args.b.now.order b q)
    × Lies b (block_start (word c.args.b.now.order b q)) 4096) is
    (c.whole_up_to-next.ensures.whole (c.args.table / 4 + i) (omega arith) (omega arith))
