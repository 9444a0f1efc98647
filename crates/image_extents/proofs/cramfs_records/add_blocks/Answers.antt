use Rattle.std.proofs.Common.{◌≡◌, ◌∙◌, ◌+◌, ◌-◌, ◌*◌, ℕ, ap, arith, min}
use Rattle.cramfs_format.specs.Order.{word}
use Rattle.cramfs_format.specs.Inode.{block_start}
use Rattle.image_extents.specs.declared.extent.Kind.TheVariants.{Data}
use Rattle.image_extents.proofs.Blocks.{block_more}
use Rattle.image_extents.proofs.cramfs_records.add_blocks.Goals as goal

pub pointers-preserved : goal.pointers-preserved
pointers-preserved c =
    let i : ℕ = c.pointers.i in
    let start : ℕ = block_start (word c.args.order c.args.b.now (c.args.table + 4 * i)) in
    let s : c.start_of.result ≡ start = c.start_of.ensures ∙ ap block_start c.word-pointer.ensures in
    let m : c.min.result ≡ min 4096 (c.args.size - 4096 * i) = let e = c.min.ensures in grind (arith, e) in
    block_more c.args.joined c.args.order c.args.b.now c.args.owner c.args.table c.args.size c.blocks_of-count.result i
    c.pointers.extents.items c.add_block.new.extents.items c.args.extents.now.items
    (record { kind = Data; start = c.start_of.result; len = c.min.result; offset = 4096 * i; owner = c.args.owner })
    c.pointers-test.true c.pointers.invariant
    (ap (λ (v : ℕ). record { kind = Data; start = v; len = c.min.result; offset = 4096 * i; owner = c.args.owner }) s
    ∙ ap (λ (v : ℕ). record { kind = Data; start = start; len = v; offset = 4096 * i; owner = c.args.owner }) m)
    c.in_ok-add_block.ensures
