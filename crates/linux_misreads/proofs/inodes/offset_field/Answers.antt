use Rattle.std.proofs.Common.{◌≡◌, ◌∙◌, ℕ, List, length, ap, arith}
use Rattle.cramfs_format.proofs.Trees.{known}
use Rattle.cramfs_format.specs.declared.order.Order.{Order}
use Rattle.cramfs_format.specs.Inode.{offset_of}
use Rattle.linux_misreads.proofs.inodes.offset_field.Goals as goal

pub offset_at-requires : goal.offset_at-requires
offset_at-requires c =
    let h = (known c.args.image.now.sound c.args.n.0 c.requires).header in
    let w = c.args.image.now.within in
    let e : length c.bytes.result.now ≡ length c.args.image.now.all.now = ap length c.bytes.ensures in
    omega (arith, h, w, e)

pub returns : goal.returns
returns c =
    let at : ℕ = c.args.n.0 in
    c.offset_at.ensures.offset
    ∙ (ap (λ (v : List ℕ). offset_of c.parts-order.result.order v at) c.bytes.ensures
    ∙ ap (λ (o : Order). offset_of o c.args.image.now.all.now at) c.parts-order.ensures.order)
