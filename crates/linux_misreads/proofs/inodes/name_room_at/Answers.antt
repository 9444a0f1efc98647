use Rattle.std.proofs.Common.{◌≡◌, ◌∙◌, ℕ, List, length, ap, arith}
use Rattle.cramfs_format.proofs.Trees.{known}
use Rattle.cramfs_format.specs.declared.order.Order.{Order}
use Rattle.cramfs_format.specs.Inode.{name_room}
use Rattle.linux_misreads.proofs.inodes.name_room_at.Goals as goal

pub room_at-requires : goal.room_at-requires
room_at-requires c =
    let h = (known c.args.image.now.sound c.args.n.0 c.requires).header in
    let w = c.args.image.now.within in
    let e : length c.bytes.result.now ≡ length c.args.image.now.all.now = ap length c.bytes.ensures in
    omega (arith, h, w, e)

pub returns : goal.returns
returns c =
    let at : ℕ = c.args.n.0 in
    c.room_at.ensures.room
    ∙ (ap (λ (v : List ℕ). name_room c.parts-order.result.order v at) c.bytes.ensures
    ∙ ap (λ (o : Order). name_room o c.args.image.now.all.now at) c.parts-order.ensures.order)
