use Rattle.std.proofs.Common.{◌≡◌, ◌∙◌, ap, arith}
use Rattle.cramfs_format.specs.declared.order.Order.{Order}
use Rattle.cramfs_format.specs.Superblock.{accessible_size}
use Rattle.cramfs_image.specs.Reported.{order_in}
use Rattle.image_info.proofs.Given.{cramfs_shown, checked_cramfs, cramfs_counted}
use Rattle.image_info.proofs.counting.count_cramfs.Goals as goal

pub extents-requires : goal.extents-requires
extents-requires c = (c.requires.limits, cramfs_shown c.args.image.now c.requires)

pub returns : goal.returns
returns c =
    let s = c.args.image.now in
    let o : Order = order_in s in
    let f = c.parts.type_inv in
    let n = c.parts.ensures.references in
    let size : c.accessible_size-size.result ≡ accessible_size o s.all.now =
    c.accessible_size-size.ensures ∙ ap (λ (v : Order). accessible_size v c.bytes.result.now) c.parts.ensures.order
    ∙ ap (accessible_size o) c.bytes.ensures in
    cramfs_counted o s.all.now c.accessible_size-size.result c.unused_bytes.result c.deref_mut.result.now
    c.in_ok-spans.spans.items (checked_cramfs s c.requires (omega (arith, f, n))) size c.deref_mut.ensures.value
    c.in_ok-spans.ensures c.unused_bytes.ensures
