use Rattle.std.proofs.Common.{◌≡◌, ◌∙◌, ap, sym, ℕ}
use Rattle.rom_tree.specs.Tree.{ino_of}
use Rattle.rom_tree.proofs.Named.{node_number}
use Rattle.cramfs_image.specs.Reported.{order_in}
use Rattle.linux_misreads.specs.Tables.{view}
use Rattle.linux_misreads.specs.Readers.{old_device, cramfs_device}
use Rattle.linux_misreads.specs.Seen.{seen_of}
use Rattle.linux_misreads.proofs.nodes.seen_in_cramfs.Goals as goal

pub returns : goal.returns
returns c = λ x e.
    let n : c.args.n.0 ≡ ino_of x = sym (node_number (view c.args.image.now) c.args.n.0 x e) in
    let p : c.old_device.result ≡ cramfs_device (order_in c.args.image.now) c.args.image.now.all.now (ino_of x) =
    c.old_device.ensures ∙ (ap old_device c.size_field.ensures
    ∙ ap (cramfs_device (order_in c.args.image.now) c.args.image.now.all.now) n) in
    c.seen_at.ensures x e ∙ ap (λ (v : ℕ). seen_of v x) p
