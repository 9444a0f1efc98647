-- The numbers of a device, in the tree and in its inode of cramfs.
use Rattle.std.proofs.Common.{◌≡◌, ℕ, ◌+◌, ◌*◌, ◌/◌, ◌%◌, ◌≤◌, true, List, length, take, sym, ap, subst, ◌∙◌, arith}
use Rattle.rom_tree.specs.Tree.{Node, IsIn, attributes_of, ino_of, is_device, nodes}
use Rattle.cramfs_format.specs.declared.order.Order.{Order}
use Rattle.cramfs_format.specs.Inode.{size_of, type_of}
use Rattle.cramfs_format.specs.Made.{made, list_at}
use Rattle.cramfs_format.specs.Order.{first_field}
use Rattle.cramfs_format.specs.Tree.{attributes_at, entries_at, kind_numbers, node_of, places_at}
use Rattle.cramfs_format.proofs.Trees.{all_made}
use Rattle.cramfs_image.specs.declared.image.Cramfs.{Cramfs}
use Rattle.cramfs_image.specs.Reported.{order_in}
use Rattle.image_check.proofs.Fronts.{front_word}
use Rattle.linux_misreads.specs.Readers.{cramfs_device, old_device}
use Rattle.linux_misreads.specs.Tables.{view}
use Rattle.linux_misreads.proofs.Devices.{device_here}

-- of the node that is made of an inode
made_number : (o : Order) (b : List ℕ) (k p : ℕ) → is_device (made o b k p) ≡ true
    → ((attributes_of (made o b k p)).major ≡ size_of o b p / 256)
    × ((attributes_of (made o b k p)).minor ≡ size_of o b p % 256)
unfolding made node_of attributes_at
made_number o b k p h = (
  device_here kind_numbers (type_of o b p) (size_of o b p / 256) (places_at o b p) (entries_at o b (list_at o b k p)) h,
  device_here kind_numbers (type_of o b p) (size_of o b p % 256) (places_at o b p) (entries_at o b (list_at o b k p)) h,
)

-- a front of bytes has the sizes of the bytes that it goes beyond
front_size : (o : Order) (b : List ℕ) (n p : ℕ) → p + 8 ≤ n → size_of o (take n b) p ≡ size_of o b p
unfolding size_of
front_size o b n p l = ap (first_field o 24) (front_word o b n (p + 4) (omega arith))

-- of the size of an inode the two lower bytes count
two_bytes : (size major minor : ℕ) → major ≡ size / 256 → minor ≡ size % 256
    → old_device size ≡ old_device (major % 256 * 256 + minor % 256)
two_bytes size major minor h l = omega (arith, h, l)

pub kept : (s : Cramfs) (x : Node) → IsIn x (nodes (view s).tree) → is_device x ≡ true
    → cramfs_device (order_in s) (view s).bytes (ino_of x)
    ≡ old_device ((attributes_of x).major % 256 * 256 + (attributes_of x).minor % 256)
kept s x i d =
    let o : Order = s.accessible.order in
    let b : List ℕ = s.accessible.bytes.now in
    let p : ℕ = ino_of x in
    let m = all_made s.sound x i in
    let h = m.known.header in
    let same : size_of o s.all.now p ≡ size_of o b p =
    sym (ap (λ (v : List ℕ). size_of o v p) s.front ∙ front_size o s.all.now (length b) p (omega (arith, h))) in
    let n = made_number o b s.references p (subst (λ (y : Node). is_device y ≡ true) m.is d) in
    ap old_device same
    ∙ two_bytes (size_of o b p) (attributes_of x).major (attributes_of x).minor
    (ap (λ (y : Node). (attributes_of y).major) m.is ∙ n.0) (ap (λ (y : Node). (attributes_of y).minor) m.is ∙ n.1)
