-- For the proofs: `ReadsEntry`: the meaning of an entry of the layout in the bytes. `IsEntry`: an
-- entry that can be written. (The fields are those of Linux include/uapi/linux/cramfs_fs.h.)
use Rattle.std.specs.Prelude.{◌≡◌, ◌≢◌, ℕ, ◌+◌, ◌%◌, ◌^◌, ◌<◌, ◌≤◌, List, length}
use Rattle.std.specs.List.{AllByRecursion as Every}
use Rattle.cramfs_format.specs.declared.order.Order.{Order}
use Rattle.cramfs_format.specs.Inode.{mode_of, uid_of, size_of, gid_of, offset_of, type_of, name_of}
use Rattle.cramfs_format.specs.Inode.{end_of}
use Rattle.manifest_tree.specs.Names.{Inode}
use Rattle.cramfs_layout.specs.Layout.{type_bits, entry_len}

-- an entry that can be written
pub record IsEntry (name : List ℕ) (i : Inode) (size offset : ℕ) : Type 0 where
  pub mode : i.mode < 4096
  pub uid : i.uid < 2 ^ 16
  pub size_small : size < 2 ^ 24
  pub gid : i.gid < 2 ^ 8
  pub short : length name ≤ 252
  pub offset_small : offset < 2 ^ 28
  pub offset_even : offset % 4 ≡ 0
  pub no_zero : Every (λ x. x ≢ 0) name

-- the bytes at p are an entry of this file by this name, with this size and offset
pub record ReadsEntry (o : Order) (b : List ℕ) (p : ℕ) (name : List ℕ) (i : Inode)
    (size offset : ℕ) : Type 0 where
  pub type : type_of o b p ≡ type_bits i.kind
  pub mode : mode_of o b p % 4096 ≡ i.mode
  pub uid : uid_of o b p ≡ i.uid
  pub size_is : size_of o b p ≡ size
  pub gid : gid_of o b p ≡ i.gid
  pub offset_is : offset_of o b p ≡ offset
  pub name_is : name_of o b p ≡ name
  pub end : end_of o b p ≡ p + entry_len name
