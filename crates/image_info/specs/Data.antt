-- `data_places`, `data_bytes`: two numbers of a node say where its bytes are: where they begin
-- (romfs), or where its block pointers begin (cramfs), and how many bytes it has. `data_cmp`: an
-- order of them. (Linux Documentation/filesystems/romfs.rst and cramfs.rst.)
use Rattle.std.specs.Prelude.{ℕ, List, map, slice_index, take}
use Rattle.std.specs.Ordering.{nat_cmp, ordering_then}
use Rattle.std.specs.declared.cmp.Ordering.{Ordering}
use Rattle.rom_tree.specs.Tree.{row_from}
use Rattle.cramfs_format.specs.Inode.{block_count}
use Rattle.cramfs_format.specs.Tree.{blocks_from}
use Rattle.image_check.specs.declared.any.Parts.{Parts}
use Rattle.image_check.specs.declared.any.Parts.TheVariants.{Romfs, Cramfs}
use Rattle.image_info.specs.declared.data.Data.{Data}

-- the offsets of the bytes, in an image with these numbers
abbrev pub data_places : List ℕ → Parts → Data → List ℕ
data_places all (Romfs n) d = row_from d.start d.size
data_places all (Cramfs n) d =
    blocks_from n.order (take n.accessible all) (block_count d.size) d.start d.size

-- the bytes
abbrev pub data_bytes : List ℕ → Parts → Data → List ℕ
data_bytes all n d = map (λ p. slice_index all p) (data_places all n d)

-- by where they begin, and then by their number
abbrev pub data_cmp : Data → Data → Ordering
data_cmp a b = ordering_then (nat_cmp a.start b.start) (nat_cmp a.size b.size)
