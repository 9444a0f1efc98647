-- The alignments of files; of one with several names each name has the largest one of them. (This
-- project's own.)
use Rattle.std.specs.Prelude.{ℕ, max, if◌then◌else◌, List, [], ◌∷◌, map, unwrap_or}
use Rattle.std.specs.BTreeMap.{BTreeMap, get}
use Rattle.std.specs.Ordering.{nat_cmp, ordering_then}
use Rattle.build_commands.specs.Inventory.{is_linked}
use Rattle.build_commands.specs.declared.inventory.NamedFile.{NamedFile}

-- the alignment that a map has for a device and a number, or 0
abbrev pub aligned_at : BTreeMap (ℕ × ℕ) ℕ → ℕ → ℕ → ℕ
aligned_at m device number =
    unwrap_or (get (λ x y. ordering_then (nat_cmp x.0 y.0) (nat_cmp x.1 y.1)) m (device, number)) 0

-- the larger alignment, if a file has several links and this inode
abbrev pub larger : ℕ → ℕ → NamedFile → ℕ → ℕ
larger device number f most = if is_linked device number f then max f.align most else most

abbrev pub largest_from : ℕ → ℕ → ℕ → List NamedFile → ℕ
largest_from device number most [] = most
largest_from device number most (f ∷ fs) =
    largest_from device number (larger device number f most) fs

-- the largest alignment of the names of an inode
abbrev pub largest : ℕ → ℕ → List NamedFile → ℕ
largest device number fs = largest_from device number 0 fs

-- a file with the largest alignment of its names
abbrev pub shared : List NamedFile → NamedFile → NamedFile
shared fs f =
    if f.has_links then record f { align = largest f.inode.device f.inode.number fs } else f

-- a file with the alignment that a map has for it
abbrev pub shared_by : BTreeMap (ℕ × ℕ) ℕ → NamedFile → NamedFile
shared_by m f =
    if f.has_links then record f { align = aligned_at m f.inode.device f.inode.number } else f

-- each file with the alignment of its index, if there is one
abbrev pub aligned_each : List ℕ → List NamedFile → List NamedFile
aligned_each [] fs = fs
aligned_each (align ∷ aligns) [] = []
aligned_each (align ∷ aligns) (f ∷ fs) = record f { align = align } ∷ aligned_each aligns fs

-- and then each name of a file with the largest alignment of its names
abbrev pub aligned_all : List ℕ → List NamedFile → List NamedFile
aligned_all aligns fs = map (shared (aligned_each aligns fs)) (aligned_each aligns fs)
