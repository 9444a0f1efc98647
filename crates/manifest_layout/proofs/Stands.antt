-- What the items of worked manifests are, by computing.
use Rattle.std.proofs.Common.{◌≡◌, ℕ, List, [], ◌∷◌, ◌++◌, map, refl, codes, Result, Ok, Err}
use Rattle.percent_encoding.specs.Percent.{percent_decode}
use Rattle.manifest.specs.Texts.{octal, decimal}
use Rattle.manifest.specs.Paths.{names_of, is_bad_name}
use Rattle.manifest.specs.Lines.{ManifestLines}
use Rattle.manifest.specs.Grammar.{Fault, numbers_of, fault_of, read, manifest_of}
use Rattle.manifest_tree.specs.Tree.{tree_of, root_of, file_at, inode_of}
use Rattle.cramfs_format.specs.declared.order.Order.TheVariants.{Little}
use Rattle.romfs_layout.specs.Layout.{place_of, data_align, device_of, code_of}
use Rattle.cramfs_layout.specs.Layout.{kept, data_of}
use Rattle.formats.specs.Format.{Format, romfs, cramfs}
use Rattle.manifest_layout.specs.Format.{items_of}

-- for an item: its offset, its table, and the offset of its bytes
record Stand : Type 0 where
  place : ℕ
  table : ℕ
  start : ℕ

abbrev stand : ℕ → ℕ → ℕ → Stand
stand place table start = record { place = place; table = table; start = start }

abbrev stands_by : Format → List ℕ → Result ManifestLines Fault → List Stand
stands_by f sizes (Ok m) = map (λ i. stand i.place i.table i.start) (items_of f m sizes)
stands_by f sizes (Err e) = []

lines : List (List ℕ) → List ℕ
lines [] = []
lines (l ∷ ls) = l ++ (10 ∷ lines ls)

-- `b` is empty, so it is not aligned: it is at 144, and not at 160. `c` is aligned as the file whose contents it has.
aligned_contents :
    stands_by romfs (5 ∷ 0 ∷ []) (manifest_of
    (lines (codes "file /a 0644 0 0 64 s" ∷ codes "file /b 0644 0 0 64 t" ∷ codes "same /c 0644 0 0 /a" ∷ []))) ≡
    stand 32 0 0 ∷ stand 64 0 0 ∷ stand 96 0 128 ∷ stand 144 0 0 ∷ stand 224 0 256 ∷ []
unfolding lines manifest_of read numbers_of fault_of octal decimal names_of is_bad_name percent_decode tree_of root_of
    file_at inode_of place_of data_align device_of code_of
aligned_contents = refl

-- `d/x` comes before `e` in the layout, so it has the table and the blocks, aligned as `e` asks.
same_line_first :
    stands_by (cramfs Little) (5 ∷ [])
    (manifest_of (lines (codes "dir /d 0755 0 0" ∷ codes "file /e 0644 0 0 256 s" ∷ codes "same /d/x 0600 0 0 /e"
    ∷ []))) ≡
    stand 64 0 0 ∷ stand 76 0 0 ∷ stand 92 124 256 ∷ stand 108 124 256 ∷ []
unfolding lines manifest_of read numbers_of fault_of octal decimal names_of is_bad_name percent_decode tree_of root_of
    file_at inode_of kept data_of
same_line_first = refl

-- the same in romfs: each has its own copy
same_line_in_romfs :
    stands_by romfs (5 ∷ []) (manifest_of
    (lines (codes "dir /d 0755 0 0" ∷ codes "file /e 0644 0 0 256 s" ∷ codes "same /d/x 0600 0 0 /e" ∷ []))) ≡
    stand 32 0 0 ∷ stand 64 0 0 ∷ stand 96 0 0 ∷ stand 128 0 0 ∷ stand 160 0 0 ∷ stand 224 0 256 ∷ stand 480 0 512 ∷ []
unfolding lines manifest_of read numbers_of fault_of octal decimal names_of is_bad_name percent_decode tree_of root_of
    file_at inode_of place_of data_align device_of code_of
same_line_in_romfs = refl
