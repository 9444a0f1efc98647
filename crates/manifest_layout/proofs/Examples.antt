-- Manifests that fit, and misfits of others, by computing.
use Rattle.std.proofs.Common.{◌≡◌, ℕ, zero, suc, List, [], ◌∷◌, ◌++◌, replicate, refl, subst, codes, Option, Some, None}
use Rattle.std.proofs.Common.{Result, Ok, Err}
use Rattle.percent_encoding.specs.Percent.{percent_decode}
use Rattle.rom_fields.specs.declared.fault.Fault.{Fault}
use Rattle.manifest.specs.Texts.{octal, decimal}
use Rattle.manifest.specs.Paths.{names_of, is_bad_name}
use Rattle.manifest.specs.Lines.{ManifestLines}
use Rattle.manifest.specs.Grammar.{numbers_of, fault_of, read, manifest_of}
use Rattle.manifest.specs.Grammar as grammar
use Rattle.manifest_tree.specs.Tree.{tree_of, root_of, file_at, inode_of}
use Rattle.cramfs_format.specs.declared.order.Order.TheVariants.{Little, Big}
use Rattle.romfs_layout.specs.Layout.{place_of, data_align, device_of, code_of}
use Rattle.cramfs_layout.specs.Layout.{size_of, kept, data_of}
use Rattle.formats.specs.Format.{Format, romfs, cramfs}
use Rattle.manifest_layout.specs.Format.{len_of}
use Rattle.manifest_layout.specs.Misfit.{ATTRIBUTE, TOO_LARGE, NAME_TOO_LONG, HARD_LINK}
use Rattle.manifest_layout.specs.Tests.{fault}
use Rattle.manifest_layout.proofs.Decided.{least_misfit, Judged, decided}

-- what is said of a text, if it is a manifest
abbrev Decides : Format → List ℕ → Result ManifestLines grammar.Fault → Option Fault → Type 0
Decides f sizes (Ok m) o = Judged f m sizes o
Decides f sizes (Err e) o = ⊥

abbrev least_by : Format → List ℕ → Result ManifestLines grammar.Fault → Option (Option Fault)
least_by f sizes (Ok m) = Some (least_misfit f m sizes)
least_by f sizes (Err e) = None

abbrev length_by : Format → List ℕ → Result ManifestLines grammar.Fault → ℕ
length_by f sizes (Ok m) = len_of f m sizes
length_by f sizes (Err e) = 0

decides : (f : Format) (sizes : List ℕ) (r : Result ManifestLines grammar.Fault) (o : Option Fault)
    → least_by f sizes r ≡ Some o → Decides f sizes r o
decides f sizes (Ok m) o e = subst (Judged f m sizes) (same e) (decided f m sizes)
  where
    same : {u v : Option Fault} → Some u ≡ Some v → u ≡ v
    same e = cc
decides f sizes (Err r) o e = absurd (cc)

lines : List (List ℕ) → List ℕ
lines [] = []
lines (l ∷ ls) = l ++ (10 ∷ lines ls)

-- one file of five bytes fits each format
fits_romfs : Decides romfs (5 ∷ []) (manifest_of (lines (codes "file /a 0644 0 0 4 s" ∷ []))) None
unfolding lines manifest_of read numbers_of fault_of octal decimal names_of is_bad_name percent_decode tree_of root_of
    file_at inode_of place_of data_align device_of code_of size_of kept data_of
fits_romfs = decides romfs (5 ∷ []) (manifest_of (lines (codes "file /a 0644 0 0 4 s" ∷ []))) None refl

fits_cramfs : Decides (cramfs Little) (5 ∷ []) (manifest_of (lines (codes "file /a 0644 0 0 4 s" ∷ []))) None
unfolding lines manifest_of read numbers_of fault_of octal decimal names_of is_bad_name percent_decode tree_of root_of
    file_at inode_of place_of data_align device_of code_of size_of kept data_of
fits_cramfs = decides (cramfs Little) (5 ∷ []) (manifest_of (lines (codes "file /a 0644 0 0 4 s" ∷ []))) None refl

fits_cramfs_big : Decides (cramfs Big) (5 ∷ []) (manifest_of (lines (codes "file /a 0644 0 0 4 s" ∷ []))) None
unfolding lines manifest_of read numbers_of fault_of octal decimal names_of is_bad_name percent_decode tree_of root_of
    file_at inode_of place_of data_align device_of code_of size_of kept data_of
fits_cramfs_big = decides (cramfs Big) (5 ∷ []) (manifest_of (lines (codes "file /a 0644 0 0 4 s" ∷ []))) None refl

-- so does no line at all
nothing_fits : Decides romfs [] (manifest_of (lines ([]))) None
unfolding lines manifest_of read numbers_of fault_of octal decimal names_of is_bad_name percent_decode tree_of root_of
    file_at inode_of place_of data_align device_of code_of size_of kept data_of
nothing_fits = decides romfs [] (manifest_of (lines ([]))) None refl

-- a file of more than 2^28 bytes is too large at its line
large_file : Decides romfs (268435457 ∷ []) (manifest_of (lines (codes "file /a 0644 0 0 4 s" ∷ [])))
    (Some (fault TOO_LARGE 1))
unfolding lines manifest_of read numbers_of fault_of octal decimal names_of is_bad_name percent_decode tree_of root_of
    file_at inode_of place_of data_align device_of code_of size_of kept data_of
large_file = decides romfs (268435457 ∷ []) (manifest_of (lines (codes "file /a 0644 0 0 4 s" ∷ [])))
    (Some (fault TOO_LARGE 1)) refl

-- with 2^28 bytes it is the whole that is too large
large_whole : Decides romfs (268435456 ∷ []) (manifest_of (lines (codes "file /a 0644 0 0 4 s" ∷ [])))
    (Some (fault TOO_LARGE 0))
unfolding lines manifest_of read numbers_of fault_of octal decimal names_of is_bad_name percent_decode tree_of root_of
    file_at inode_of place_of data_align device_of code_of size_of kept data_of
large_whole = decides romfs (268435456 ∷ []) (manifest_of (lines (codes "file /a 0644 0 0 4 s" ∷ [])))
    (Some (fault TOO_LARGE 0)) refl

-- in cramfs a size has 24 bits
large_in_cramfs : Decides (cramfs Little) (16777216 ∷ []) (manifest_of (lines (codes "file /a 0644 0 0 4 s" ∷ [])))
    (Some (fault TOO_LARGE 1))
unfolding lines manifest_of read numbers_of fault_of octal decimal names_of is_bad_name percent_decode tree_of root_of
    file_at inode_of place_of data_align device_of code_of size_of kept data_of
large_in_cramfs = decides (cramfs Little) (16777216 ∷ []) (manifest_of (lines (codes "file /a 0644 0 0 4 s" ∷ [])))
    (Some (fault TOO_LARGE 1)) refl

largest_in_cramfs : Decides (cramfs Little) (16777215 ∷ [])
    (manifest_of (lines (codes "file /a 0644 0 0 4 s" ∷ []))) None
unfolding lines manifest_of read numbers_of fault_of octal decimal names_of is_bad_name percent_decode tree_of root_of
    file_at inode_of place_of data_align device_of code_of size_of kept data_of
largest_in_cramfs =
    decides (cramfs Little) (16777215 ∷ []) (manifest_of (lines (codes "file /a 0644 0 0 4 s" ∷ []))) None refl

largest_length : length_by (cramfs Little) (16777215 ∷ []) (manifest_of (codes "file /a 0644 0 0 4 s")) ≡ 16797696
unfolding manifest_of read numbers_of fault_of octal decimal names_of is_bad_name percent_decode tree_of root_of file_at
    inode_of place_of data_align device_of code_of size_of kept data_of
largest_length = refl

-- romfs has no mode 0600 of a file
mode : Decides romfs (5 ∷ []) (manifest_of (lines (codes "file /a 0600 0 0 4 s" ∷ []))) (Some (fault ATTRIBUTE 1))
unfolding lines manifest_of read numbers_of fault_of octal decimal names_of is_bad_name percent_decode tree_of root_of
    file_at inode_of place_of data_align device_of code_of size_of kept data_of
mode = decides romfs (5 ∷ []) (manifest_of (lines (codes "file /a 0600 0 0 4 s" ∷ []))) (Some (fault ATTRIBUTE 1)) refl

mode_in_cramfs : Decides (cramfs Little) (5 ∷ []) (manifest_of (lines (codes "file /a 0600 0 0 4 s" ∷ []))) None
unfolding lines manifest_of read numbers_of fault_of octal decimal names_of is_bad_name percent_decode tree_of root_of
    file_at inode_of place_of data_align device_of code_of size_of kept data_of
mode_in_cramfs = decides (cramfs Little) (5 ∷ []) (manifest_of (lines (codes "file /a 0600 0 0 4 s" ∷ []))) None refl

-- romfs has no owners, and cramfs has
owner : Decides romfs [] (manifest_of (lines (codes "dir /d 0755 5 0" ∷ []))) (Some (fault ATTRIBUTE 1))
unfolding lines manifest_of read numbers_of fault_of octal decimal names_of is_bad_name percent_decode tree_of root_of
    file_at inode_of place_of data_align device_of code_of size_of kept data_of
owner = decides romfs [] (manifest_of (lines (codes "dir /d 0755 5 0" ∷ []))) (Some (fault ATTRIBUTE 1)) refl

owner_in_cramfs : Decides (cramfs Little) [] (manifest_of (lines (codes "dir /d 0755 5 0" ∷ []))) None
unfolding lines manifest_of read numbers_of fault_of octal decimal names_of is_bad_name percent_decode tree_of root_of
    file_at inode_of place_of data_align device_of code_of size_of kept data_of
owner_in_cramfs = decides (cramfs Little) [] (manifest_of (lines (codes "dir /d 0755 5 0" ∷ []))) None refl

-- in cramfs a group has 8 bits
group : Decides (cramfs Little) [] (manifest_of (lines (codes "dir /d 0755 0 256" ∷ []))) (Some (fault ATTRIBUTE 1))
unfolding lines manifest_of read numbers_of fault_of octal decimal names_of is_bad_name percent_decode tree_of root_of
    file_at inode_of place_of data_align device_of code_of size_of kept data_of
group = decides (cramfs Little) [] (manifest_of (lines (codes "dir /d 0755 0 256" ∷ [])))
    (Some (fault ATTRIBUTE 1)) refl

greatest_group : Decides (cramfs Little) [] (manifest_of (lines (codes "dir /d 0755 0 255" ∷ []))) None
unfolding lines manifest_of read numbers_of fault_of octal decimal names_of is_bad_name percent_decode tree_of root_of
    file_at inode_of place_of data_align device_of code_of size_of kept data_of
greatest_group = decides (cramfs Little) [] (manifest_of (lines (codes "dir /d 0755 0 255" ∷ []))) None refl

-- a device has numbers of 16 bits in romfs, and of 8 bits in cramfs
device : Decides romfs [] (manifest_of (lines (codes "nod /n 0600 0 0 b 65536 0" ∷ []))) (Some (fault ATTRIBUTE 1))
unfolding lines manifest_of read numbers_of fault_of octal decimal names_of is_bad_name percent_decode tree_of root_of
    file_at inode_of place_of data_align device_of code_of size_of kept data_of
device = decides romfs [] (manifest_of (lines (codes "nod /n 0600 0 0 b 65536 0" ∷ []))) (Some (fault ATTRIBUTE 1)) refl

greatest_device : Decides romfs [] (manifest_of (lines (codes "nod /n 0600 0 0 b 65535 65535" ∷ []))) None
unfolding lines manifest_of read numbers_of fault_of octal decimal names_of is_bad_name percent_decode tree_of root_of
    file_at inode_of place_of data_align device_of code_of size_of kept data_of
greatest_device = decides romfs [] (manifest_of (lines (codes "nod /n 0600 0 0 b 65535 65535" ∷ []))) None refl

device_in_cramfs : Decides (cramfs Big) [] (manifest_of (lines (codes "nod /n 0600 0 0 c 0 256" ∷ [])))
    (Some (fault ATTRIBUTE 1))
unfolding lines manifest_of read numbers_of fault_of octal decimal names_of is_bad_name percent_decode tree_of root_of
    file_at inode_of place_of data_align device_of code_of size_of kept data_of
device_in_cramfs =
    decides (cramfs Big) [] (manifest_of (lines (codes "nod /n 0600 0 0 c 0 256" ∷ []))) (Some (fault ATTRIBUTE 1)) refl

greatest_device_in_cramfs : Decides (cramfs Big) [] (manifest_of (lines (codes "nod /n 0600 0 0 c 255 255" ∷ []))) None
unfolding lines manifest_of read numbers_of fault_of octal decimal names_of is_bad_name percent_decode tree_of root_of
    file_at inode_of place_of data_align device_of code_of size_of kept data_of
greatest_device_in_cramfs =
    decides (cramfs Big) [] (manifest_of (lines (codes "nod /n 0600 0 0 c 255 255" ∷ []))) None refl

-- in cramfs a name has at most 252 bytes, and a volume name 16
name : Decides (cramfs Little) [] (manifest_of (lines
    ((codes "pipe /" ++ (replicate 253 97 ++ codes " 0644 0 0")) ∷ [])))
    (Some (fault NAME_TOO_LONG 1))
unfolding lines manifest_of read numbers_of fault_of octal decimal names_of is_bad_name percent_decode tree_of root_of
    file_at inode_of place_of data_align device_of code_of size_of kept data_of
name = decides (cramfs Little) [] (manifest_of (lines
    ((codes "pipe /" ++ (replicate 253 97 ++ codes " 0644 0 0")) ∷ [])))
    (Some (fault NAME_TOO_LONG 1)) refl

longest_name : Decides (cramfs Little) []
    (manifest_of (lines ((codes "pipe /" ++ (replicate 252 97 ++ codes " 0644 0 0")) ∷ []))) None
unfolding lines manifest_of read numbers_of fault_of octal decimal names_of is_bad_name percent_decode tree_of root_of
    file_at inode_of place_of data_align device_of code_of size_of kept data_of
longest_name = decides (cramfs Little) []
    (manifest_of (lines ((codes "pipe /" ++ (replicate 252 97 ++ codes " 0644 0 0")) ∷ []))) None refl

name_in_romfs : Decides romfs [] (manifest_of
    (lines ((codes "pipe /" ++ (replicate 253 97 ++ codes " 0644 0 0")) ∷ []))) None
unfolding lines manifest_of read numbers_of fault_of octal decimal names_of is_bad_name percent_decode tree_of root_of
    file_at inode_of place_of data_align device_of code_of size_of kept data_of
name_in_romfs =
    decides romfs [] (manifest_of (lines ((codes "pipe /" ++ (replicate 253 97 ++ codes " 0644 0 0")) ∷ []))) None refl

volume : Decides (cramfs Little) [] (manifest_of (lines (codes "# a volume" ∷ codes "volume seventeen_letters" ∷ [])))
    (Some (fault NAME_TOO_LONG 2))
unfolding lines manifest_of read numbers_of fault_of octal decimal names_of is_bad_name percent_decode tree_of root_of
    file_at inode_of place_of data_align device_of code_of size_of kept data_of
volume = decides (cramfs Little) [] (manifest_of (lines (codes "# a volume" ∷ codes "volume seventeen_letters" ∷ [])))
    (Some (fault NAME_TOO_LONG 2)) refl

longest_volume : Decides (cramfs Little) [] (manifest_of (lines (codes "volume sixteen__letters" ∷ []))) None
unfolding lines manifest_of read numbers_of fault_of octal decimal names_of is_bad_name percent_decode tree_of root_of
    file_at inode_of place_of data_align device_of code_of size_of kept data_of
longest_volume = decides (cramfs Little) [] (manifest_of (lines (codes "volume sixteen__letters" ∷ []))) None refl

-- cramfs has no hard links
hard_link : Decides (cramfs Little) (5 ∷ [])
    (manifest_of (lines (codes "file /a 0644 0 0 4 s" ∷ codes "hard /b /a" ∷ []))) (Some (fault HARD_LINK 2))
unfolding lines manifest_of read numbers_of fault_of octal decimal names_of is_bad_name percent_decode tree_of root_of
    file_at inode_of place_of data_align device_of code_of size_of kept data_of
hard_link = decides (cramfs Little) (5 ∷ [])
    (manifest_of (lines (codes "file /a 0644 0 0 4 s" ∷ codes "hard /b /a" ∷ []))) (Some (fault HARD_LINK 2)) refl

hard_link_in_romfs : Decides romfs (5 ∷ [])
    (manifest_of (lines (codes "file /a 0644 0 0 4 s" ∷ codes "hard /b /a" ∷ []))) None
unfolding lines manifest_of read numbers_of fault_of octal decimal names_of is_bad_name percent_decode tree_of root_of
    file_at inode_of place_of data_align device_of code_of size_of kept data_of
hard_link_in_romfs =
    decides romfs (5 ∷ []) (manifest_of (lines (codes "file /a 0644 0 0 4 s" ∷ codes "hard /b /a" ∷ []))) None refl

-- a hard link has no attributes of its own: only the file is refused
attribute_of_link : Decides romfs (5 ∷ []) (manifest_of
    (lines (codes "file /a 0600 0 0 4 s" ∷ codes "hard /b /a" ∷ [])))
    (Some (fault ATTRIBUTE 1))
unfolding lines manifest_of read numbers_of fault_of octal decimal names_of is_bad_name percent_decode tree_of root_of
    file_at inode_of place_of data_align device_of code_of size_of kept data_of
attribute_of_link = decides romfs (5 ∷ []) (manifest_of
    (lines (codes "file /a 0600 0 0 4 s" ∷ codes "hard /b /a" ∷ [])))
    (Some (fault ATTRIBUTE 1)) refl

-- of two misfits in one line the lesser number counts, and of two lines the first
least_number : Decides romfs (268435457 ∷ []) (manifest_of (lines (codes "file /a 0600 0 0 4 s" ∷ [])))
    (Some (fault ATTRIBUTE 1))
unfolding lines manifest_of read numbers_of fault_of octal decimal names_of is_bad_name percent_decode tree_of root_of
    file_at inode_of place_of data_align device_of code_of size_of kept data_of
least_number = decides romfs (268435457 ∷ []) (manifest_of (lines (codes "file /a 0600 0 0 4 s" ∷ [])))
    (Some (fault ATTRIBUTE 1)) refl

first_line : Decides romfs (268435457 ∷ [])
    (manifest_of (lines (codes "file /a 0644 0 0 4 s" ∷ codes "dir /d 0700 0 0" ∷ []))) (Some (fault TOO_LARGE 1))
unfolding lines manifest_of read numbers_of fault_of octal decimal names_of is_bad_name percent_decode tree_of root_of
    file_at inode_of place_of data_align device_of code_of size_of kept data_of
first_line = decides romfs (268435457 ∷ [])
    (manifest_of (lines (codes "file /a 0644 0 0 4 s" ∷ codes "dir /d 0700 0 0" ∷ []))) (Some (fault TOO_LARGE 1)) refl

-- a line comes before the whole
line_before_whole : Decides romfs (268435456 ∷ [])
    (manifest_of (lines (codes "file /a 0644 0 0 4 s" ∷ codes "dir /d 0700 0 0" ∷ []))) (Some (fault ATTRIBUTE 2))
unfolding lines manifest_of read numbers_of fault_of octal decimal names_of is_bad_name percent_decode tree_of root_of
    file_at inode_of place_of data_align device_of code_of size_of kept data_of
line_before_whole = decides romfs (268435456 ∷ [])
    (manifest_of (lines (codes "file /a 0644 0 0 4 s" ∷ codes "dir /d 0700 0 0" ∷ []))) (Some (fault ATTRIBUTE 2)) refl

line_before_volume : Decides (cramfs Little) []
    (manifest_of (lines (codes "dir /d 0755 65536 0" ∷ codes "volume seventeen_letters" ∷ [])))
    (Some (fault ATTRIBUTE 1))
unfolding lines manifest_of read numbers_of fault_of octal decimal names_of is_bad_name percent_decode tree_of root_of
    file_at inode_of place_of data_align device_of code_of size_of kept data_of
line_before_volume = decides (cramfs Little) []
    (manifest_of (lines (codes "dir /d 0755 65536 0" ∷ codes "volume seventeen_letters" ∷ [])))
    (Some (fault ATTRIBUTE 1)) refl

-- directories of the name `d`, each in the one before
path_of_ds : ℕ → List ℕ
path_of_ds zero = []
path_of_ds (suc n) = 47 ∷ 100 ∷ path_of_ds n

dirs : ℕ → ℕ → List (List ℕ)
dirs deep zero = []
dirs deep (suc n) = (codes "dir " ++ (path_of_ds deep ++ codes " 0755 0 0")) ∷ dirs (suc deep) n

-- 64 directories in one another fit, and 65 are too deep as a whole
deepest : Decides romfs [] (manifest_of (lines (dirs 1 64))) None
unfolding lines dirs path_of_ds manifest_of read numbers_of fault_of octal decimal names_of is_bad_name percent_decode
    tree_of root_of file_at inode_of place_of data_align device_of code_of size_of kept data_of
deepest = decides romfs [] (manifest_of (lines (dirs 1 64))) None refl

too_deep : Decides romfs [] (manifest_of (lines (dirs 1 65))) (Some (fault TOO_LARGE 0))
unfolding lines dirs path_of_ds manifest_of read numbers_of fault_of octal decimal names_of is_bad_name percent_decode
    tree_of root_of file_at inode_of place_of data_align device_of code_of size_of kept data_of
too_deep = decides romfs [] (manifest_of (lines (dirs 1 65))) (Some (fault TOO_LARGE 0)) refl

too_deep_in_cramfs : Decides (cramfs Little) [] (manifest_of (lines (dirs 1 65))) (Some (fault TOO_LARGE 0))
unfolding lines dirs path_of_ds manifest_of read numbers_of fault_of octal decimal names_of is_bad_name percent_decode
    tree_of root_of file_at inode_of place_of data_align device_of code_of size_of kept data_of
too_deep_in_cramfs = decides (cramfs Little) [] (manifest_of (lines (dirs 1 65))) (Some (fault TOO_LARGE 0)) refl
