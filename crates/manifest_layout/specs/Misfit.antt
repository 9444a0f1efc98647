-- `HasMisfit`: a line of a manifest does not fit a format, if the sources have these sizes.
-- `HasWholeMisfit`: the whole does not fit. `IsLeastMisfit`: the least of them. `HasNoMisfit`: the
-- manifest fits. (This project's own. Linux Documentation/filesystems/romfs.rst and
-- include/uapi/linux/cramfs_fs.h define what a format can store. The limits of 2^28 bytes, 2^20
-- references and 64 names are this project's.)
use Rattle.std.specs.Prelude.{◌≡◌, ◌≢◌, ℕ, ◌^◌, ◌<◌, ◌≤◌, ◌⊎◌, false, true, List, [], ◌∷◌, length}
use Rattle.std.specs.Prelude.{Option, Some, None}
use Rattle.rom_fields.specs.declared.fault.Fault.{Fault}
use Rattle.record_forest.specs.Faults.{IsLeastFault, IsNone}
use Rattle.record_forest.specs.Members.{Has}
use Rattle.manifest.specs.declared.line.Line.{Line}
use Rattle.manifest.specs.Lines.{ManifestLines, is_hard}
use Rattle.manifest.specs.Paths.{names_of}
use Rattle.manifest_tree.specs.Names.{Inode, Names, nothing, leaf, link, subdirectory}
use Rattle.manifest_tree.specs.Tree.{inode_of, tree_of}
use Rattle.manifest_tree.specs.Files.{height}
use Rattle.romfs_layout.specs.Wells.{HasMode}
use Rattle.cramfs_layout.specs.Layout.{list_len}
use Rattle.formats.specs.Format.{Format, romfs, cramfs}
use Rattle.manifest_layout.specs.Format.{len_of, references_of}

-- the numbers of misfits
abbrev pub ATTRIBUTE : ℕ
ATTRIBUTE = 1

abbrev pub TOO_LARGE : ℕ
TOO_LARGE = 2

abbrev pub NAME_TOO_LONG : ℕ
NAME_TOO_LONG = 3

abbrev pub HARD_LINK : ℕ
HARD_LINK = 4

-- an owner, a mode or a number of a device that the format cannot store
abbrev pub HasBadAttribute : Format → Inode → Type 0
HasBadAttribute romfs i =
    (i.uid ≢ 0) ⊎ ((i.gid ≢ 0) ⊎ ((HasMode i → ⊥) ⊎ ((65535 < i.major) ⊎ (65535 < i.minor))))
HasBadAttribute (cramfs o) i =
    (65535 < i.uid) ⊎ ((255 < i.gid) ⊎ ((255 < i.major) ⊎ (255 < i.minor)))

-- a file of so many bytes is too large
abbrev pub IsLarge : Format → ℕ → Type 0
IsLarge romfs size = 2 ^ 28 < size
IsLarge (cramfs o) size = 2 ^ 24 ≤ size

-- the length of the last of a path's names
abbrev pub last_len : List (List ℕ) → ℕ
last_len [] = 0
last_len (n ∷ []) = length n
last_len (n ∷ m ∷ ms) = last_len (m ∷ ms)

abbrev pub name_len : Option (List (List ℕ)) → ℕ
name_len None = 0
name_len (Some ns) = last_len ns

-- a name of so many bytes is too long; a manifest has none that is too long for romfs
abbrev pub IsLong : Format → ℕ → Type 0
IsLong romfs n = ⊥
IsLong (cramfs o) n = 252 < n

-- the name of a volume of so many bytes is too long
abbrev pub IsLongVolume : Format → ℕ → Type 0
IsLongVolume romfs n = ⊥
IsLongVolume (cramfs o) n = 16 < n

-- files cannot have further names
abbrev pub HasNoLinks : Format → Type 0
HasNoLinks romfs = ⊥
HasNoLinks (cramfs o) = Unit {0}

-- one line does not fit; a `hard` line has no attributes of its own
pub data HasMisfit (f : Format) (m : ManifestLines) (sizes : List ℕ) (l : Line) : ℕ → Type 0 where
  attribute : {k : ℕ} → k ≡ ATTRIBUTE → is_hard l.word ≡ false
      → HasBadAttribute f (inode_of m.lines sizes l)
      → HasMisfit f m sizes l k
  large : {k : ℕ} → k ≡ TOO_LARGE → IsLarge f (inode_of m.lines sizes l).size
      → HasMisfit f m sizes l k
  long_name : {k : ℕ} → k ≡ NAME_TOO_LONG → IsLong f (name_len (names_of l.path))
      → HasMisfit f m sizes l k
  hard_link : {k : ℕ} → k ≡ HARD_LINK → is_hard l.word ≡ true → HasNoLinks f
      → HasMisfit f m sizes l k

-- some line, or that of the volume, does not fit; `at` of the misfit is the number of its line
pub data HasLineMisfit (f : Format) (m : ManifestLines) (sizes : List ℕ) (e : Fault) : Type 0 where
  of_line : Has (λ l. (e.at ≡ l.number) × HasMisfit f m sizes l e.number) m.lines
      → HasLineMisfit f m sizes e
  of_volume : IsLongVolume f (length m.volume)
      → e ≡ record { number = NAME_TOO_LONG; at = m.volume_line }
      → HasLineMisfit f m sizes e

-- the list of a directory has 2^24 bytes or more
abbrev pub HasLongList : Names → Type 0
HasLongList nothing = ⊥
HasLongList (leaf name i after) = HasLongList after
HasLongList (link name i after) = HasLongList after
HasLongList (subdirectory name i own after) =
    (2 ^ 24 ≤ list_len own) ⊎ (HasLongList own ⊎ HasLongList after)

abbrev pub HasLongLists : Format → Names → Type 0
HasLongLists romfs n = ⊥
HasLongLists (cramfs o) n = (2 ^ 24 ≤ list_len n) ⊎ HasLongList n

-- the whole does not fit
pub data HasWholeMisfit (f : Format) (m : ManifestLines) (sizes : List ℕ) : Type 0 where
  long : 2 ^ 28 < len_of f m sizes → HasWholeMisfit f m sizes
  long_list : HasLongLists f (tree_of m.lines sizes) → HasWholeMisfit f m sizes
  deep : 64 < height (tree_of m.lines sizes) → HasWholeMisfit f m sizes
  many : 2 ^ 20 < references_of f m sizes → HasWholeMisfit f m sizes

-- The least misfit, by line and then by number. If the lines have none, the whole is too large, at
-- line 0.
pub data IsLeastMisfit (f : Format) (m : ManifestLines) (sizes : List ℕ) (e : Fault) : Type 0 where
  line_misfit : IsLeastFault (HasLineMisfit f m sizes) e → IsLeastMisfit f m sizes e
  whole_misfit : IsNone (HasLineMisfit f m sizes) → HasWholeMisfit f m sizes
      → e ≡ record { number = TOO_LARGE; at = 0 }
      → IsLeastMisfit f m sizes e

-- the manifest fits
pub record HasNoMisfit (f : Format) (m : ManifestLines) (sizes : List ℕ) : Type 0 where
  pub lines : IsNone (HasLineMisfit f m sizes)
  pub whole : HasWholeMisfit f m sizes → ⊥
