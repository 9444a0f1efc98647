-- What Linux would misread in the paths of a manifest: `romfs_by`, `cramfs_by`. `planned`: a
-- planned file, as Linux sees it. `kept_in`: what Linux's cramfs would keep of the first file with
-- the contents of a source. (This project's own; what is misread is that of `linux_misreads`.)
use Rattle.std.specs.Prelude.{◌≡◌, ℕ, ◌+◌, ◌*◌, ◌/◌, ◌%◌, ◌==◌, nat_lt, Bool, false, List, []}
use Rattle.std.specs.Prelude.{◌∷◌, length, map, if◌then◌else◌, Option, Some, None}
use Rattle.std.specs.BTreeMap.{BTreeMap, get}
use Rattle.std.specs.List.{list_any}
use Rattle.std.specs.Ordering.{nat_cmp}
use Rattle.romfs_format.specs.Record.{pad16}
use Rattle.manifest.specs.Lines.{is_same}
use Rattle.manifest.specs.declared.line.Line.{Line}
use Rattle.manifest_tree.specs.Names.{Fill, no_bytes, text, source, Inode}
use Rattle.manifest_tree.specs.Tree.{What, a_leaf, a_link, a_directory, inode_of, tree_of}
use Rattle.plan_rows.specs.Keyed.{behind}
use Rattle.plan_rows.specs.Rows.{rows}
use Rattle.linux_misreads.specs.Differences.{cramfs_misreads, romfs_misreads}
use Rattle.linux_misreads.specs.Readers.{device_number, old_device, romfs_root}
use Rattle.linux_misreads.specs.Seen.{known_by}
use Rattle.linux_misreads.specs.Tables.{either}
use Rattle.linux_misreads.specs.declared.judged.CramfsMisreads.{CramfsMisreads}
use Rattle.linux_misreads.specs.declared.judged.RomfsMisreads.{RomfsMisreads}
use Rattle.linux_misreads.specs.declared.seen.Known.{Known}
use Rattle.linux_misreads.specs.declared.seen.Place.{Place}
use Rattle.linux_misreads.specs.declared.seen.Seen.{Seen}

-- the last component of a path; that of the root is empty
abbrev pub last_of : List ℕ → List ℕ
last_of path = behind 47 path path

-- a planned file, of which Linux makes a device of this number
abbrev pub planned : ℕ → Inode → Seen
planned device i = record {
  kind = i.kind;
  mode = i.mode;
  uid = i.uid;
  gid = i.gid;
  size = i.size;
  major = i.major;
  minor = i.minor;
  device = device;
}

-- the text of a link, and nothing for other files
abbrev pub text_by : Fill → List ℕ
text_by no_bytes = []
text_by (text t) = t
text_by (source k) = []

-- where the bytes of a file of this size begin behind the romfs header with its name, and where
-- Linux reads them: it counts the name as that of the volume
abbrev pub planned_place : List ℕ → ℕ → Option Place
planned_place name size = if size == 0 then None
    else Some (record { start = 16 + pad16 (length name + 1); read = romfs_root name })

-- a path to a file of romfs, which has its first name at `own`
abbrev pub romfs_path : List ℕ → List ℕ → Inode → RomfsMisreads
romfs_path path own i =
    romfs_misreads (last_of path) (text_by i.fill) (planned (device_number i.major i.minor) i)
    (planned_place (last_of own) i.size)

-- the same for a path to the file of a line
abbrev pub romfs_by : List Line → List ℕ → List ℕ → Option Line → RomfsMisreads
romfs_by lines sizes path None = record {
  name_cut = false;
  name_too_long = false;
  device = false;
  link_cut = false;
  other_place = false;
}
romfs_by lines sizes path (Some l) = romfs_path path l.path (inode_of lines sizes l)

-- the number that Linux makes of the 16 bits of a device in cramfs
abbrev pub cramfs_device : Inode → ℕ
cramfs_device i = old_device (i.major % 256 * 256 + i.minor % 256)

-- a path to a file of cramfs, if Linux keeps this of the first file with its contents; the name has
-- the room that it needs
abbrev pub cramfs_path : List ℕ → Inode → Option Known → CramfsMisreads
cramfs_path path i kept =
    cramfs_misreads (last_of path) (text_by i.fill) (planned (cramfs_device i) i)
    ((length (last_of path) + 3) / 4 * 4) kept

-- the source of a file that is not empty
abbrev pub source_by : ℕ → Fill → Option ℕ
source_by size no_bytes = None
source_by size (text t) = None
source_by size (source k) = if nat_lt 0 size then Some k else None

abbrev pub source_in : Inode → Option ℕ
source_in i = source_by i.size i.fill

abbrev pub known_if : ℕ → Inode → Option ℕ → Option Known
known_if k i None = None
known_if k i (Some j) = if j == k then Some (known_by (planned 0 i)) else None

-- what is kept of a file, if it has contents of this source
abbrev pub known_as : ℕ → Inode → Option Known
known_as k i = known_if k i (source_in i)

-- what is kept of the first of these files with contents of this source
abbrev pub first_with : ℕ → List Inode → Option Known
first_with k [] = None
first_with k (i ∷ is) = either (known_as k i) (first_with k is)

-- the file that a name stands for
abbrev pub file_in : What → Inode
file_in (a_leaf i) = i
file_in (a_link i) = i
file_in (a_directory i) = i

-- a line makes a file with the contents of another one
abbrev pub has_same : List Line → Bool
has_same lines = list_any (λ l. is_same l.word) lines

-- What Linux keeps of the first file with contents of this source, in the order of the tree.
-- Without a `same` line it is the only one.
abbrev pub kept_in : List Line → List ℕ → ℕ → Option Known
kept_in lines sizes k =
    if has_same lines then first_with k (map (λ r. file_in r.what) (rows 1 (tree_of lines sizes)))
    else None

abbrev pub AreFirst : List Line → List ℕ → BTreeMap ℕ Known → Type 0
AreFirst lines sizes m = (k : ℕ) → get nat_cmp m k ≡ kept_in lines sizes k

abbrev pub kept_by : (ℕ → Option Known) → Option ℕ → Option Known
kept_by kept None = None
kept_by kept (Some k) = kept k

-- a path to the file of a line in cramfs
abbrev pub cramfs_by : List Line → List ℕ → List ℕ → Option Line → CramfsMisreads
cramfs_by lines sizes path None = record {
  last_block = false;
  shared_table = false;
  device = false;
  name_padded = false;
  link_cut = false;
  root_mode = false;
}
cramfs_by lines sizes path (Some l) =
    let i = inode_of lines sizes l in
    cramfs_path path i (kept_by (kept_in lines sizes) (source_in i))
