-- `kept_in`: what Linux keeps under the number that it gives to a node. `AreFirst`: a map has the
-- first file of each number. (Linux fs/cramfs/inode.c, `cramino` and `get_cramfs_inode`.)
--
-- Linux's cramfs numbers a file or a link that is not empty by the offset of its table. It keeps
-- one file of each number, the first that is looked up.
use Rattle.std.specs.Prelude.{◌≡◌, ℕ, ◌==◌, ◌&&◌, ◌||◌, nat_lt, Bool, if◌then◌else◌}
use Rattle.std.specs.Prelude.{List, [], ◌∷◌, length, Option, Some, None}
use Rattle.std.specs.BTreeMap.{BTreeMap, get}
use Rattle.std.specs.Ordering.{nat_cmp}
use Rattle.rom_tree.specs.Tree.{Node, ino_of, is_link, is_regular, places_of}
use Rattle.rom_tree.specs.Image.{Image}
use Rattle.rom_tree.specs.Names.{Name, names}
use Rattle.cramfs_image.specs.Reported.{order_in}
use Rattle.romfs_image.specs.declared.image.Romfs.{Romfs as RomfsImage}
use Rattle.cramfs_image.specs.declared.image.Cramfs.{Cramfs}
use Rattle.image_check.specs.declared.any.AnyImage.{AnyImage}
use Rattle.image_check.specs.declared.any.AnyImage.TheVariants.{Romfs, Cramfs as InCramfs}
use Rattle.image_check.specs.Any.{any_view}
use Rattle.linux_misreads.specs.Readers.{file_number}
use Rattle.linux_misreads.specs.Seen.{known_by, seen_of}
use Rattle.linux_misreads.specs.declared.seen.Known.{Known}

-- a cramfs image, as the layers above see it
abbrev pub view : Cramfs → Image
view s = any_view (InCramfs s)

-- a romfs image, as the layers above see it
abbrev pub romfs_view : RomfsImage → Image
romfs_view s = any_view (Romfs s)

-- a regular file or a link that is not empty
abbrev pub has_table : Node → Bool
has_table x = (is_regular x || is_link x) && nat_lt 0 (length (places_of x))

-- the number in Linux of the node of this inode
abbrev pub number_in : Cramfs → ℕ → ℕ
number_in s n = file_number (order_in s) (view s).bytes n

-- the facts that are kept of a node
abbrev pub known_of : Node → Known
known_of x = known_by (seen_of 0 x)

-- the first of the two, or the second if there is no first
abbrev pub either : {A : Type 0} → Option A → Option A → Option A
either None y = y
either (Some x) y = Some x

-- the facts that are kept of a node, if its number is t
abbrev pub one_known : Cramfs → ℕ → Node → Option Known
one_known s t x = if has_table x && (number_in s (ino_of x) == t) then Some (known_of x) else None

-- the facts that are kept of the first of these names whose number is t
abbrev pub first_known : Cramfs → ℕ → List Name → Option Known
first_known s t [] = None
first_known s t (n ∷ ns) = either (one_known s t n.node) (first_known s t ns)

-- the facts that are kept under the number of this node: those of the first of these names with its
-- number
abbrev pub kept_in : Cramfs → List Name → Node → Option Known
kept_in s ns x = if has_table x then first_known s (number_in s (ino_of x)) ns else None

-- a map has, for each number, the facts that are kept of the first of these names
abbrev pub AreFirst : Cramfs → List Name → BTreeMap ℕ Known → Type 0
AreFirst s ns m = (t : ℕ) → get nat_cmp m t ≡ first_known s t ns

-- the same for all names of an image, if it has tables
abbrev pub AreFirstOf : AnyImage → BTreeMap ℕ Known → Type 0
AreFirstOf (Romfs s) m = Unit {0}
AreFirstOf (InCramfs s) m = AreFirst s (names (view s).tree) m
