-- `misreads_text`: a line for each thing that Linux misreads in a valid image. `Prints`: lines were
-- put, and the result says whether there is any. (The lines are this project's own; docs/LINUX.md
-- has what was seen. Linux fs/romfs/super.c and fs/cramfs/inode.c.)
use Rattle.std.specs.Prelude.{Bool, true, false, ◌||◌, ◌≡◌, ℕ, if◌then◌else◌, List, [], ◌∷◌, ◌++◌}
use Rattle.std.specs.Prelude.{codes}
use Rattle.std.specs.List.{flat_map}
use Rattle.rom_fields.specs.Texts.{escaped}
use Rattle.rom_fields.specs.Written.{Sink, Puts}
use Rattle.rom_tree.specs.Tree.{Node, ino_of}
use Rattle.rom_tree.specs.Names.{Name, names}
use Rattle.romfs_image.specs.declared.image.Romfs.{Romfs as RomfsImage}
use Rattle.cramfs_format.specs.Inode.{name_room}
use Rattle.cramfs_image.specs.declared.image.Cramfs.{Cramfs}
use Rattle.cramfs_image.specs.Reported.{order_in}
use Rattle.image_check.specs.declared.any.AnyImage.{AnyImage}
use Rattle.image_check.specs.declared.any.AnyImage.TheVariants.{Romfs, Cramfs as InCramfs}
use Rattle.image_check.specs.Any.{any_view}
use Rattle.image_info.specs.Volumes.{romfs_volume}
use Rattle.linux_misreads.specs.Readers.{romfs_device, cramfs_device}
use Rattle.linux_misreads.specs.Seen.{romfs_place, seen_of, text_in}
use Rattle.linux_misreads.specs.Tables.{kept_in, romfs_view, view}
use Rattle.linux_misreads.specs.Differences.{is_root_missed, cramfs_misreads, romfs_misreads}
use Rattle.linux_misreads.specs.declared.judged.CramfsMisreads.{CramfsMisreads}
use Rattle.linux_misreads.specs.declared.judged.RomfsMisreads.{RomfsMisreads}

-- a text, PATH (escaped) and a line feed
abbrev pub misread_line : List ℕ → List ℕ → List ℕ
misread_line text path = text ++ (escaped path ++ 10 ∷ [])

-- the line of something that is misread
abbrev pub line_if : Bool → List ℕ → List ℕ → List ℕ
line_if is text path = if is then misread_line text path else []

-- the lines of a name at this path
abbrev pub romfs_lines : List ℕ → RomfsMisreads → List ℕ
romfs_lines path m =
    line_if m.name_cut (codes "linux 3 NameCut ") path
    ++ (line_if m.name_too_long (codes "linux 4 NameTooLong ") path
    ++ (line_if m.device (codes "linux 6 Device ") path
    ++ (line_if m.link_cut (codes "linux 8 LinkCut ") path
    ++ line_if m.other_place (codes "linux 10 OtherPlace ") path)))

abbrev pub cramfs_lines : List ℕ → CramfsMisreads → List ℕ
cramfs_lines path m =
    line_if m.last_block (codes "linux 1 LastBlock ") path
    ++ (line_if m.shared_table (codes "linux 2 SharedTable ") path
    ++ (line_if m.device (codes "linux 6 Device ") path
    ++ (line_if m.name_padded (codes "linux 7 NamePadded ") path
    ++ (line_if m.link_cut (codes "linux 8 LinkCut ") path
    ++ line_if m.root_mode (codes "linux 9 RootMode ") path))))

-- what is misread in the node that this name, the last of its path, leads to in a romfs image
abbrev pub in_romfs : RomfsImage → List ℕ → Node → RomfsMisreads
in_romfs s name x =
    romfs_misreads name (text_in (romfs_view s).bytes x)
    (seen_of (romfs_device (romfs_view s).bytes (ino_of x)) x) (romfs_place (romfs_view s).bytes x)

-- the same in a cramfs image, whose names are these
abbrev pub in_cramfs : Cramfs → List Name → List ℕ → Node → CramfsMisreads
in_cramfs s ns name x =
    cramfs_misreads name (text_in (view s).bytes x)
    (seen_of (cramfs_device (order_in s) (view s).bytes (ino_of x)) x)
    (name_room (order_in s) (view s).bytes (ino_of x)) (kept_in s ns x)

abbrev pub cramfs_name : Cramfs → List Name → Name → List ℕ
cramfs_name s ns n = cramfs_lines n.path (in_cramfs s ns n.last n.node)

abbrev pub romfs_name : RomfsImage → Name → List ℕ
romfs_name s n = romfs_lines n.path (in_romfs s n.last n.node)

-- the lines of a name of this image
abbrev pub name_misreads : AnyImage → Name → List ℕ
name_misreads (Romfs s) n = romfs_name s n
name_misreads (InCramfs s) n = cramfs_name s (names (view s).tree) n

-- romfs uses an offset within the volume's name for the root
abbrev pub volume_misreads : AnyImage → List ℕ
volume_misreads (Romfs s) =
    if is_root_missed (romfs_volume (romfs_view s).bytes) then codes "linux 5 Volume /\n" else []
volume_misreads (InCramfs s) = []

-- the line of the volume, and those of all names in preorder
unfoldable pub misreads_text : AnyImage → List ℕ
misreads_text a = volume_misreads a ++ flat_map (name_misreads a) (names (any_view a).tree)

-- whether there is any line
abbrev pub is_printed : List ℕ → Bool
is_printed [] = false
is_printed (c ∷ cs) = true

-- These lines were put, and it was reported whether there is any line.
pub record Prints (s t : Sink) (before after : Bool) (lines : List ℕ) : Type 0 where
  pub puts : Puts s t lines
  pub printed : after ≡ (before || is_printed lines)
