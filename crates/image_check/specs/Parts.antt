-- `AreParts`: these numbers make a checked image of either format again from its bytes.
-- `tree_of_parts`, `cursors_of_parts`, `report_of_parts`: its tree, cursors and report.
-- `NameFormat`: the numbers are of the format that the first bytes name. (This project's own.)
use Rattle.std.specs.Prelude.{◌≡◌, ℕ, List, Option}
use Rattle.rom_tree.specs.Tree.{Node}
use Rattle.rom_tree.specs.declared.types.Report.{Report}
use Rattle.cramfs_format.specs.Superblock.{order_of}
use Rattle.romfs_image.specs.Parts.{AreParts as AreRomfsParts, tree_of_parts as romfs_tree}
use Rattle.romfs_image.specs.Parts.{cursors_of_parts as romfs_cursors}
use Rattle.cramfs_image.specs.Parts.{AreParts as AreCramfsParts, tree_of_parts as cramfs_tree}
use Rattle.cramfs_image.specs.Parts.{cursors_of_parts as cramfs_cursors}
use Rattle.formats.specs.Begins.{BeginsRomfs, BeginsCramfs}
use Rattle.image_check.specs.declared.any.Parts.{Parts}
use Rattle.image_check.specs.declared.any.Parts.TheVariants.{Romfs, Cramfs}

-- the facts that a check has shown hold for these bytes with these numbers
abbrev pub AreParts : List ℕ → Parts → Type 0
AreParts all (Romfs n) = AreRomfsParts all n
AreParts all (Cramfs n) = AreCramfsParts all n

-- the tree that these bytes then hold
abbrev pub tree_of_parts : List ℕ → Parts → Node
tree_of_parts all (Romfs n) = romfs_tree all n
tree_of_parts all (Cramfs n) = cramfs_tree all n

-- the meaning of its cursors
abbrev pub cursors_of_parts : List ℕ → Parts → ℕ → ℕ → Option ℕ
cursors_of_parts all (Romfs n) = romfs_cursors all n
cursors_of_parts all (Cramfs n) = cramfs_cursors all n

-- what the check reported: the number of references, and the depth
abbrev pub report_of_parts : Parts → Report
report_of_parts (Romfs n) = record { references = n.references; depth = n.depth }
report_of_parts (Cramfs n) = record { references = n.references; depth = n.depth }

-- the numbers are of the format that the first bytes name, and of its byte order
abbrev pub NameFormat : List ℕ → Parts → Type 0
NameFormat all (Romfs n) = BeginsRomfs all
NameFormat all (Cramfs n) = BeginsCramfs all × (n.order ≡ order_of all)
