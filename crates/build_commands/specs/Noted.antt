-- The first file of each inode, in a map. (This project's own.)
use Rattle.std.specs.Prelude.{ℕ, if◌then◌else◌, Option, Some, None, option_map}
use Rattle.std.specs.Borrow.{Bor}
use Rattle.std.specs.BTreeMap.{BTreeMap, get}
use Rattle.std.specs.Ordering.{nat_cmp, ordering_then}
use Rattle.build_commands.specs.Inventory.{is_linked}
use Rattle.build_commands.specs.declared.inventory.NamedFile.{NamedFile}

-- the file that a map has for an inode, by the device and the number
abbrev pub noted : BTreeMap (ℕ × ℕ) (Bor NamedFile) → ℕ → ℕ → Option NamedFile
noted m device number =
    option_map (λ g. g.now) (get (λ x y. ordering_then (nat_cmp x.0 y.0) (nat_cmp x.1 y.1)) m
    (device, number))

-- the entry of a map after a file is noted, if it was this before
abbrev pub noted_with : NamedFile → Option NamedFile → ℕ → ℕ → Option NamedFile
noted_with f (Some g) device number = Some g
noted_with f None device number =
    if is_linked device number f then Some f else None

-- the file that a map has for a file of which that one may be a further name
abbrev pub noted_link : BTreeMap (ℕ × ℕ) (Bor NamedFile) → NamedFile → Option NamedFile
noted_link m f = if f.has_links then noted m f.inode.device f.inode.number else None
