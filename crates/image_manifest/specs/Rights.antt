-- `given_rights`: the rights that `extract` gives what it makes of a node. (This project's own.)
use Rattle.std.specs.Prelude.{ℕ, Bool, if◌then◌else◌, Option, None, Some, bit_and}
use Rattle.std.specs.Int.{bit_not, w32}
use Rattle.rom_tree.specs.declared.types.Stat.{Stat}
use Rattle.image_manifest.specs.declared.giving.Giving.{Giving}
use Rattle.tree_extract.specs.declared.tree.Owner.{Owner}
use Rattle.tree_extract.specs.declared.tree.Rights.{Rights}

-- The node's mode. Without `--owners` it has no set-user and set-group bits (3072), and no bits
-- that the process's mask removes from new files.
abbrev pub given_mode : Giving → Stat → ℕ
given_mode g s =
    if g.owners then s.mode else
    bit_and (bit_and s.mode (bit_not w32 3072)) (bit_not w32 g.masked)

-- the node's owner; without `--owners`, the user who runs the program
abbrev pub given_owner : Giving → Stat → Option Owner
given_owner g s = if g.owners then Some (record { uid = s.uid; gid = s.gid }) else None

abbrev pub given_rights : Giving → Stat → Rights
given_rights g s = record { mode = given_mode g s; owner = given_owner g s }
