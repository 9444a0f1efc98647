-- The groups of files with equal keys, in a map, and the inodes of the first files. (This project's
-- own.)
use Rattle.std.specs.Prelude.{ℕ, nat_lt, Bool, false, true, if◌then◌else◌, List}
use Rattle.std.specs.Prelude.{Option, Some, None}
use Rattle.build_commands.specs.Equal.{count, first_index}
use Rattle.build_commands.specs.declared.equal.Group.{Group}
use Rattle.build_commands.specs.declared.inventory.Inode.{Inode}
use Rattle.build_commands.specs.declared.inventory.NamedFile.{NamedFile}

-- the group of the files that have a key: the index of the first, and whether there are others
abbrev pub group_of : {K : Type 0} → (K → K → Bool) → List (Option K) → K → Option Group
group_of same keys k =
    if nat_lt 0 (count same k keys)
    then Some (record {
      first = first_index same k keys;
      is_shared = nat_lt 1 (count same k keys);
    })
    else None

-- a group with one file more, which has this index
abbrev pub grown : Option Group → ℕ → Group
grown None index = record { first = index; is_shared = false }
grown (Some g) index = record g { is_shared = true }

-- the group of a key, if the key is there
abbrev pub group_at : {K : Type 0} → (K → Option Group) → Option K → Option Group
group_at groups None = None
group_at groups (Some k) = groups k

-- the index of the first file of a group, if there are others
abbrev pub first_in : Option Group → Option ℕ
first_in None = None
first_in (Some g) = if g.is_shared then Some g.first else None

abbrev pub inode_of : Option NamedFile → Option Inode
inode_of None = None
inode_of (Some f) = Some f.inode

-- a file with an inode, if there is one
abbrev pub with_inode : NamedFile → Option Inode → NamedFile
with_inode f None = f
with_inode f (Some inode) = record f { inode = inode; has_links = true }
