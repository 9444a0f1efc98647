-- The attributes that were noted for files, in a map by what identifies a file. (This project's
-- own.)
use Rattle.std.specs.Prelude.{◌≡◌, ◌<◌, ◌==◌, ◌&&◌, ℕ, Bool, if◌then◌else◌, List, length}
use Rattle.std.specs.Prelude.{slice_index_or, Option, Some, None}
use Rattle.std.specs.BTreeMap.{BTreeMap, get}
use Rattle.std.specs.Ordering.{nat_cmp, ordering_then}
use Rattle.build_commands.specs.Rights.{changed, with_attributes}
use Rattle.build_commands.specs.declared.inventory.NamedFile.{NamedFile}
use Rattle.build_commands.specs.declared.rights.Attributes.{Attributes}
use Rattle.build_commands.specs.declared.rights.Change.{Change}

-- of a file with several links its inode, and of another one its index
abbrev pub key_of : NamedFile → ℕ → ℕ × ℕ × ℕ
key_of f index = if f.has_links then (1, f.inode.device, f.inode.number) else (0, index, 0)

abbrev pub are_equal : ℕ × ℕ × ℕ → ℕ × ℕ × ℕ → Bool
are_equal x y = ((x.0 == y.0) && (x.1 == y.1)) && (x.2 == y.2)

abbrev pub noted : BTreeMap (ℕ × ℕ × ℕ) Attributes → ℕ × ℕ × ℕ → Option Attributes
noted m k =
    get (λ x y. ordering_then (ordering_then (nat_cmp x.0 y.0) (nat_cmp x.1 y.1)) (nat_cmp x.2 y.2))
    m k

-- the first that is there
abbrev pub or_else : Option ℕ → Option ℕ → Option ℕ
or_else None b = b
or_else (Some a) b = Some a

-- attributes after others
abbrev pub merged : Option Attributes → Attributes → Attributes
merged None next = next
merged (Some before) next = record next { mode = or_else next.mode before.mode }

abbrev pub applied : Option Attributes → NamedFile → NamedFile
applied None f = f
applied (Some a) f = with_attributes a f

-- what is noted of each file is what the changes make of it
abbrev pub AreNoted : List NamedFile → List Change → BTreeMap (ℕ × ℕ × ℕ) Attributes → Type 0
AreNoted found cs m =
    (j : ℕ) (d : NamedFile) → j < length found
    → applied (noted m (key_of (slice_index_or found j d) j)) (slice_index_or found j d)
    ≡ changed found cs (slice_index_or found j d)

-- each file has the attributes that are noted for it
abbrev pub AreApplied : BTreeMap (ℕ × ℕ × ℕ) Attributes → List NamedFile → List NamedFile → Type 0
AreApplied m old new =
    (j : ℕ) (d : NamedFile) → j < length old
    → slice_index_or new j d
    ≡ applied (noted m (key_of (slice_index_or old j d) j)) (slice_index_or old j d)
