-- `Node`, `Body`, `Entries`: a plain tree of files. A node has its attributes and a body, and a
-- directory's body is a list of names with nodes. `node_at`: the node of a number. `depth`,
-- `levels`: the depth of a tree in names, and in directories. `IsCoherent`: two nodes of one number
-- are equal. (This project's own.)
use Rattle.std.specs.Prelude.{◌≤◌, ◌≡◌, ℕ, zero, suc, ◌+◌, max, ◌==◌, Bool, true, false, List, []}
use Rattle.std.specs.Prelude.{◌∷◌}
use Rattle.std.specs.Prelude.{◌++◌, find, Option, Some, None}
use Rattle.rom_tree.specs.declared.types.Kind.{Kind}
use Rattle.rom_tree.specs.declared.types.Kind.TheVariants.{Directory, Regular, Symlink, Block}
use Rattle.rom_tree.specs.declared.types.Kind.TheVariants.{Character, Socket, Fifo}

-- the attributes of a node
pub record Attributes : Type 0 where
  pub ino : ℕ
  pub mode : ℕ
  pub uid : ℕ
  pub gid : ℕ
  pub major : ℕ
  pub minor : ℕ

-- The body determines the kind. The body of a directory is a list of names with nodes. The body of
-- a regular file or a symbolic link is the list of the offsets of its bytes in the image.
mutual
  pub data Node : Type 0 where
    node : Attributes → Body → Node

  pub data Body : Type 0 where
    directory : Entries → Body
    regular : List ℕ → Body
    symlink : List ℕ → Body
    block : Body
    character : Body
    socket : Body
    fifo : Body

  pub data Entries : Type 0 where
    no_entries : Entries
    entry : List ℕ → Node → Entries → Entries

abbrev pub attributes_of : Node → Attributes
attributes_of (node a b) = a

abbrev pub body_of : Node → Body
body_of (node a b) = b

abbrev pub ino_of : Node → ℕ
ino_of n = (attributes_of n).ino

abbrev pub body_kind : Body → Kind
body_kind (directory es) = Directory
body_kind (regular ps) = Regular
body_kind (symlink ps) = Symlink
body_kind block = Block
body_kind character = Character
body_kind socket = Socket
body_kind fifo = Fifo

abbrev pub kind_of : Node → Kind
kind_of n = body_kind (body_of n)

abbrev pub is_directory_body : Body → Bool
is_directory_body (directory es) = true
is_directory_body _ = false

abbrev pub is_directory : Node → Bool
is_directory n = is_directory_body (body_of n)

abbrev pub body_entries : Body → Entries
body_entries (directory es) = es
body_entries _ = no_entries

-- a directory's list, and no entries at other nodes
abbrev pub entries_of : Node → Entries
entries_of n = body_entries (body_of n)

abbrev pub body_places : Body → List ℕ
body_places (regular ps) = ps
body_places (symlink ps) = ps
body_places _ = []

-- the offsets of the bytes of a file or a link, and none at other nodes
abbrev pub places_of : Node → List ℕ
places_of n = body_places (body_of n)

abbrev pub is_link_body : Body → Bool
is_link_body (symlink ps) = true
is_link_body _ = false

abbrev pub is_link : Node → Bool
is_link n = is_link_body (body_of n)

abbrev pub is_regular_body : Body → Bool
is_regular_body (regular ps) = true
is_regular_body _ = false

abbrev pub is_regular : Node → Bool
is_regular n = is_regular_body (body_of n)

abbrev pub is_device_body : Body → Bool
is_device_body block = true
is_device_body character = true
is_device_body _ = false

abbrev pub is_device : Node → Bool
is_device n = is_device_body (body_of n)

-- k offsets in a row from p on
abbrev pub row_from : ℕ → ℕ → List ℕ
row_from p zero = []
row_from p (suc k) = p ∷ row_from (p + 1) k

-- the entry at an index
abbrev pub entry_at : Entries → ℕ → Option (List ℕ × Node)
entry_at no_entries i = None
entry_at (entry name n es) zero = Some (name, n)
entry_at (entry name n es) (suc i) = entry_at es i

abbrev pub entry_count : Entries → ℕ
entry_count no_entries = 0
entry_count (entry name n es) = suc (entry_count es)

-- the entries from an index on
abbrev pub drop_entries : ℕ → Entries → Entries
drop_entries zero es = es
drop_entries (suc i) no_entries = no_entries
drop_entries (suc i) (entry name n es) = drop_entries i es

-- the nodes of a tree, in preorder
abbrev mutual
  pub nodes : Node → List Node
  nodes (node a b) = node a b ∷ body_nodes b

  pub body_nodes : Body → List Node
  body_nodes (directory es) = entries_nodes es
  body_nodes _ = []

  pub entries_nodes : Entries → List Node
  entries_nodes no_entries = []
  entries_nodes (entry name n es) = nodes n ++ entries_nodes es

-- the node of a number
unfoldable pub node_at : Node → ℕ → Option Node
node_at t i = find (λ x. ino_of x == i) (nodes t)

-- the greatest number of names from the root to a node
abbrev mutual
  pub depth : Node → ℕ
  depth (node a b) = body_depth b

  pub body_depth : Body → ℕ
  body_depth (directory es) = entries_depth es
  body_depth _ = 0

  pub entries_depth : Entries → ℕ
  entries_depth no_entries = 0
  entries_depth (entry name n es) = max (suc (depth n)) (entries_depth es)

-- the number of directories below one another from a node on, the node included if it is a
-- directory
abbrev mutual
  pub levels : Node → ℕ
  levels (node a body) = body_levels body

  pub body_levels : Body → ℕ
  body_levels (directory es) = suc (entries_levels es)
  body_levels _ = 0

  pub entries_levels : Entries → ℕ
  entries_levels no_entries = 0
  entries_levels (entry name n es) = max (levels n) (entries_levels es)

-- x is in the list
pub data IsIn (x : Node) : List Node → Type 0 where
  here : {xs : List Node} → IsIn x (x ∷ xs)
  there : {y : Node} {xs : List Node} → IsIn x xs → IsIn x (y ∷ xs)

-- two nodes of one number are equal
abbrev pub IsCoherent : Node → Type 0
IsCoherent t = (x y : Node) → IsIn x (nodes t) → IsIn y (nodes t) → ino_of x ≡ ino_of y → x ≡ y

-- at most 65 directories are nested in one another, the root included
abbrev pub IsShallow : Node → Type 0
IsShallow t = levels t ≤ 65
