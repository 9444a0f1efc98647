-- The names of an image, by path, and what is written of two images. (This project's own.)
use Rattle.std.specs.Prelude.{◌≡◌, ℕ, ◌<◌, ◌≤◌, Bool, List, [], ◌∷◌, ◌++◌, length, drop, map}
use Rattle.std.specs.Prelude.{Option, Some, None, MatchOption}
use Rattle.std.specs.Cmp.Lexicographic.{slice_cmp}
use Rattle.std.specs.List.{All}
use Rattle.std.specs.List.Sorted.{IsPermutation, IsSortedByKey}
use Rattle.std.specs.Ordering.{nat_cmp}
use Rattle.rom_tree.specs.Tree.{Node, entries_of}
use Rattle.rom_tree.specs.Image.{Image, image_node}
use Rattle.rom_tree.specs.Names.{Name, names, entries_names, path_below}
use Rattle.rom_tree.specs.declared.frame.Frame.{Frame}
use Rattle.rom_tree.specs.declared.types.NodeId.{NodeId}
use Rattle.rom_fields.specs.Written.{Puts, Sink}
use Rattle.image_compare.specs.declared.rows.Row.{Row}
use Rattle.image_compare.specs.declared.rows.Rows.{Rows}
use Rattle.image_compare.specs.declared.steps.Named.{Named}
use Rattle.image_compare.specs.declared.steps.Step.{Step}
use Rattle.image_compare.specs.Diff.{names_lines, is_printed}
use Rattle.image_compare.specs.Directories.{AreWays, way_at}

-- the names of a tree, sorted by path, compared as bytes
pub record AreSorted (t : Node) (ns : List Name) : Type 0 where
  pub all : IsPermutation (names t) ns
  pub sorted : IsSortedByKey (λ (n : Name). n.path) (slice_cmp nat_cmp) ns

-- a name of the tree has a path of more than 16,384 bytes
pub record HasLongPath (t : Node) : Type 0 where
  pub before : List Name
  pub name : Name
  pub after : List Name
  pub is : names t ≡ before ++ name ∷ after
  pub long : 16384 < length name.path

-- ---- rows

-- the path of a row, by those of the directories
abbrev pub row_path : List (List ℕ) → Row → List ℕ
row_path ws r = path_below (way_at ws r.directory) r.name.now

-- a row and a name have the same path and node
abbrev pub row_key : Image → List (List ℕ) → Row → List ℕ × Option Node
row_key m ws r = (row_path ws r, image_node m r.node.0)

abbrev pub name_key : Name → List ℕ × Option Node
name_key n = (n.path, Some n.node)

-- the rows are those of these names, one by one
abbrev pub AreRows : Image → List (List ℕ) → List Row → List Name → Type 0
AreRows m ws rows ns = map (row_key m ws) rows ≡ map name_key ns

-- no path has more than 16,384 bytes
abbrev pub AreShort : List Name → Type 0
AreShort ns = All (λ (n : Name). length n.path ≤ 16384) ns

-- the rows are those of these names
pub record HasNames (m : Image) (found : Rows) (ns : List Name) : Type 0 where
  pub ways : List (List ℕ)
  pub directories : AreWays found.directories.items ways
  pub same : AreRows m ways found.names.items ns
  pub short : AreShort ns

-- the rows are those of some names
abbrev pub AreKnown : Image → Rows → Type 0
AreKnown m found = (ns : List Name) × HasNames m found ns

-- the rows are all names of an image, sorted
pub record HoldsSorted (m : Image) (found : Rows) : Type 0 where
  pub names : List Name
  pub sorted : AreSorted m.tree names
  pub rows : HasNames m found names

-- ---- rows that are collected

-- The rows so far are those of these names, and these are the paths of the directories so far.
-- Directories that are added later change no row's path.
pub record HasRows (m : Image) (found : Rows) (ws : List (List ℕ)) (ns : List Name) : Type 0 where
  pub ways : AreWays found.directories.items ws
  pub same : (later : List (List ℕ)) → AreRows m (ws ++ later) found.names.items ns
  pub short : AreShort ns

-- one of these names has a path of more than 16,384 bytes
pub record HasLong (ns : List Name) : Type 0 where
  pub before : List Name
  pub name : Name
  pub after : List Name
  pub is : ns ≡ before ++ name ∷ after
  pub long : 16384 < length name.path

-- a directory as a frame of a walk, at a cursor
abbrev pub frame_of : NodeId → ℕ → Frame
frame_of n c = record { directory = n; cursor = record { 0 = c }; name = None }

-- the rows are those of some names, and the directory at this index is there
abbrev pub MayCollect : Image → Rows → ℕ → Type 0
MayCollect m found directory =
    (ws : List (List ℕ)) × (ns : List Name) × HasRows m found ws ns × (directory < length ws)

-- the names in a directory and below it
abbrev pub names_below : List (List ℕ) → ℕ → Node → List Name
names_below ws directory x = entries_names (way_at ws directory) (entries_of x)

-- the names in a directory and below it were added
abbrev pub Collects : Image → Rows → Rows → NodeId → ℕ → Type 0
Collects m old new node directory =
    (ws : List (List ℕ)) (ns : List Name) (x : Node) → HasRows m old ws ns
    → directory < length ws → image_node m node.0 ≡ Some x
    → (added : List (List ℕ)) × HasRows m new (ws ++ added) (ns ++ names_below ws directory x)

-- one of them has a long path
abbrev pub MeetsLong : Image → Rows → NodeId → ℕ → Type 0
MeetsLong m old node directory =
    (ws : List (List ℕ)) (ns : List Name) (x : Node) → HasRows m old ws ns
    → directory < length ws → image_node m node.0 ≡ Some x → HasLong (names_below ws directory x)

-- ---- steps

-- these names begin with one that has this path and leads to the node of this number
pub record IsFirst (m : Image) (path : List ℕ) (n : ℕ) (ns : List Name) : Type 0 where
  pub name : Name
  pub rest : List Name
  pub is : ns ≡ name ∷ rest
  pub path_is : path ≡ name.path
  pub node : image_node m n ≡ Some name.node

-- the first of these names, if there is one
abbrev pub IsNext : Image → Option Named → List Name → Type 0
IsNext m o ns = MatchOption o (ns ≡ []) (λ (n : Named). IsFirst m n.path.now n.node.0 ns)

-- A step put the lines of the first names of two lists, and reports how many names of each. The
-- lines of the other names complete the lines of all.
pub record StepPuts (s t : Sink) (places : Bool) (a b : List ℕ) (xs ys : List Name)
    (r : Step) : Type 0 where
  pub text : List ℕ
  pub puts : Puts s t text
  pub rest : text ++ names_lines places a b (drop r.old xs) (drop r.new ys)
      ≡ names_lines places a b xs ys
  pub printed : r.printed ≡ is_printed text
