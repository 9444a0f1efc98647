-- The meaning of a walk's stack of open directories. Its last frame is that of the deepest
-- directory. `pending`: the names that the walk still has to return. `Follows`, `Gives`: a step of
-- the stack that returns some names, or one. (This project's own.)
use Rattle.std.specs.Prelude.{◌≡◌, ◌<◌, ℕ, suc, ◌+◌, ◌*◌, ◌≤◌, Bool, List, [], ◌∷◌, ◌++◌, length}
use Rattle.std.specs.Prelude.{Option, Some, None, if◌then◌else◌}
use Rattle.std.specs.Borrow.{Bor}
use Rattle.rom_tree.specs.Tree.{Node, Entries, no_entries, drop_entries, entries_of, entries_nodes}
use Rattle.rom_tree.specs.Tree.{levels}
use Rattle.rom_tree.specs.Image.{Image, image_node, HasDirectory, HasCursor}
use Rattle.rom_tree.specs.Names.{Name, named, entries_names}
use Rattle.rom_tree.specs.declared.frame.Frame.{Frame}

-- the text that a directory's name adds to a path: none for the root
abbrev pub name_text : Option (Bor (List ℕ)) → List ℕ
name_text None = []
name_text (Some n) = 47 ∷ n.now

abbrev pub entries_left : Option Node → Option ℕ → Entries
entries_left None i = no_entries
entries_left (Some x) None = no_entries
entries_left (Some x) (Some i) = drop_entries i (entries_of x)

-- the entries that are left at a frame
unfoldable pub left : Image → Frame → Entries
left m f = entries_left (image_node m f.directory.0) (m.cursor_index f.directory.0 f.cursor.0)

-- the path of the last of the frames; `path` is that of the directory of the first
unfoldable pub path_text : List ℕ → List Frame → List ℕ
path_text path [] = path
path_text path (f ∷ fs) = path_text (path ++ name_text f.name) fs

-- the names that are still to come, those of the last frame first
unfoldable pub pending : Image → List ℕ → List Frame → List Name
pending m path [] = []
pending m path (f ∷ fs) =
    pending m (path ++ name_text f.name) fs ++ entries_names (path ++ name_text f.name) (left m f)

abbrev pub levels_at : Option Node → ℕ
levels_at None = 0
levels_at (Some x) = levels x

-- a frame with k frames before it
pub record IsFrame (m : Image) (k : ℕ) (f : Frame) : Type 0 where
  pub directory : HasDirectory m f.directory.0
  pub cursor : HasCursor m f.directory.0 f.cursor.0
  pub deep : levels_at (image_node m f.directory.0) + k ≤ 65

unfoldable pub AreFrames : Image → ℕ → List Frame → Type 0
AreFrames m k [] = Unit {0}
AreFrames m k (f ∷ fs) = IsFrame m k f × AreFrames m (suc k) fs

-- twice the number of nodes that are still to come, and the number of frames
unfoldable pub weight : Image → List Frame → ℕ
weight m [] = 0
weight m (f ∷ fs) = suc (2 * length (entries_nodes (left m f))) + weight m fs

-- The stack `new` follows the stack `old` after some names were returned: less is still to come,
-- and what was to come is these names and what is to come now.
pub record Follows (m : Image) (old new : List Frame) (given : List Name) : Type 0 where
  pub frames : AreFrames m 0 new
  pub less : weight m new < weight m old
  pub names : pending m [] old ≡ given ++ pending m [] new

-- the name itself, which is empty for the root
abbrev pub last_name : Option (Bor (List ℕ)) → List ℕ
last_name None = []
last_name (Some n) = n.now

-- the path of a name in the last of the frames, or that of the root
abbrev pub line_path : List Frame → Option (Bor (List ℕ)) → List ℕ
line_path fs None = 47 ∷ []
line_path fs (Some n) = path_text [] fs ++ 47 ∷ n.now

-- the path of a name; if its own directory was entered, this is the path of the frames
abbrev pub way_of : Option (Bor (List ℕ)) → Bool → List Frame → List ℕ
way_of None entered fs = 47 ∷ []
way_of (Some n) entered fs = path_text [] fs ++ (if entered then [] else 47 ∷ n.now)

-- The stack `new` follows the stack `old` after the node of number n was returned under this name.
-- Less is still to come. What was to come is that name, to which the frames lead, and what is to
-- come now.
pub record Gives (m : Image) (old new : List Frame) (name : Bor (List ℕ)) (n : ℕ)
    (entered : Bool) : Type 0 where
  pub node : Node
  pub at : image_node m n ≡ Some node
  pub frames : AreFrames m 0 new
  pub less : weight m new < weight m old
  pub names : pending m [] old ≡ named (way_of (Some name) entered new) name.now node
      ∷ pending m [] new
