-- The meaning of the numbers that the code keeps. `View`: images as they are served, one or
-- several. `stands`: the meaning of an open node of the code. `table_of`: the table that the slots
-- mean. `LeadsOn`: a cursor is the position that the descriptor now has. (This project's own.)
use Rattle.std.specs.Prelude.{◌≡◌, ℕ, zero, suc, Bool, true, false, ◌&&◌, List, [], ◌∷◌, Option}
use Rattle.std.specs.Prelude.{Some, None, is_some, option_map, option_and_then, Result, Ok, Err}
use Rattle.rom_tree.specs.declared.types.Piece.{Piece}
use Rattle.rom_tree.specs.declared.types.Entry.{Entry}
use Rattle.rom_tree.specs.Tree.{Node, ino_of, is_directory, is_regular}
use Rattle.rom_tree.specs.Image.{Image, LieIn, image_node}
use Rattle.path_walk.specs.declared.mount.Mount.{Mount}
use Rattle.path_walk.specs.Resolution.{Namespace, tree_namespace}
use Rattle.path_walk.specs.Graft.{MountedNode, graft, node_in}
use Rattle.open_files.specs.declared.error.CallError.{CallError}
use Rattle.open_files.specs.declared.slot.OpenNode.{OpenNode}
use Rattle.open_files.specs.declared.slot.Slots.{Slots}
use Rattle.open_files.specs.Calls.{Calls, Of, Lent, Named}
use Rattle.open_files.specs.Lending.{lent_of}
use Rattle.open_files.specs.Machine.{Open, Table, open_at, Outcome, named, calls_over}

-- Images as they are served: the places to which names lead, and the meaning of the code's numbers.
pub record View (F : Type 0) : Type 0 where
  pub names : Namespace F
  -- the number of a place's image, if several are served
  pub number : F → Option ℕ
  -- the same for an image's number in the code
  pub label : ℕ → Option ℕ
  -- the place that the numbers of an image and of a node name
  pub place : ℕ → ℕ → Option F
  -- the index of a cursor in the list of a directory: the numbers are those of the image, of the
  -- directory and of the cursor
  pub index : ℕ → ℕ → ℕ → Option ℕ

-- one image
abbrev pub image_view : Image → View Node
image_view m = record {
  names = tree_namespace m.bytes m.tree;
  number = λ x. None;
  label = λ i. None;
  place = λ i n. image_node m n;
  index = λ i d c. m.cursor_index d c;
}

abbrev pub graft_node : ℕ → Node → MountedNode
graft_node i x = record { image = i; node = x }

abbrev pub index_in : List Image → ℕ → ℕ → ℕ → Option ℕ
index_in [] i d c = None
index_in (m ∷ ms) zero d c = m.cursor_index d c
index_in (m ∷ ms) (suc i) d c = index_in ms i d c

-- several images with mounts
abbrev pub graft_view : List Image → List Mount → View MountedNode
graft_view ms us = record {
  names = graft ms us;
  number = λ s. Some s.image;
  label = λ i. Some i;
  place = λ i n. option_map (graft_node i) (node_in ms i n);
  index = λ i d c. index_in ms i d c;
}

module _ {F : Type 0} where
  -- the image of a number in a view
  pub record IsImage (v : View F) (i : ℕ) (m : Image) : Type 0 where
    pub node : (n : ℕ) (x : F) → v.place i n ≡ Some x → image_node m n ≡ Some (v.names.node x)
    pub bytes : (n : ℕ) (x : F) → v.place i n ≡ Some x → v.names.bytes x ≡ m.bytes
    pub number : (n : ℕ) (x : F) → v.place i n ≡ Some x → v.number x ≡ v.label i
    pub index : (d c : ℕ) → v.index i d c ≡ m.cursor_index d c

  abbrev pub HasPlace : View F → ℕ → Type 0
  HasPlace v i = (n : ℕ) × (x : F) × (v.place i n ≡ Some x)

  -- an open directory has the index of a cursor as its position, and an open regular file a byte
  abbrev pub open_by : Bool → Bool → ℕ → F → Option ℕ → Option (Open F)
  open_by true r p x None = None
  open_by true r p x (Some k) = Some (record { place = x; position = k })
  open_by false true p x k = Some (record { place = x; position = p })
  open_by false false p x k = None

  abbrev pub open_there : (F → Node) → ℕ → Option ℕ → Option F → Option (Open F)
  open_there node p k None = None
  open_there node p k (Some x) = open_by (is_directory (node x)) (is_regular (node x)) p x k

  unfoldable pub open_as : (F → Node) → ℕ → Option ℕ → Option F → Option (Open F)
  open_as node p k x = open_there node p k x

  -- the meaning of an open node of the code
  abbrev pub stands : View F → OpenNode → Option (Open F)
  stands v s = open_as v.names.node s.position (v.index s.image s.node.0 s.position)
      (v.place s.image s.node.0)

  -- the same node at another position
  abbrev pub moved : Open F → ℕ → Open F
  moved o q = record { place = o.place; position = q }

  -- A call on an open node has this outcome: the reply, and the open node that the code has then. A
  -- refusal does not change the open node.
  abbrev pub Moves : {R : Type 0} → View F → Open F → OpenNode → OpenNode → Outcome R
      → Result R CallError → Type 0
  Moves v o old new outcome (Ok r) =
      (q : ℕ) × (outcome ≡ Ok (r, q)) × (stands v new ≡ Some (moved o q)) × (new.image ≡ old.image)
      × (new.node ≡ old.node)
  Moves v o old new outcome (Err e) = (outcome ≡ Err e) × (new ≡ old)

  abbrev pub is_open : (OpenNode → Option (Open F)) → Option OpenNode → Bool
  is_open f None = true
  is_open f (Some s) = is_some (f s)

  -- each slot that is taken has a meaning
  unfoldable pub all_stand : (OpenNode → Option (Open F)) → List (Option OpenNode) → Bool
  all_stand f [] = true
  all_stand f (s ∷ ss) = is_open f s && all_stand f ss

  -- the table that slots mean
  unfoldable pub table_by : (OpenNode → Option (Open F)) → List (Option OpenNode) → Table F
  table_by f [] = []
  table_by f (s ∷ ss) = option_and_then f s ∷ table_by f ss

  abbrev pub are_sound : View F → List (Option OpenNode) → Bool
  are_sound v slots = all_stand (stands v) slots

  abbrev pub table_of : View F → List (Option OpenNode) → Table F
  table_of v slots = table_by (stands v) slots

  -- the calls on images as they are served
  abbrev pub calls_of : ℕ → View F → Calls (Table F)
  calls_of n v = calls_over n v.names v.number

  -- the cursor of an entry of image i is that of the position of the directory that is open at a
  -- number
  abbrev pub LeadsOn : View F → Table F → ℕ → ℕ → ℕ → Type 0
  LeadsOn v t fd i cursor =
      (o : Open F) → open_at t fd ≡ Some o
      → v.index i (ino_of (v.names.node o.place)) cursor ≡ Some o.position

  -- a name is a part of the image of what is now open at this number
  abbrev pub IsPartThere : View F → Table F → ℕ → List ℕ → Type 0
  IsPartThere v t fd name =
      (o : Open F) → open_at t fd ≡ Some o → LieIn (v.names.bytes o.place) name

-- the open nodes of the descriptors from 0 on
abbrev pub open_nodes : {n : ℕ} → Slots n → List (Option OpenNode)
open_nodes s = s.slots

-- the same for one image: the table that its slots mean, and that each slot that is taken has a
-- meaning
abbrev pub table_in : {n : ℕ} → Image → Slots n → Table Node
table_in m s = table_of (image_view m) s.slots

abbrev pub AreSound : {n : ℕ} → Image → Slots n → Type 0
AreSound m s = are_sound (image_view m) s.slots ≡ true

abbrev pub LeadsIn : {n : ℕ} → Image → Slots n → ℕ → ℕ → Type 0
LeadsIn m s fd cursor = LeadsOn (image_view m) (table_in m s) fd 0 cursor

abbrev pub IsPartIn : {n : ℕ} → Image → Slots n → ℕ → List ℕ → Type 0
IsPartIn m s fd name = IsPartThere (image_view m) (table_in m s) fd name

-- results of the code, read as replies: bytes, an entry, and a value with the number of its image
abbrev pub lent_by : Piece → Lent
lent_by p = lent_of p.place p.bytes.now

abbrev pub named_by : Entry → Named
named_by e = named e.name.now e.node.0

abbrev pub labelled : {A R : Type 0} → (ℕ → Option ℕ) → (A → R) → ℕ × A → Of R
labelled label f r = (label r.0, f r.1)

abbrev pub unlabelled : {A R : Type 0} → (A → R) → A → Of R
unlabelled f r = (None, f r)
