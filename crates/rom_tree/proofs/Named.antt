-- What numbers and names name in an image.
use Rattle.std.proofs.Common.{◌≡◌, ℕ, suc, ◌+◌, ◌≤◌, true, List, Option, Some, None, IsSome, refl, sym, ap, ◌∙◌, rules}
use Rattle.std.specs.Prelude.{IsSomeAnd}
use Rattle.rom_tree.specs.Tree.{Node, Entries, ino_of, is_directory, is_link, entries_of, levels}
use Rattle.rom_tree.specs.Image.{Image, image_node, HasNode, HasDirectory, HasLink, HasCursor, find_entry, IsEntry}
use Rattle.rom_tree.proofs.Nodes.{node_at-root, node_at-some, node_at-child, find_entry-at, levels_child}

-- a value that is there
pub some_is : {A : Type 0} (o : Option A) (x : A) → o ≡ Some x → IsSome o
some_is o x e = rw e (search rules)

some_and : (o : Option Node) (x : Node) (P : Node → Type 0) → o ≡ Some x → P x → IsSomeAnd o P
some_and o x P e h = rw e h

-- a number that names a node, a directory, a link
pub has_node : (m : Image) (n : ℕ) (x : Node) → image_node m n ≡ Some x → HasNode m n
has_node m n x e = some_is (image_node m n) x e

pub has_directory : (m : Image) (n : ℕ) (x : Node) → image_node m n ≡ Some x → is_directory x ≡ true → HasDirectory m n
has_directory m n x e h = some_and (image_node m n) x (λ y. is_directory y ≡ true) e h

pub has_link : (m : Image) (n : ℕ) (x : Node) → image_node m n ≡ Some x → is_link x ≡ true → HasLink m n
has_link m n x e h = some_and (image_node m n) x (λ y. is_link y ≡ true) e h

some_by : (o : Option Node) → IsSome o → (x : Node) × (o ≡ Some x)
some_by None h = absurd (search rules)
some_by (Some x) h = (x, refl)

some_and_by : (o : Option Node) (P : Node → Type 0) → IsSomeAnd o P → (x : Node) × (o ≡ Some x) × P x
some_and_by None P h = absurd h
some_and_by (Some x) P h = (x, refl, h)

-- the node of a number that names one, a directory, a link
pub node_by : (m : Image) (n : ℕ) → HasNode m n → (x : Node) × (image_node m n ≡ Some x)
node_by m n h = some_by (image_node m n) h

pub directory_by : (m : Image) (n : ℕ) → HasDirectory m n
    → (x : Node) × (image_node m n ≡ Some x) × (is_directory x ≡ true)
directory_by m n h = some_and_by (image_node m n) (λ y. is_directory y ≡ true) h

pub link_by : (m : Image) (n : ℕ) → HasLink m n → (x : Node) × (image_node m n ≡ Some x) × (is_link x ≡ true)
link_by m n h = some_and_by (image_node m n) (λ y. is_link y ≡ true) h

some_number : (o : Option ℕ) → IsSome o → (i : ℕ) × (o ≡ Some i)
some_number None h = absurd (search rules)
some_number (Some i) h = (i, refl)

-- the index of a cursor
pub index_by : (m : Image) (d c : ℕ) → HasCursor m d c → (i : ℕ) × (m.cursor_index d c ≡ Some i)
index_by m d c h = some_number (m.cursor_index d c) h

-- 0 is a cursor, and so is the one that an entry gives
pub start_cursor : (m : Image) (d : ℕ) → HasCursor m d 0
start_cursor m d = some_is (m.cursor_index d 0) 0 (m.starts d)

pub next_cursor : (m : Image) (d : ℕ) (es : Entries) (i : ℕ) (name : List ℕ) (n c : ℕ) → IsEntry m d es i name n c
    → HasCursor m d c
next_cursor m d es i name n c e = some_is (m.cursor_index d c) (i + 1) e.next

-- a number names one node
pub same_node : (m : Image) (n : ℕ) (x y : Node) → image_node m n ≡ Some x → image_node m n ≡ Some y → x ≡ y
same_node m n x y e d = let p : Some x ≡ Some y = sym e ∙ d in cc

-- the node of a number has that number
pub node_number : (m : Image) (n : ℕ) (x : Node) → image_node m n ≡ Some x → ino_of x ≡ n
node_number m n x e = (node_at-some m.tree n x e).number

-- the root's number names the root
pub root_node : (m : Image) (n : ℕ) → n ≡ ino_of m.tree → image_node m n ≡ Some m.tree
root_node m n e = ap (image_node m) e ∙ node_at-root m.tree m.coherent

-- the number in an entry names the entry's node
pub entry_node : (m : Image) (d : ℕ) (x : Node) (i : ℕ) (name : List ℕ) (n c : ℕ) → image_node m d ≡ Some x
    → (e : IsEntry m d (entries_of x) i name n c) → image_node m n ≡ Some e.target
entry_node m d x i name n c h e =
    ap (image_node m) (sym e.number) ∙ node_at-child m.tree x d i name e.target m.coherent h e.at

-- the number of the node that a name names in a directory names that node
pub named_node : (m : Image) (n : ℕ) (d x : Node) (name : List ℕ) → image_node m n ≡ Some d
    → find_entry (entries_of d) name ≡ Some x → image_node m (ino_of x) ≡ Some x
named_node m n d x name e f =
    let r = find_entry-at (entries_of d) name x f in node_at-child m.tree d n r.index r.name x m.coherent e r.at

-- and has one level less below it
pub named_levels : (d x : Node) (name : List ℕ) → find_entry (entries_of d) name ≡ Some x → suc (levels x) ≤ levels d
named_levels d x name f = let r = find_entry-at (entries_of d) name x f in levels_child d r.index r.name x r.at
