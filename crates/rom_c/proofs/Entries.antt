-- The entries of a directory after a cursor.
use Rattle.std.proofs.Common.{◌≡◌, ℕ, suc, ◌+◌, ◌-◌, ◌≤◌, Option, Some, None, MatchOption}
use Rattle.std.proofs.Common.{sym, ap, ◌∙◌, arith}
use Rattle.rom_tree.specs.Tree.{Node, no_entries, entry, entries_of, entry_at, entry_count, drop_entries, ino_of}
use Rattle.rom_tree.specs.Image.{Image, image_node, HasDirectory, HasCursor, IsEntry}
use Rattle.rom_tree.specs.Frames.{entries_left}
use Rattle.rom_tree.specs.declared.types.Entry.{Entry}
use Rattle.rom_tree.proofs.Nodes.{drop_entries-some, drop_entries-none, entry_at-below}
use Rattle.rom_tree.proofs.Named.{directory_by, index_by, next_cursor}
use Rattle.rom_c.specs.Directories.{entries_after}
use Rattle.rom_c.proofs.Trees.{count-drop, count-none}

-- what `entry` ensures
abbrev pub Answers : Image → ℕ → ℕ → Option Entry → Type 0
Answers m d c r = (x : Node) (i : ℕ) → image_node m d ≡ Some x → m.cursor_index d c ≡ Some i
    → MatchOption r (entry_at (entries_of x) i ≡ None)
    (λ e. IsEntry m d (entries_of x) i e.name.now e.node.0 e.cursor.0)

pub left_at : (m : Image) (d c : ℕ) (x : Node) (i : ℕ) → image_node m d ≡ Some x → m.cursor_index d c ≡ Some i
    → entries_after m d c ≡ drop_entries i (entries_of x)
left_at m d c x i e f =
    ap (λ (o : Option Node). entries_left o (m.cursor_index d c)) e
    ∙ ap (λ (o : Option ℕ). entries_left (Some x) o) f

-- an entry is the first of those that are left
pub record IsNext (m : Image) (d c : ℕ) (e : Entry) : Type 0 where
  pub target : Node
  pub is : entries_after m d c ≡ entry e.name.now target (entries_after m d e.cursor.0)
  pub number : ino_of target ≡ e.node.0
  pub cursor : HasCursor m d e.cursor.0

pub is_next : (m : Image) (d c : ℕ) (e : Entry) → HasDirectory m d → HasCursor m d c → Answers m d c (Some e)
    → IsNext m d c e
is_next m d c e has cursor answers =
    let x = directory_by m d has in
    let i = index_by m d c cursor in
    let at : IsEntry m d (entries_of x.0) i.0 e.name.now e.node.0 e.cursor.0 = answers x.0 i.0 x.1 i.1 in
    let one : suc i.0 ≡ i.0 + 1 = omega arith in
    record {
      target = at.target;
      is = left_at m d c x.0 i.0 x.1 i.1 ∙ (drop_entries-some (entries_of x.0) i.0 e.name.now at.target at.at
          ∙ ap (entry e.name.now at.target)
          (ap (λ (n : ℕ). drop_entries n (entries_of x.0)) one
          ∙ sym (left_at m d e.cursor.0 x.0 (i.0 + 1) x.1 at.next)));
      number = at.number;
      cursor = next_cursor m d (entries_of x.0) i.0 e.name.now e.node.0 e.cursor.0 at;
    }

pub is_last : (m : Image) (d c : ℕ) → HasDirectory m d → HasCursor m d c → Answers m d c None
    → entries_after m d c ≡ no_entries
is_last m d c has cursor answers =
    let x = directory_by m d has in
    let i = index_by m d c cursor in
    left_at m d c x.0 i.0 x.1 i.1 ∙ drop_entries-none (entries_of x.0) i.0 (answers x.0 i.0 x.1 i.1)

pub one_less : (m : Image) (d c : ℕ) (e : Entry) → IsNext m d c e
    → entry_count (entries_after m d c) ≡ suc (entry_count (entries_after m d e.cursor.0))
one_less m d c e n = ap entry_count n.is

-- the number of entries that are left at an index
pub count_left : (m : Image) (d c : ℕ) (x : Node) (i : ℕ) → image_node m d ≡ Some x → m.cursor_index d c ≡ Some i
    → entry_count (entries_after m d c) ≡ entry_count (entries_of x) - i
count_left m d c x i e f = ap entry_count (left_at m d c x i e f) ∙ count-drop i (entries_of x)

-- an entry that was read is one of the list
pub index_below : (m : Image) (d c i : ℕ) (x : Node) (e : Entry) → Answers m d c (Some e) → image_node m d ≡ Some x
    → m.cursor_index d c ≡ Some i → (suc i ≤ entry_count (entries_of x)) × (m.cursor_index d e.cursor.0 ≡ Some (i + 1))
index_below m d c i x e answers h k =
    let at : IsEntry m d (entries_of x) i e.name.now e.node.0 e.cursor.0 = answers x i h k in
    (entry_at-below (entries_of x) i e.name.now at.target at.at, at.next)

-- and none is at the end
pub index_past : (m : Image) (d c i : ℕ) (x : Node) → Answers m d c None → image_node m d ≡ Some x
    → m.cursor_index d c ≡ Some i → entry_count (entries_of x) ≤ i
index_past m d c i x answers h k = count-none i (entries_of x) (answers x i h k)

-- the index after it
pub directory_index : (m : Image) (d c i : ℕ) (e : Entry) → HasDirectory m d → Answers m d c (Some e)
    → m.cursor_index d c ≡ Some i → m.cursor_index d e.cursor.0 ≡ Some (i + 1)
directory_index m d c i e has answers k =
    let x = directory_by m d has in (index_below m d c i x.0 e answers x.1 k).1
