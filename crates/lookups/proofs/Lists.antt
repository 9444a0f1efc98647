-- The entries that are still to come at a cursor.
use Rattle.std.proofs.Common.{◌≡◌, ◌∙◌, ℕ, suc, ◌+◌, ◌<◌, Bool, true, false, List, [], ◌∷◌, ◌++◌, Option, Some, None}
use Rattle.std.proofs.Common.{MatchOption, refl, sym, ap, subst, arith, if◌then◌else◌}
use Rattle.std.specs.Str.{bytes_eq}
use Rattle.rom_tree.specs.Tree.{Node, Entries, no_entries, entry, entry_at, entry_count, drop_entries, ino_of}
use Rattle.rom_tree.specs.Tree.{entries_of}
use Rattle.rom_tree.specs.Image.{Image, image_node, HasDirectory, HasCursor, IsEntry, find_entry}
use Rattle.rom_tree.specs.declared.types.NodeId.{NodeId}
use Rattle.rom_tree.specs.declared.types.Entry.{Entry}
use Rattle.rom_tree.proofs.Nodes.{drop_entries-some, drop_entries-none}
use Rattle.rom_tree.proofs.Named.{directory_by, index_by, next_cursor}
use Rattle.lookups.specs.declared.rows.NamedNode.{NamedNode}
use Rattle.lookups.specs.Indices.{entries_at, entries_in, number_of, first_of}
use Rattle.lookups.proofs.Firsts.{or_else, first_joined}

abbrev pub entries_from : Option ℕ → Entries → Entries
entries_from None es = no_entries
entries_from (Some i) es = drop_entries i es

-- what is still to come
abbrev pub left : Image → ℕ → ℕ → Entries
left m d c = entries_from (m.cursor_index d c) (entries_in m d)

-- what `entry` ensures
abbrev pub Answers : Image → ℕ → ℕ → Option Entry → Type 0
Answers m d c r = (x : Node) (i : ℕ) → image_node m d ≡ Some x → m.cursor_index d c ≡ Some i
    → MatchOption r (entry_at (entries_of x) i ≡ None)
    (λ e. IsEntry m d (entries_of x) i e.name.now e.node.0 e.cursor.0)

left_at : (m : Image) (d c : ℕ) (x : Node) (i : ℕ) → image_node m d ≡ Some x → m.cursor_index d c ≡ Some i
    → left m d c ≡ drop_entries i (entries_of x)
left_at m d c x i e f =
    ap (λ (o : Option ℕ). entries_from o (entries_in m d)) f ∙ ap (λ (o : Option Node). drop_entries i (entries_at o)) e

-- an entry is the first of what is to come
pub record IsNext (m : Image) (d c : ℕ) (e : Entry) : Type 0 where
  pub target : Node
  pub is : left m d c ≡ entry e.name.now target (left m d e.cursor.0)
  pub number : ino_of target ≡ e.node.0
  pub cursor : HasCursor m d e.cursor.0

pub is_next : (m : Image) (d c : ℕ) (e : Entry) → HasDirectory m d → HasCursor m d c → Answers m d c (Some e)
    → IsNext m d c e
is_next m d c e has cursor answers =
    let x = directory_by m d has in
    let i = index_by m d c cursor in
    let at : IsEntry m d (entries_of x.0) i.0 e.name.now e.node.0 e.cursor.0 = answers x.0 i.0 x.1 i.1 in
    let one : suc i.0 ≡ i.0 + 1 = omega arith in
    record {
      target = at.target;
      is = left_at m d c x.0 i.0 x.1 i.1 ∙ (drop_entries-some (entries_of x.0) i.0 e.name.now at.target at.at
          ∙ ap (entry e.name.now at.target)
          (ap (λ (n : ℕ). drop_entries n (entries_of x.0)) one
          ∙ sym (left_at m d e.cursor.0 x.0 (i.0 + 1) x.1 at.next)));
      number = at.number;
      cursor = next_cursor m d (entries_of x.0) i.0 e.name.now e.node.0 e.cursor.0 at;
    }

pub is_last : (m : Image) (d c : ℕ) → HasDirectory m d → HasCursor m d c → Answers m d c None → left m d c ≡ no_entries
is_last m d c has cursor answers =
    let x = directory_by m d has in
    let i = index_by m d c cursor in
    left_at m d c x.0 i.0 x.1 i.1 ∙ drop_entries-none (entries_of x.0) i.0 (answers x.0 i.0 x.1 i.1)

pub fewer : (m : Image) (d c : ℕ) (e : Entry) → IsNext m d c e
    → entry_count (left m d e.cursor.0) < entry_count (left m d c)
fewer m d c e n =
    let is : entry_count (left m d c) ≡ suc (entry_count (left m d e.cursor.0)) = ap entry_count n.is in omega arith

abbrev pub number_in : Entries → List ℕ → Option NodeId
number_in es name = number_of (find_entry es name)

-- the rows so far, and then what is still to come, answer for each name as the list does
pub record Knows (m : Image) (d c : ℕ) (rows : List NamedNode) : Type 0 where
  pub cursor : HasCursor m d c
  pub first : (name : List ℕ) → or_else (first_of rows name) (number_in (left m d c) name)
      ≡ number_in (entries_in m d) name

else_joined : (a b c : Option NodeId) → or_else (or_else a b) c ≡ or_else a (or_else b c)
else_joined None b c = refl
else_joined (Some a) b c = refl

else_none : (a : Option NodeId) → or_else a None ≡ a
else_none None = refl
else_none (Some a) = refl

one_named : (b : Bool) (n : NodeId) (x : Node) (found : Option Node) → ino_of x ≡ n.0
    → or_else (if b then Some n else None) (number_of found) ≡ number_of (if b then Some x else found)
one_named true n x found e = ap (λ (k : ℕ). let r : NodeId = record { 0 = k } in Some r) (sym e)
one_named false n x found e = refl

pub knows_more : (m : Image) (d c : ℕ) (rows : List NamedNode) (e : Entry) (more : List NamedNode) → Knows m d c rows
    → IsNext m d c e → more ≡ rows ++ record { name = e.name; node = e.node } ∷ [] → Knows m d e.cursor.0 more
knows_more m d c rows e more known next is = subst (Knows m d e.cursor.0) (sym is) (record {
  cursor = next.cursor;
  first = λ name.
      let r : NamedNode = record { name = e.name; node = e.node } in
      let after : Entries = left m d e.cursor.0 in
      ap (λ (o : Option NodeId). or_else o (number_in after name)) (first_joined rows (r ∷ []) name)
      ∙ (else_joined (first_of rows name) (first_of (r ∷ []) name) (number_in after name)
      ∙ (ap (or_else (first_of rows name))
      (one_named (bytes_eq e.name.now name) e.node next.target (find_entry after name) next.number
      ∙ ap (λ (es : Entries). number_in es name) (sym next.is))
      ∙ known.first name));
})

pub knows_end : (m : Image) (d c : ℕ) (rows : List NamedNode) (name : List ℕ) → Knows m d c rows
    → left m d c ≡ no_entries → first_of rows name ≡ number_in (entries_in m d) name
knows_end m d c rows name known none =
    sym (else_none (first_of rows name))
    ∙ (ap (λ (es : Entries). or_else (first_of rows name) (number_in es name)) (sym none) ∙ known.first name)
