-- Entries of a list that were passed, and that do not have a name.
use Rattle.std.proofs.Common.{◌≡◌, ◌∙◌, ℕ, suc, ◌+◌, Bool, true, false, List, Some, sym, ap, arith, if◌then◌else◌}
use Rattle.std.specs.Str.{bytes_eq}
use Rattle.rom_tree.specs.Tree.{Node, Entries, no_entries, entry, entry_count}
use Rattle.rom_tree.specs.Image.{Image, HasCursor, find_entry}
use Rattle.rom_tree.specs.declared.types.NodeId.{NodeId}
use Rattle.rom_tree.specs.declared.types.Entry.{Entry}
use Rattle.lookups.specs.declared.front.Front.TheVariants.{Leads, Absent}
use Rattle.lookups.specs.Indices.{entries_in, number_of, IsKnown}
use Rattle.lookups.proofs.Lists.{left, IsNext}

-- so many entries are before the cursor, and what is still to come answers for the name as the list does
pub record Passed (m : Image) (d c : ℕ) (name : List ℕ) (k : ℕ) : Type 0 where
  pub cursor : HasCursor m d c
  pub same : find_entry (left m d c) name ≡ find_entry (entries_in m d) name
  pub count : k + entry_count (left m d c) ≡ entry_count (entries_in m d)

other_first : (n name : List ℕ) (x : Node) (es : Entries) → bytes_eq n name ≡ false
    → find_entry (entry n x es) name ≡ find_entry es name
other_first n name x es e = ap (λ (b : Bool). if b then Some x else find_entry es name) e

same_first : (n name : List ℕ) (x : Node) (es : Entries) → bytes_eq n name ≡ true
    → find_entry (entry n x es) name ≡ Some x
same_first n name x es e = ap (λ (b : Bool). if b then Some x else find_entry es name) e

-- one entry more that has another name
pub passed_more : (m : Image) (d c : ℕ) (name : List ℕ) (k : ℕ) (e : Entry) → Passed m d c name k → IsNext m d c e
    → bytes_eq e.name.now name ≡ false → Passed m d e.cursor.0 name (k + 1)
passed_more m d c name k e p next other =
    let after : Entries = left m d e.cursor.0 in
    let one : entry_count (left m d c) ≡ suc (entry_count after) = ap entry_count next.is in
    let count = p.count in
    record {
      cursor = next.cursor;
      same = sym (other_first e.name.now name next.target after other)
          ∙ (ap (λ (es : Entries). find_entry es name) (sym next.is) ∙ p.same);
      count = omega arith;
    }

-- one that has the name
pub passed_found : (m : Image) (d c : ℕ) (name : List ℕ) (k : ℕ) (e : Entry) → Passed m d c name k → IsNext m d c e
    → bytes_eq e.name.now name ≡ true → IsKnown (entries_in m d) name (Leads e.node)
passed_found m d c name k e p next it =
    let there : find_entry (entries_in m d) name ≡ Some next.target =
    sym p.same ∙ (ap (λ (es : Entries). find_entry es name) next.is
    ∙ same_first e.name.now name next.target (left m d e.cursor.0) it) in
    ap number_of there ∙ ap (λ (k : ℕ). let r : NodeId = record { 0 = k } in Some r) next.number

-- the list's end
pub passed_all : (m : Image) (d c : ℕ) (name : List ℕ) (k : ℕ) → Passed m d c name k → left m d c ≡ no_entries
    → IsKnown (entries_in m d) name Absent
passed_all m d c name k p e = ap number_of (sym p.same ∙ ap (λ (es : Entries). find_entry es name) e)
