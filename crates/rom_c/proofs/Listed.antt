-- The node of an entry that was read, and its kind.
use Rattle.std.proofs.Common.{◌≡◌, ℕ, Bool, true, false, List, Option, Some, None, Ok, Err, refl, sym, ap, ◌∙◌}
use Rattle.std.proofs.Props.{props}
use Rattle.std.specs.Prelude.{IsSomeAnd, option_map}
use Rattle.rom_tree.specs.declared.types.Entry.{Entry}
use Rattle.rom_tree.specs.Tree.{Node, ino_of, is_directory, entries_of, entry_at, node_at, kind_of}
use Rattle.rom_tree.specs.Image.{Image, image_node}
use Rattle.rom_tree.proofs.Nodes.{node_at-child}
use Rattle.open_files.specs.declared.slot.OpenNode.{OpenNode}
use Rattle.open_files.specs.Calls.{Of, Named}
use Rattle.open_files.specs.Machine.{Open, Outcome, directory_only, next_entry, readdir_on}
use Rattle.open_files.specs.Slots.{image_view, named_by, stands}
use Rattle.path_walk.proofs.GraftNodes.{none_some}
use Rattle.open_files.proofs.Standing.{IsOpen, is_open}
use Rattle.rom_c.specs.declared.file.RomtoolEntry.{RomtoolEntry}
use Rattle.rom_c.specs.Outcomes.{HasKindIn}
use Rattle.rom_c.specs.Reported.{kind_number}

-- the entry of an outcome, and its number
abbrev reported_entry : Outcome (Option (Of Named)) → Option (Of Named)
reported_entry (Ok a) = a.0
reported_entry (Err e) = None

abbrev reported_number : Option (Of Named) → ℕ
reported_number (Some a) = a.1.node
reported_number None = 0

-- the entry that is read at an index is one of the list
read_at : (v : Option (List ℕ × Node)) (p q : ℕ) (e : Of Named)
    → next_entry None p v ≡ Ok (Some e, q) → (y : List ℕ × Node) × (v ≡ Some y) × (e.1.node ≡ ino_of y.1)
read_at None p q e h = absurd (none_some e (ap reported_entry h))
read_at (Some y) p q e h = (y, refl, sym (ap reported_number (ap reported_entry h)))

read_in : (b : Bool) (v : Option (List ℕ × Node)) (p q : ℕ) (e : Of Named)
    → directory_only b (next_entry None p v) ≡ Ok (Some e, q)
    → (y : List ℕ × Node) × (v ≡ Some y) × (e.1.node ≡ ino_of y.1)
read_in true v p q e h = read_at v p q e h
read_in false v p q e h = absurd (cc)

-- its number names its node
pub entry_there : (m : Image) (s : OpenNode) (o : Open Node) (r : Option Entry) (e : Entry)
    → stands (image_view m) s ≡ Some o
    → (q : ℕ) → readdir_on None o.place o.position ≡ Ok (option_map (λ (v : Entry). (None, named_by v)) r, q)
    → r ≡ Some e → (y : Node) × (image_node m e.node.0 ≡ Some y)
entry_there m s o r e h q read k =
    let i : IsOpen (image_view m) s o = is_open (image_view m) s o h in
    let some : readdir_on None o.place o.position ≡ Ok (Some (None, named_by e), q) = read
    ∙ ap (λ (v : Option Entry). Ok (option_map (λ (z : Entry). (None, named_by z)) v, q)) k in
    let w = read_in (is_directory o.place) (entry_at (entries_of o.place) o.position) o.position q
    (None, named_by e) some in (
      w.0.1,
      ap (image_node m) w.2
          ∙ node_at-child m.tree o.place s.node.0 o.position w.0.0 w.0.1 m.coherent i.place w.1,
    )

pub kind_there : (m : Image) (n : ℕ) (y : Node) (k : ℕ) → image_node m n ≡ Some y → k ≡ kind_number (kind_of y)
    → IsSomeAnd (node_at m.tree n) (λ x. k ≡ kind_number (kind_of x))
kind_there m n y k e h = rw e h

pub no_kind : (t : Node) (r : RomtoolEntry) → r.some ≡ 0 → HasKindIn t r
no_kind t r z s = absurd (let p : 0 ≡ 1 = sym z ∙ s in cc)

and_prop : (v : Option Node) (P : Node → Type 0) → ((x : Node) → IsProp (P x)) → IsProp (IsSomeAnd v P)
and_prop None P h = λ x y. absurd x
and_prop (Some x) P h = h x

pub HasKindIn-prop : (t : Node) (r : RomtoolEntry) → IsProp (HasKindIn t r)
HasKindIn-prop t r =
    let e = and_prop (node_at t r.node) (λ x. r.kind ≡ kind_number (kind_of x)) (λ x. Prim.hlevel props) in
    Prim.hlevel (props, e)
