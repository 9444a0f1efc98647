-- Each node of a tree except the root is that of an entry of a directory.
use Rattle.std.proofs.Common.{◌≡◌, ℕ, ◌==◌, ◌||◌, Bool, true, false, List, [], ◌∷◌, Option, Some, None, inl, inr}
use Rattle.std.proofs.Common.{refl, sym, ap, ◌∙◌, eq-eqb}
use Rattle.std.specs.Prelude.{◌⊎◌, is_some, find, if◌then◌else◌}
use Rattle.rom_tree.specs.Tree.{Node, node, directory, regular, symlink, block, character, socket, fifo, Entries}
use Rattle.rom_tree.specs.Tree.{no_entries, entry, IsIn, here, there, ino_of, nodes, entries_nodes, entries_of}
use Rattle.rom_tree.specs.Tree.{is_directory, node_at}
use Rattle.rom_tree.proofs.Nodes.{in-split, in-front, in-back, node_at-some}
use Rattle.rom_c.specs.declared.answers.RomtoolNode.{RomtoolNode}
use Rattle.rom_c.specs.Linked.{has_entry, entered_from, parent_reported}
use Rattle.rom_c.specs.Reported.{found_reported, no_node}
use Rattle.rom_c.proofs.Walked.{entry_leads}

-- one of these nodes has an entry of that number
abbrev Leads : ℕ → List Node → Type 0
Leads n xs = (y : Node) × IsIn y xs × (has_entry n (entries_of y) ≡ true)

or_true : (b : Bool) → (b || true) ≡ true
or_true true = refl
or_true false = refl

mutual
  below : (t x : Node) → IsIn x (nodes t) → (ino_of x ≡ ino_of t) ⊎ Leads (ino_of x) (nodes t)
  below (node a b) x here = inl refl
  below (node a (directory es)) x (there h) =
      elim (below_entries es x h) [
        | inl e ↦ inr (node a (directory es), here, e)
        | inr w ↦ inr (w.0, there w.1, w.2)
      ]
  below (node a (regular ps)) x (there h) = elim h [ ]
  below (node a (symlink ps)) x (there h) = elim h [ ]
  below (node a block) x (there h) = elim h [ ]
  below (node a character) x (there h) = elim h [ ]
  below (node a socket) x (there h) = elim h [ ]
  below (node a fifo) x (there h) = elim h [ ]

  below_entries : (es : Entries) (x : Node) → IsIn x (entries_nodes es)
      → (has_entry (ino_of x) es ≡ true) ⊎ Leads (ino_of x) (entries_nodes es)
  below_entries no_entries x h = elim h [ ]
  below_entries (entry name z es) x h =
      in-split x (nodes z) (entries_nodes es) h
      (λ v. elim (below z x v) [
        | inl e ↦ inl (entry_leads (ino_of x) name z es (sym e))
        | inr w ↦ inr (w.0, in-front w.0 (nodes z) (entries_nodes es) w.1, w.2)
      ])
      (λ v. elim (below_entries es x v) [
        | inl e ↦ inl (ap (λ (b : Bool). (ino_of z == ino_of x) || b) e ∙ or_true (ino_of z == ino_of x))
        | inr w ↦ inr (w.0, in-back w.0 (nodes z) (entries_nodes es) w.1, w.2)
      ])

finds : (p : Node → Bool) (xs : List Node) (y : Node) → IsIn y xs → p y ≡ true → is_some (find p xs) ≡ true
finds p [] y h e = elim h [ ]
finds p (z ∷ xs) y here e = ap (λ (b : Bool). is_some (if b then Some y else find p xs)) e
finds p (z ∷ xs) y (there h) e =
    elim (p z) as (λ (b : Bool). is_some (if b then Some z else find p xs) ≡ true) [
      | true ↦ refl
      | false ↦ finds p xs y h e
    ]

-- a directory's parent is there

found_some : (v : Option Node) → is_some v ≡ true → (found_reported v).error ≡ 0
found_some None h = absurd (cc)
found_some (Some x) h = refl

abbrev reported_by : Node → Node → Bool → Bool → RomtoolNode
reported_by t x d r =
    if d then (if r then record { error = 0; node = ino_of t } else found_reported (entered_from t (ino_of x)))
    else no_node 2

pub has_parent : (t x : Node) (n : ℕ) → node_at t n ≡ Some x → is_directory x ≡ true → (parent_reported t x).error ≡ 0
has_parent t x n e d =
    let p : Node → Bool = λ y. has_entry (ino_of x) (entries_of y) in
    let f = node_at-some t n x e in
    ap (λ (b : Bool). (reported_by t x b (ino_of x == ino_of t)).error) d
    ∙ elim (below t x f.within) [
      | inl h ↦ ap (λ (b : Bool). (reported_by t x true b).error) (eq-eqb (ino_of x) (ino_of t) h)
      | inr w ↦
          elim (ino_of x == ino_of t) as (λ (b : Bool). (reported_by t x true b).error ≡ 0) [
            | true ↦ refl
            | false ↦ found_some (entered_from t (ino_of x)) (finds p (nodes t) w.0 w.1 w.2)
          ]
    ]
