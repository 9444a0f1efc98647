-- How the references that a traversal has still to look at stand to the rows that it will find.
use Rattle.std.proofs.Common.{◌≡◌, ◌+◌, ℕ, List, [], ◌∷◌, ◌++◌, refl, sym, ap, ◌∙◌, append_assoc, reverse, None, Some}
use Rattle.std.proofs.lemmas.List.{append-nil, reverse-append}
use Rattle.record_forest.specs.declared.reference.Reference.{Reference}
use Rattle.record_forest.specs.declared.reference.Edge.{Edge}
use Rattle.record_forest.specs.declared.reference.Row.{Row}
use Rattle.record_forest.specs.declared.traversal.Pending.{Pending}
use Rattle.record_forest.specs.References.{References}
use Rattle.record_forest.specs.Forest.{Forest, none, at, Stands, rows, all_rows}
use Rattle.record_forest.proofs.Seen.{keep}

-- the reference x with where it leads
abbrev pub link_to : References → Reference → Edge
link_to g x = record { reference = x; target = g.target x }

pub edge_is : (g : References) (x : Reference) (l : Edge) → l.reference ≡ x → l.target ≡ g.target l.reference
    → l ≡ link_to g x
edge_is g x l e f = let i : l.target ≡ g.target x = f ∙ ap g.target e in λ t. record { reference = e t; target = i t }

-- the row of the record at p, to which q leads
abbrev pub row_of : Pending → ℕ → Row
row_of q p =
    record { offset = p; reference = q.edge.reference; directory = q.directory; parent = q.parent; depth = q.depth }

-- the own list of the record at p, and what comes after it
abbrev pub own_of : References → Pending → ℕ → Pending
own_of g q p =
    record { edge = link_to g (g.own q.edge.reference); directory = p; parent = q.directory; depth = q.depth + 1 }

abbrev pub after_of : References → Pending → Pending
after_of g q =
    record { edge = link_to g (g.after q.edge.reference); directory = q.directory; parent = q.parent; depth = q.depth }

-- what follows from the superblock's reference, in the list of the root at r
abbrev pub below_root : ℕ → Edge → Pending
below_root r l = record { edge = l; directory = r; parent = r; depth = 1 }

abbrev pub root_row : References → ℕ → Row
root_row g r = record { offset = r; reference = g.top; directory = r; parent = r; depth = 0 }

-- the references that lead somewhere, in the order in which they will be looked at
abbrev pub waiting : List Pending → List Reference
waiting [] = []
waiting (q ∷ qs) = keep q.edge.target q.edge.reference (waiting qs)

-- The pending references describe forests, the next one in front, and these are their rows.
abbrev pub Pends : References → List Pending → List Row → Type 0
Pends g [] coming = coming ≡ []
Pends g (q ∷ qs) coming =
    (f : Forest) × (later : List Row) × Stands g q.edge.reference f × Pends g qs later
    × (coming ≡ rows g q.edge.reference q.directory q.parent q.depth f ++ later)

-- whatever rows are to come, with those that were found they are all rows of a forest
abbrev pub Grows : References → List Row → List Pending → Type 0
Grows g found pending =
    (coming : List Row) → Pends g pending coming → (f : Forest) × Stands g g.top f × (all_rows g f ≡ found ++ coming)

-- q leads nowhere
pub grows_none : (g : References) (found : List Row) (q : Pending) (qs : List Pending)
    → g.target q.edge.reference ≡ None → Grows g found (q ∷ qs) → Grows g found qs
grows_none g found q qs e h coming p = h coming (none, coming, e, p, refl)

-- a row is in front of those of its own list and of those after it
more_pends : (g : References) (q : Pending) (p : ℕ) (qs : List Pending) (coming : List Row)
    → g.target q.edge.reference ≡ Some p → Pends g (own_of g q p ∷ after_of g q ∷ qs) coming
    → Pends g (q ∷ qs) (row_of q p ∷ coming)
more_pends g q p qs coming leads h =
    let x = q.edge.reference in
    let own = h.0 in
    let after = h.3.0 in
    let later = h.3.1 in
    let front = rows g (g.own x) p q.directory (q.depth + 1) own in
    let rest = rows g (g.after x) q.directory q.parent q.depth after in
    let is : coming ≡ front ++ (rest ++ later) = h.4 ∙ ap (λ (z : List Row). front ++ z) h.3.4 in (
      at p own after,
      later,
      (leads, h.2, h.3.2),
      h.3.3,
      ap (λ (z : List Row). row_of q p ∷ z) (is ∙ sym (append_assoc front rest later)),
    )

-- q leads to a valid record that was not found
pub grows_more : (g : References) (found : List Row) (q : Pending) (p : ℕ) (qs : List Pending)
    → g.target q.edge.reference ≡ Some p → Grows g found (q ∷ qs)
    → Grows g (found ++ row_of q p ∷ []) (own_of g q p ∷ after_of g q ∷ qs)
grows_more g found q p qs leads h coming k =
    let c = h (row_of q p ∷ coming) (more_pends g q p qs coming leads k) in
    (c.0, c.1, c.2 ∙ sym (append_assoc found (row_of q p ∷ []) coming))

-- the root was found, and what follows from it is pending
pub grows_start : (g : References) (r : ℕ) → g.target g.top ≡ Some r
    → Grows g (root_row g r ∷ []) (below_root r (link_to g (g.own g.top)) ∷ below_root r (link_to g (g.after g.top))
    ∷ [])
grows_start g r leads coming h =
    let own = h.0 in
    let after = h.3.0 in
    let front = rows g (g.own g.top) r r 1 own in
    let rest = rows g (g.after g.top) r r 1 after in
    let end : h.1 ≡ rest = h.3.4 ∙ ap (λ (z : List Row). rest ++ z) h.3.3 ∙ append-nil rest in (
      at r own after,
      (leads, h.2, h.3.2),
      ap (λ (z : List Row). root_row g r ∷ z) (sym (h.4 ∙ ap (λ (z : List Row). front ++ z) end)),
    )

pub grows_done : (g : References) (found : List Row) → Grows g found []
    → (f : Forest) × Stands g g.top f × (all_rows g f ≡ found)
grows_done g found h = let c = h [] refl in (c.0, c.1, c.2 ∙ append-nil found)

-- what is pushed last is looked at first
pub reverse_push : {X : Type 0} (xs : List X) (x : X) → reverse (xs ++ x ∷ []) ≡ x ∷ reverse xs
reverse_push xs x = reverse-append xs (x ∷ [])
