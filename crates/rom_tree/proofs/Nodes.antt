-- Entries by index, the node of a number, and how deep directories lie.
use Rattle.std.proofs.Common.{◌≡◌, ℕ, zero, suc, true, false, List, [], ◌∷◌, ◌++◌, Some, None, ◌≤◌, refl, sym, ap, ◌∙◌}
use Rattle.std.proofs.Common.{arith, ◌==◌, eq-eqb}
use Rattle.std.proofs.lemmas.Bool.{eqb-true}
use Rattle.std.specs.Prelude.{find, if◌then◌else◌}
use Rattle.std.specs.Str.{bytes_eq}
use Rattle.rom_tree.specs.Image.{find_entry}
use Rattle.rom_tree.specs.Tree.{Node, node, Body, directory, regular, symlink, block, character, socket, fifo, Entries}
use Rattle.rom_tree.specs.Tree.{no_entries, entry, ino_of, is_directory, entries_of, entry_at, entry_count}
use Rattle.rom_tree.specs.Tree.{drop_entries, nodes, body_nodes, entries_nodes, node_at, depth, body_depth}
use Rattle.rom_tree.specs.Tree.{entries_depth, levels, body_levels, entries_levels, IsIn, here, there, IsCoherent}

same_pair : (a b : List ℕ × Node) → Some a ≡ Some b → a ≡ b
same_pair a b h = cc

same_target : (n name : List ℕ) (y x : Node) → entry_at (entry n y no_entries) zero ≡ Some (name, x) → y ≡ x
same_target n name y x h = ap (λ (v : List ℕ × Node). v.1) (same_pair (n, y) (name, x) h)

-- what follows from the index of an entry on begins with it
pub drop_entries-some : (es : Entries) (i : ℕ) (name : List ℕ) (x : Node) → entry_at es i ≡ Some (name, x)
    → drop_entries i es ≡ entry name x (drop_entries (suc i) es)
drop_entries-some no_entries i name x h = cc
drop_entries-some (entry n y es) zero name x h =
    let p : (n, y) ≡ (name, x) = cc in ap (λ (v : List ℕ × Node). entry v.0 v.1 es) p
drop_entries-some (entry n y es) (suc i) name x h = drop_entries-some es i name x h

-- and nothing follows from the list's length on
pub drop_entries-none : (es : Entries) (i : ℕ) → entry_at es i ≡ None → drop_entries i es ≡ no_entries
drop_entries-none no_entries zero h = refl
drop_entries-none no_entries (suc i) h = refl
drop_entries-none (entry n y es) zero h = cc
drop_entries-none (entry n y es) (suc i) h = drop_entries-none es i h

-- there is no entry from the list's length on
pub entry_at-none : (es : Entries) (i : ℕ) → entry_count es ≤ i → entry_at es i ≡ None
entry_at-none no_entries i h = refl
entry_at-none (entry n y es) zero h = absurd (omega arith)
entry_at-none (entry n y es) (suc i) h = entry_at-none es i (omega arith)

-- what is in a list is in a longer one
pub in-front : (x : Node) (xs ys : List Node) → IsIn x xs → IsIn x (xs ++ ys)
in-front x [] ys h = elim h [ ]
in-front x (y ∷ xs) ys here = here
in-front x (y ∷ xs) ys (there h) = there (in-front x xs ys h)

pub in-back : (x : Node) (xs ys : List Node) → IsIn x ys → IsIn x (xs ++ ys)
in-back x [] ys h = h
in-back x (y ∷ xs) ys h = there (in-back x xs ys h)

-- all nodes of an entry's node are among those of the entries
pub entries_nodes-at : (es : Entries) (i : ℕ) (name : List ℕ) (x y : Node) → entry_at es i ≡ Some (name, x)
    → IsIn y (nodes x) → IsIn y (entries_nodes es)
entries_nodes-at no_entries i name x y h k = absurd (cc)
entries_nodes-at (entry n z es) zero name x y h k =
    let r : z ≡ x = same_target n name z x h in
    in-front y (nodes z) (entries_nodes es) (rw r k)
entries_nodes-at (entry n z es) (suc i) name x y h k =
    in-back y (nodes z) (entries_nodes es) (entries_nodes-at es i name x y h k)

-- and so among those of the directory
pub entry_in_nodes : (d : Node) (i : ℕ) (name : List ℕ) (x y : Node) → entry_at (entries_of d) i ≡ Some (name, x)
    → IsIn y (nodes x) → IsIn y (nodes d)
entry_in_nodes (node a (directory es)) i name x y h k = there (entries_nodes-at es i name x y h k)
entry_in_nodes (node a (regular ps)) i name x y h k = absurd (cc)
entry_in_nodes (node a (symlink ps)) i name x y h k = absurd (cc)
entry_in_nodes (node a block) i name x y h k = absurd (cc)
entry_in_nodes (node a character) i name x y h k = absurd (cc)
entry_in_nodes (node a socket) i name x y h k = absurd (cc)
entry_in_nodes (node a fifo) i name x y h k = absurd (cc)

-- what is in two lists is in one of them
pub in-split : {R : Type 0} (x : Node) (xs ys : List Node) → IsIn x (xs ++ ys) → (IsIn x xs → R) → (IsIn x ys → R) → R
in-split x [] ys h f k = k h
in-split x (y ∷ xs) ys here f k = f here
in-split x (y ∷ xs) ys (there h) f k = in-split x xs ys h (λ v. f (there v)) k

-- a node is among its own nodes
pub in_self : (x : Node) → IsIn x (nodes x)
in_self (node a b) = here

-- an entry's node is a node of the tree of which the directory is one
mutual
  pub child_in : (t : Node) (d : Node) (i : ℕ) (name : List ℕ) (y : Node) → IsIn d (nodes t)
      → entry_at (entries_of d) i ≡ Some (name, y) → IsIn y (nodes t)
  child_in (node a b) d i name y here e = entry_in_nodes (node a b) i name y y e (in_self y)
  child_in (node a b) d i name y (there h) e = there (child_in_body b d i name y h e)

  pub child_in_body : (b : Body) (d : Node) (i : ℕ) (name : List ℕ) (y : Node) → IsIn d (body_nodes b)
      → entry_at (entries_of d) i ≡ Some (name, y) → IsIn y (body_nodes b)
  child_in_body (directory es) d i name y h e = child_in_entries es d i name y h e
  child_in_body (regular ps) d i name y h e = elim h [ ]
  child_in_body (symlink ps) d i name y h e = elim h [ ]
  child_in_body block d i name y h e = elim h [ ]
  child_in_body character d i name y h e = elim h [ ]
  child_in_body socket d i name y h e = elim h [ ]
  child_in_body fifo d i name y h e = elim h [ ]

  pub child_in_entries : (es : Entries) (d : Node) (i : ℕ) (name : List ℕ) (y : Node) → IsIn d (entries_nodes es)
      → entry_at (entries_of d) i ≡ Some (name, y) → IsIn y (entries_nodes es)
  child_in_entries no_entries d i name y h e = elim h [ ]
  child_in_entries (entry n z es) d i name y h e =
      in-split d (nodes z) (entries_nodes es) h
      (λ v. in-front y (nodes z) (entries_nodes es) (child_in z d i name y v e))
      (λ v. in-back y (nodes z) (entries_nodes es) (child_in_entries es d i name y v e))

-- what a search by number finds
pub record IsFoundAt (i : ℕ) (x : Node) (xs : List Node) : Type 0 where
  pub number : ino_of x ≡ i
  pub within : IsIn x xs

pub find-some : (xs : List Node) (i : ℕ) (x : Node) → find (λ y. ino_of y == i) xs ≡ Some x → IsFoundAt i x xs
find-some [] i x h = absurd (cc)
find-some (y ∷ xs) i x h =
    elim (ino_of y == i) as (λ v. (ino_of y == i) ≡ v → (if v then Some y else find (λ z. ino_of z == i) xs) ≡ Some x
    → IsFoundAt i x (y ∷ xs)) [
      | true ↦ λ t e. let p : y ≡ x = cc in rw (← p) (record { number = eqb-true (ino_of y) i t; within = here })
      | false ↦ λ t e. let r = find-some xs i x e in record { number = r.number; within = there r.within }
    ] refl h

-- a search by the number of a node in the list finds something
pub find-has : (xs : List Node) (x : Node) → IsIn x xs → (y : Node) × (find (λ z. ino_of z == ino_of x) xs ≡ Some y)
find-has [] x h = elim h [ ]
find-has (y ∷ xs) x here = (x, rw (eq-eqb (ino_of x) (ino_of x) refl))
find-has (y ∷ xs) x (there h) =
    elim (ino_of y == ino_of x) as (λ v. (z : Node)
    × ((if v then Some y else find (λ z. ino_of z == ino_of x) xs) ≡ Some z)) [
      | true ↦ (y, refl)
      | false ↦ find-has xs x h
    ]

-- a node of the tree is the one that its number names
pub node_at-in : (t x : Node) → IsCoherent t → IsIn x (nodes t) → node_at t (ino_of x) ≡ Some x
unfolding node_at
node_at-in t x one h =
    let f = find-has (nodes t) x h in
    let r = find-some (nodes t) (ino_of x) f.0 f.1 in
    let e : f.0 ≡ x = one f.0 x r.within h r.number in
    f.1 ∙ ap (λ (v : Node). Some v) e

-- the root's number names the root
pub node_at-root : (t : Node) → IsCoherent t → node_at t (ino_of t) ≡ Some t
node_at-root t one = node_at-in t t one (in_self t)

-- if each node is the one that its number names, no two nodes have one number
pub coherent_by : (t : Node) → ((x : Node) → IsIn x (nodes t) → node_at t (ino_of x) ≡ Some x) → IsCoherent t
coherent_by t named x y h k e = let p : Some x ≡ Some y = sym (named x h) ∙ (ap (node_at t) e ∙ named y k) in cc

-- what a number names has that number, and is one of the tree's nodes
pub node_at-some : (t : Node) (i : ℕ) (x : Node) → node_at t i ≡ Some x → IsFoundAt i x (nodes t)
unfolding node_at
node_at-some t i x h = find-some (nodes t) i x h

-- an entry's number names the entry's node
pub node_at-child : (t d : Node) (n i : ℕ) (name : List ℕ) (x : Node) → IsCoherent t → node_at t n ≡ Some d
    → entry_at (entries_of d) i ≡ Some (name, x) → node_at t (ino_of x) ≡ Some x
node_at-child t d n i name x one h e = node_at-in t x one (child_in t d i name x (node_at-some t n d h).within e)

levels_entries : (es : Entries) (i : ℕ) (name : List ℕ) (x : Node) → entry_at es i ≡ Some (name, x)
    → levels x ≤ entries_levels es
levels_entries no_entries i name x h = absurd (cc)
levels_entries (entry n y es) zero name x h =
    let k : levels y ≡ levels x = ap levels (same_target n name y x h) in omega (arith, k)
levels_entries (entry n y es) (suc i) name x h = let k = levels_entries es i name x h in omega arith

-- below an entry's node there is one level less
pub levels_child : (d : Node) (i : ℕ) (name : List ℕ) (x : Node) → entry_at (entries_of d) i ≡ Some (name, x)
    → suc (levels x) ≤ levels d
levels_child (node a (directory es)) i name x h = let k = levels_entries es i name x h in omega arith
levels_child (node a (regular ps)) i name x h = absurd (cc)
levels_child (node a (symlink ps)) i name x h = absurd (cc)
levels_child (node a block) i name x h = absurd (cc)
levels_child (node a character) i name x h = absurd (cc)
levels_child (node a socket) i name x h = absurd (cc)
levels_child (node a fifo) i name x h = absurd (cc)

-- what a search by name finds is at an index
pub record IsAt (es : Entries) (x : Node) : Type 0 where
  pub index : ℕ
  pub name : List ℕ
  pub at : entry_at es index ≡ Some (name, x)

-- and so there is an index for a name that is found
pub find_entry-at : (es : Entries) (name : List ℕ) (x : Node) → find_entry es name ≡ Some x → IsAt es x
find_entry-at no_entries name x h = absurd (cc)
find_entry-at (entry n y es) name x h =
    elim (bytes_eq n name) as (λ v. (if v then Some y else find_entry es name) ≡ Some x → IsAt (entry n y es) x) [
      | true ↦ λ e. record { index = zero; name = n; at = (let p : y ≡ x = cc in ap (λ (v : Node). Some (n, v)) p) }
      | false ↦ λ e. let r = find_entry-at es name x e in record { index = suc r.index; name = r.name; at = r.at }
    ] h

-- there is no index of an entry from the list's length on
pub entry_at-below : (es : Entries) (i : ℕ) (name : List ℕ) (x : Node) → entry_at es i ≡ Some (name, x)
    → suc i ≤ entry_count es
entry_at-below no_entries i name x h = absurd (cc)
entry_at-below (entry n y es) zero name x h = omega arith
entry_at-below (entry n y es) (suc i) name x h = let k = entry_at-below es i name x h in omega arith

-- a search by name from an index on ends if the entry there has the name
pub find_entry-here : (es : Entries) (i : ℕ) (at name : List ℕ) (x : Node) → entry_at es i ≡ Some (at, x)
    → true ≡ bytes_eq at name → find_entry (drop_entries i es) name ≡ Some x
find_entry-here es i at name x h t = rw (drop_entries-some es i at x h, ← t) refl

-- goes on if it has another
pub find_entry-next : (es : Entries) (i : ℕ) (at name : List ℕ) (x : Node) → entry_at es i ≡ Some (at, x)
    → false ≡ bytes_eq at name → find_entry (drop_entries i es) name ≡ find_entry (drop_entries (suc i) es) name
find_entry-next es i at name x h t = rw (drop_entries-some es i at x h, ← t) refl

-- and finds nothing at the list's end
pub find_entry-end : (es : Entries) (i : ℕ) (name : List ℕ) → entry_at es i ≡ None
    → find_entry (drop_entries i es) name ≡ None
find_entry-end es i name h = rw (drop_entries-none es i h) refl

-- a directory is a level
pub levels_directory : (d : Node) → is_directory d ≡ true → 1 ≤ levels d
levels_directory (node a (directory es)) h = omega arith
levels_directory (node a (regular ps)) h = absurd (cc)
levels_directory (node a (symlink ps)) h = absurd (cc)
levels_directory (node a block) h = absurd (cc)
levels_directory (node a character) h = absurd (cc)
levels_directory (node a socket) h = absurd (cc)
levels_directory (node a fifo) h = absurd (cc)

-- there is at most one level more than names from the root to a node
mutual
  pub levels_depth : (x : Node) → levels x ≤ suc (depth x)
  levels_depth (node a b) = levels_depth_body b

  levels_depth_body : (b : Body) → body_levels b ≤ suc (body_depth b)
  levels_depth_body (directory es) = let k = levels_depth_entries es in omega arith
  levels_depth_body (regular ps) = omega arith
  levels_depth_body (symlink ps) = omega arith
  levels_depth_body block = omega arith
  levels_depth_body character = omega arith
  levels_depth_body socket = omega arith
  levels_depth_body fifo = omega arith

  levels_depth_entries : (es : Entries) → entries_levels es ≤ entries_depth es
  levels_depth_entries no_entries = omega arith
  levels_depth_entries (entry n x es) = let h = levels_depth x in let k = levels_depth_entries es in omega arith

-- what is no directory has no entries
pub not_directory_entries : (x : Node) → false ≡ is_directory x → entries_of x ≡ no_entries
not_directory_entries (node a (directory es)) h = absurd (cc)
not_directory_entries (node a (regular ps)) h = refl
not_directory_entries (node a (symlink ps)) h = refl
not_directory_entries (node a block) h = refl
not_directory_entries (node a character) h = refl
not_directory_entries (node a socket) h = refl
not_directory_entries (node a fifo) h = refl
