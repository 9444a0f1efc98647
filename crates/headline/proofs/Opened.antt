-- What is open of an image is of its tree, whatever was called before.
use Rattle.std.proofs.Common.{◌≡◌, ℕ, zero, suc, Bool, true, false, List, [], ◌∷◌, Option, Some, None, Result, Ok, Err}
use Rattle.std.proofs.Common.{if◌then◌else◌, refl, sym, subst, ◌∙◌}
use Rattle.std.specs.Prelude.{slice_get, slice_set, option_and_then, option_map}
use Rattle.std.specs.List.{AllByRecursion as Every}
use Rattle.rom_tree.specs.Image.{Image, find_entry}
use Rattle.rom_tree.specs.Tree.{Node, IsIn, nodes, entries_of}
use Rattle.rom_tree.proofs.Nodes.{in_self, child_in, find_entry-at}
use Rattle.path_walk.specs.declared.error.WalkError.{WalkError}
use Rattle.path_walk.specs.Resolution.{Namespace, tree_namespace, resolution}
use Rattle.path_walk.proofs.Alike.{walk_lift, ok_by}
use Rattle.open_files.specs.declared.error.CallError.TheVariants.{Enxio}
use Rattle.open_files.specs.Calls.{Answer, refuse}
use Rattle.open_files.specs.Machine.{Open, Table, Outcome, open_at, put, no_files, after, opened, closed, open_free}
use Rattle.open_files.specs.Machine.{walked}

-- a place of an image's tree
abbrev Inside : Image → Type 0
Inside m = (x : Node) × IsIn x (nodes m.tree)

found_inside : (m : Image) (d : Inside m) (name : List ℕ) (o : Option Node) → find_entry (entries_of d.0) name ≡ o
    → Option (Inside m)
found_inside m d name None e = None
found_inside m d name (Some x) e =
    let a = find_entry-at (entries_of d.0) name x e in Some (x, child_in m.tree d.0 a.index a.name x d.1 a.at)

same_found : (m : Image) (d : Inside m) (name : List ℕ) (o : Option Node) (e : find_entry (entries_of d.0) name ≡ o)
    → o ≡ option_map (λ (x : Inside m). x.0) (found_inside m d name o e)
unfolding found_inside
same_found m d name None e = refl
same_found m d name (Some x) e = refl

abbrev inside : (m : Image) → Namespace (Inside m)
inside m = record {
  root = (m.tree, in_self m.tree);
  node = λ x. x.0;
  bytes = λ x. m.bytes;
  entry = λ x name. found_inside m x name (find_entry (entries_of x.0) name) refl;
}

-- a path leads to a node of the tree
pub leads_inside : (m : Image) (path : List ℕ) (follow : Bool) (x : Node)
    → resolution (tree_namespace m.bytes m.tree) path follow ≡ Ok x
    → IsIn x (nodes m.tree)
leads_inside m path follow x e =
    let a = inside m in
    let b = tree_namespace m.bytes m.tree in
    let h : Inside m → Node = λ y. y.0 in
    let same = walk_lift a b h (λ y. refl) (λ y. refl)
    (λ y name. same_found m y name (find_entry (entries_of y.0) name) refl) refl path follow in
    let r = ok_by a b h (resolution a path follow) x (sym same ∙ e) in
    subst (λ (y : Node). IsIn y (nodes m.tree)) r.2 r.0.1

module _ (m : Image) where
  abbrev IsOf : Option (Open Node) → Type 0
  IsOf None = Unit {0}
  IsOf (Some o) = IsIn o.place (nodes m.tree)

  -- each open place is of the tree
  abbrev pub AreOf : Table Node → Type 0
  AreOf t = Every IsOf t

  pub none_open : (n : ℕ) → AreOf (no_files n)
  none_open zero = tt
  none_open (suc n) = (tt, none_open n)

  set_of : (t : Table Node) (i : ℕ) (o : Option (Open Node)) → AreOf t → IsOf o → AreOf (slice_set t i o)
  set_of [] i o h k = tt
  set_of (s ∷ t) zero o h k = (k, h.1)
  set_of (s ∷ t) (suc i) o h k = (h.0, set_of t i o h.1 k)

  put_of : (t : Table Node) (i : ℕ) (o : Option (Open Node)) → AreOf t → IsOf o → AreOf (put t i o)
  unfolding put
  put_of t i o h k = set_of t i o h k

  get_of : (t : Table Node) (i : ℕ) (o : Open Node) → AreOf t → option_and_then (λ o. o) (slice_get t i) ≡ Some o
      → IsOf (Some o)
  get_of [] i o h e = absurd (cc)
  get_of (None ∷ t) zero o h e = absurd (cc)
  get_of (Some s ∷ t) zero o h e = let z : s ≡ o = cc in subst (λ (v : Open Node). IsIn v.place (nodes m.tree)) z h.0
  get_of (s ∷ t) (suc i) o h e = get_of t i o h.1 e

  pub at_of : (t : Table Node) (i : ℕ) (o : Open Node) → AreOf t → open_at t i ≡ Some o → IsIn o.place (nodes m.tree)
  unfolding open_at
  at_of t i o h e = get_of t i o h e

  -- calls leave such tables
  pub after_of : {R : Type 0} (t : Table Node) (fd : ℕ) (x : Node) (r : Outcome R) → AreOf t → IsIn x (nodes m.tree)
      → AreOf (after t fd x r).state
  after_of t fd x (Err e) h k = h
  after_of t fd x (Ok a) h k = put_of t fd (Some (record { place = x; position = a.1 })) h k

  pub opened_of : {R : Type 0} (t : Table Node) (fd : ℕ) (f : Node → ℕ → Outcome R) (o : Option (Open Node))
      → open_at t fd ≡ o → AreOf t
      → AreOf (opened t fd f o).state
  opened_of t fd f None e h = h
  opened_of t fd f (Some o) e h = after_of t fd o.place (f o.place o.position) h (at_of t fd o h e)

  pub closed_of : (t : Table Node) (fd : ℕ) (o : Option (Open Node)) → AreOf t → AreOf (closed t fd o).state
  closed_of t fd None h = h
  closed_of t fd (Some o) h = put_of t fd None h tt

  free_of : (t : Table Node) (x : Node) (i : Option ℕ) → AreOf t → IsIn x (nodes m.tree) → AreOf (open_free t x i).state
  free_of t x None h k = h
  free_of t x (Some i) h k = put_of t i (Some (record { place = x; position = 0 })) h k

  pub place_of : (t : Table Node) (x : Node) (i : Option ℕ) (b : Bool) → AreOf t → IsIn x (nodes m.tree)
      → AreOf (if b then open_free t x i else refuse Enxio t).state
  place_of t x i true h k = free_of t x i h k
  place_of t x i false h k = h

  pub walked_of : {R : Type 0} (t : Table Node) (f : Node → Answer (Table Node) R) (r : Result Node WalkError) → AreOf t
      → ((x : Node) → r ≡ Ok x → AreOf (f x).state) → AreOf (walked t f r).state
  walked_of t f (Err e) h k = h
  walked_of t f (Ok x) h k = k x refl
