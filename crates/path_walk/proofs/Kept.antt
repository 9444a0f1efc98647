-- What holds of the root, and of each place that an entry leads to, holds of the place to which a path leads.
use Rattle.std.proofs.Common.{◌≡◌, ℕ, zero, suc, Bool, true, false, List, [], ◌∷◌, ◌++◌, length, Option, Some, None}
use Rattle.std.proofs.Common.{Result, Ok, Err, refl, sym, ap, ◌∙◌, subst, nat_lt, ◌==◌}
use Rattle.std.proofs.lemmas.Bool.{false≢true, eqb-true}
use Rattle.std.specs.Prelude.{option_map, not, ◌&&◌, if◌then◌else◌, find}
use Rattle.std.specs.Str.{bytes_eq}
use Rattle.rom_tree.specs.Dots.{dot, dot_dot}
use Rattle.rom_tree.specs.Tree.{Node, is_link, is_directory, ino_of, entries_of}
use Rattle.rom_tree.specs.Image.{Image, find_entry}
use Rattle.path_walk.specs.declared.error.WalkError.{WalkError}
use Rattle.path_walk.specs.declared.error.WalkError.TheVariants.{Eloop}
use Rattle.path_walk.specs.declared.mount.Mount.{Mount}
use Rattle.path_walk.specs.declared.mount.Location.{Location}
use Rattle.path_walk.specs.Components.{is_empty, begins_with_slash, components}
use Rattle.path_walk.specs.Resolution.{Namespace, Trail, Step, fails, goes, follows, ascend, root_of, to_root, enter}
use Rattle.path_walk.specs.Resolution.{found, step, link_text_at, after_link, onward, resolve, resolution}
use Rattle.path_walk.specs.Graft.{MountedNode, graft, over, shown, covers, tree_in, are_mounts, IsUncovered}
use Rattle.path_walk.specs.Trails.{NamesAt}
use Rattle.path_walk.proofs.GraftNodes.{none_some}
use Rattle.path_walk.proofs.Mounts.{find_member, good_mount, and_left, and_right}
use Rattle.path_walk.proofs.Trails.{same_cover}

module _ {F : Type 0} (g : Namespace F) (P : F → Type 0)
    (closed : (x : F) (name : List ℕ) (y : F) → g.entry x name ≡ Some y → P y) where
  AllOf : List F → Type 0
  AllOf [] = Unit {0}
  AllOf (x ∷ xs) = P x × AllOf xs

  IsKept : Trail F → Type 0
  IsKept s = P s.current × AllOf s.ancestors

  StepKeeps : Step F → Type 0
  StepKeeps (fails e) = Unit {0}
  StepKeeps (goes t) = IsKept t
  StepKeeps (follows x) = Unit {0}

  ResultKeeps : Result F WalkError → Type 0
  ResultKeeps (Err e) = Unit {0}
  ResultKeeps (Ok x) = P x

  if_step : (c : Bool) (u v : Step F) → StepKeeps u → StepKeeps v → StepKeeps (if c then u else v)
  if_step true u v p q = p
  if_step false u v p q = q

  if_result : (c : Bool) (u v : Result F WalkError) → ResultKeeps u → ResultKeeps v → ResultKeeps (if c then u else v)
  if_result true u v p q = p
  if_result false u v p q = q

  ascend_kept : (x : F) (ys : List F) → P x → AllOf ys → IsKept (ascend x ys)
  unfolding IsKept AllOf
  ascend_kept x [] p a = (p, tt)
  ascend_kept x (y ∷ ys) p a = a

  root_kept : (x : F) (ys : List F) → P x → AllOf ys → P (root_of x ys)
  unfolding AllOf
  root_kept x [] p a = p
  root_kept x (y ∷ ys) p a = root_kept y ys a.0 a.1

  link_kept : (c : Bool) (s : Trail F) → IsKept s → IsKept (if c then to_root s else s)
  unfolding IsKept AllOf
  link_kept true s k = (root_kept s.current s.ancestors k.0 k.1, tt)
  link_kept false s k = k

  found_kept : (st : Bool) (s : Trail F) (o : Option F) → IsKept s → ((y : F) → o ≡ Some y → P y)
      → StepKeeps (found g st s o)
  unfolding StepKeeps IsKept AllOf
  found_kept st s None k c = tt
  found_kept st s (Some x) k c = if_step (is_link (g.node x) && not st) (follows x) (goes (enter s x)) tt (c x refl, k)

  step_kept : (s : Trail F) (p : List ℕ) (st : Bool) → IsKept s → StepKeeps (step g s p st)
  unfolding step StepKeeps IsKept
  step_kept s p st k =
      if_step (not (is_directory (g.node s.current))) _ _ tt
      (if_step (nat_lt 255 (length p)) _ _ tt
      (if_step (bytes_eq p dot) _ _ k
      (if_step (bytes_eq p dot_dot) _ _ (ascend_kept s.current s.ancestors k.0 k.1)
      (found_kept st s (g.entry s.current p) k (λ y e. closed s.current p y e)))))

  onward_kept : (go : Trail F → Result F WalkError) (to : F → Result F WalkError) (e : Step F) → StepKeeps e
      → ((s : Trail F) → IsKept s → ResultKeeps (go s)) → ((x : F) → ResultKeeps (to x)) → ResultKeeps (onward go to e)
  unfolding StepKeeps ResultKeeps
  onward_kept go to (fails e) k f h = tt
  onward_kept go to (goes t) k f h = f t k
  onward_kept go to (follows x) k f h = h x

  resolve_kept : (n : ℕ) (follow : Bool) (s : Trail F) (ps : List (List ℕ)) → IsKept s
      → ResultKeeps (resolve g follow n s ps)
  unfolding resolve ResultKeeps IsKept
  resolve_kept zero follow s [] k = k.0
  resolve_kept (suc n) follow s [] k = k.0
  resolve_kept zero follow s (p ∷ rest) k =
      onward_kept (λ t. resolve g follow zero t rest) (λ x. Err Eloop) (step g s p (is_empty rest && not follow))
      (step_kept s p (is_empty rest && not follow) k)
      (λ t c. resolve_kept zero follow t rest c) (λ x. tt)
  resolve_kept (suc n) follow s (p ∷ rest) k =
      onward_kept (λ t. resolve g follow (suc n) t rest)
      (λ x. resolve g follow n (after_link g s x) (components (link_text_at g x) ++ rest))
      (step g s p (is_empty rest && not follow)) (step_kept s p (is_empty rest && not follow) k)
      (λ t c. resolve_kept (suc n) follow t rest c)
      (λ x. resolve_kept n follow (after_link g s x) (components (link_text_at g x) ++ rest)
      (link_kept (begins_with_slash (link_text_at g x)) s k))

  walk_keeps : P g.root → (path : List ℕ) (follow : Bool) → ResultKeeps (resolution g path follow)
  unfolding resolution ResultKeeps IsKept AllOf
  walk_keeps r path follow =
      if_result (nat_lt 4095 (length path)) _ _ tt
      (if_result (is_empty path) _ _ tt
      (if_result (not (begins_with_slash path)) _ _ tt
      (resolve_kept 40 follow (record { current = g.root; ancestors = [] }) (components path) (r, tt))))

  pub walk_kept : P g.root → (path : List ℕ) (follow : Bool) (x : F) → resolution g path follow ≡ Ok x → P x
  unfolding ResultKeeps
  walk_kept r path follow x e = subst ResultKeeps e (walk_keeps r path follow)

-- no mount covers the root of an image
root_uncovered : (ms : List Image) (us : List Mount) (i : ℕ) (o : Option Mount) → are_mounts ms us ≡ true
    → find (covers i (ino_of (tree_in ms i))) us ≡ o → o ≡ None
root_uncovered ms us i None h e = refl
root_uncovered ms us i (Some u) h e =
    let n : ℕ = ino_of (tree_in ms i) in
    let r = find_member (covers i n) us u e in
    let on : u.on ≡ i = eqb-true u.on i (and_left (u.on == i) (u.dir.0 == n) r.1) in
    let dir : (u.dir.0 == n) ≡ true = and_right (u.on == i) (u.dir.0 == n) r.1 in
    let not_dir : (u.dir.0 == ino_of (tree_in ms u.on)) ≡ false = (good_mount ms us u h r.0).below_root in
    absurd (false≢true (sym not_dir ∙ (ap (λ (v : ℕ). u.dir.0 == ino_of (tree_in ms v)) on ∙ dir)))

module _ (ms : List Image) (us : List Mount) (h : are_mounts ms us ≡ true) where
  IsOpenNode : MountedNode → Type 0
  IsOpenNode s = IsUncovered us s.image (ino_of s.node)

  over_open : (s : MountedNode) (o : Option Mount) → find (covers s.image (ino_of s.node)) us ≡ o
      → IsOpenNode (over ms s o)
  unfolding IsOpenNode
  over_open s None e = e
  over_open s (Some u) e = root_uncovered ms us u.image (find (covers u.image (ino_of (tree_in ms u.image))) us) h refl

  entry_open : (i : ℕ) (o : Option Node) (y : MountedNode)
      → option_map (λ x. shown ms us (record { image = i; node = x })) o ≡ Some y → IsOpenNode y
  unfolding shown
  entry_open i None y e = absurd (none_some y e)
  entry_open i (Some x) y e =
      let s : MountedNode = record { image = i; node = x } in
      let q : over ms s (find (covers s.image (ino_of s.node)) us) ≡ y = cc in
      subst IsOpenNode q (over_open s (find (covers s.image (ino_of s.node)) us) refl)

  -- a path leads to no directory that a mount covers
  pub walk_uncovered : (path : List ℕ) (follow : Bool) (p : Location) (s : MountedNode)
      → resolution (graft ms us) path follow ≡ Ok s → NamesAt ms p s → IsUncovered us p.image p.node.0
  unfolding IsOpenNode
  walk_uncovered path follow p s e n =
      let root : IsOpenNode (graft ms us).root =
      root_uncovered ms us 0 (find (covers 0 (ino_of (tree_in ms 0))) us) h refl in
      let k : IsOpenNode s = walk_kept (graft ms us) IsOpenNode
      (λ x name y f. entry_open x.image (find_entry (entries_of x.node) name) y f) root path follow s e in
      sym (same_cover ms us p s n) ∙ k
