-- Paths lead alike in two namespaces if the places of the one are seen among those of the other.
use Rattle.std.proofs.Common.{◌≡◌, ℕ, zero, suc, ◌+◌, ◌≤◌, Bool, true, false, List, [], ◌∷◌, ◌++◌, length, map, Option}
use Rattle.std.proofs.Common.{Some, None, Result, Ok, Err, refl, sym, ap, ◌∙◌, nat_lt, arith}
use Rattle.std.specs.Prelude.{option_map, MatchResult, not, ◌&&◌, if◌then◌else◌}
use Rattle.std.specs.Str.{bytes_eq}
use Rattle.rom_tree.specs.Dots.{dot, dot_dot}
use Rattle.rom_tree.specs.Tree.{Node, is_link, is_directory, entries_of, levels}
use Rattle.rom_tree.specs.Image.{Image, image_node, find_entry, contents_of}
use Rattle.path_walk.specs.declared.error.WalkError.{WalkError}
use Rattle.path_walk.specs.declared.error.WalkError.TheVariants.{Enotdir, Eloop, Enametoolong}
use Rattle.path_walk.specs.declared.mount.Location.{Location}
use Rattle.path_walk.specs.Components.{is_empty, begins_with_slash, components}
use Rattle.path_walk.specs.Resolution.{Namespace, tree_namespace, Trail, Step, fails, goes, follows, ascend, parent}
use Rattle.path_walk.specs.Resolution.{root_of, to_root, enter, found, step, link_text_at, after_link, onward, resolve}
use Rattle.path_walk.specs.Resolution.{resolution}
use Rattle.path_walk.specs.Graft.{MountedNode, graft, shown, are_mounts, AreShallow}
use Rattle.path_walk.specs.Trails.{NamesAt, IsFoundWithin}
use Rattle.path_walk.specs.declared.budget.Purse.{Purse}
use Rattle.path_walk.specs.declared.budget.Purse.TheVariants.{Unlimited, Limited}
use Rattle.path_walk.specs.declared.error.WithinError.{WithinError}
use Rattle.path_walk.specs.declared.error.WithinError.TheVariants.{Path, TooManyNames}
use Rattle.path_walk.specs.Compared.{onward_compared, compared_at, compared_by, names_compared, IsRefusedBy}
use Rattle.path_walk.specs.Compared.{AreTaken, AreTakenFrom, Leaves, names_left}
use Rattle.path_walk.proofs.GraftNodes.{one_node}

module _ {F G : Type 0} (a : Namespace F) (b : Namespace G) (h : F → G) where
  abbrev pub lift : Trail F → Trail G
  lift s = record { current = h s.current; ancestors = map h s.ancestors }

  abbrev pub lift_step : Step F → Step G
  lift_step (fails e) = fails e
  lift_step (goes t) = goes (lift t)
  lift_step (follows x) = follows (h x)

  abbrev pub lift_result : Result F WalkError → Result G WalkError
  lift_result (Ok x) = Ok (h x)
  lift_result (Err e) = Err e

  ascend_lift : (x : F) (ys : List F) → ascend (h x) (map h ys) ≡ lift (ascend x ys)
  ascend_lift x [] = refl
  ascend_lift x (y ∷ ys) = refl

  root_lift : (x : F) (ys : List F) → root_of (h x) (map h ys) ≡ h (root_of x ys)
  root_lift x [] = refl
  root_lift x (y ∷ ys) = root_lift y ys

  if_step : (c : Bool) (u v : Step F) (u' v' : Step G) → u' ≡ lift_step u → v' ≡ lift_step v
      → (if c then u' else v') ≡ lift_step (if c then u else v)
  if_step true u v u' v' p q = p
  if_step false u v u' v' p q = q

  if_result : (c : Bool) (u v : Result F WalkError) (u' v' : Result G WalkError) → u' ≡ lift_result u
      → v' ≡ lift_result v → (if c then u' else v') ≡ lift_result (if c then u else v)
  if_result true u v u' v' p q = p
  if_result false u v u' v' p q = q

  if_trail : (c : Bool) (s : Trail F) → (if c then to_root (lift s) else lift s) ≡ lift (if c then to_root s else s)
  if_trail true s = ap (λ (v : G). record { current = v; ancestors = [] }) (root_lift s.current s.ancestors)
  if_trail false s = refl

  module _ (node : (x : F) → b.node (h x) ≡ a.node x) (bytes : (x : F) → b.bytes (h x) ≡ a.bytes x)
      (entry : (x : F) (n : List ℕ) → b.entry (h x) n ≡ option_map h (a.entry x n)) where
    found_lift : (st : Bool) (s : Trail F) (o : Option F)
        → found b st (lift s) (option_map h o) ≡ lift_step (found a st s o)
    found_lift st s None = refl
    found_lift st s (Some x) = ap (λ (v : Node). if is_link v && not st then follows (h x)
        else goes (enter (lift s) (h x))) (node x)
        ∙ if_step (is_link (a.node x) && not st) (follows x) (goes (enter s x)) (follows (h x))
        (goes (enter (lift s) (h x))) refl refl

    step_lift : (s : Trail F) (p : List ℕ) (st : Bool) → step b (lift s) p st ≡ lift_step (step a s p st)
    unfolding step
    step_lift s p st =
        ap (λ (v : Node). if not (is_directory v) then fails Enotdir
        else if nat_lt 255 (length p) then fails Enametoolong
        else if bytes_eq p dot then goes (lift s)
        else if bytes_eq p dot_dot then goes (parent (lift s))
        else found b st (lift s) (b.entry (h s.current) p)) (node s.current)
        ∙ if_step (not (is_directory (a.node s.current))) _ _ _ _ refl
        (if_step (nat_lt 255 (length p)) _ _ _ _ refl
        (if_step (bytes_eq p dot) _ _ _ _ refl
        (if_step (bytes_eq p dot_dot) _ _ _ _ (ap goes (ascend_lift s.current s.ancestors))
        (ap (found b st (lift s)) (entry s.current p) ∙ found_lift st s (a.entry s.current p)))))

    link_lift : (x : F) → link_text_at b (h x) ≡ link_text_at a x
    link_lift x = ap (λ (v : List ℕ). contents_of v (b.node (h x))) (bytes x) ∙ ap (contents_of (a.bytes x)) (node x)

    after_lift : (s : Trail F) (x : F) → after_link b (lift s) (h x) ≡ lift (after_link a s x)
    after_lift s x = ap (λ (v : List ℕ). if begins_with_slash v then to_root (lift s) else lift s) (link_lift x)
        ∙ if_trail (begins_with_slash (link_text_at a x)) s

    onward_lift : (go : Trail F → Result F WalkError) (go' : Trail G → Result G WalkError) (to : F → Result F WalkError)
        (to' : G → Result G WalkError) (e : Step F)
        → ((s : Trail F) → go' (lift s) ≡ lift_result (go s)) → ((x : F) → to' (h x) ≡ lift_result (to x))
        → onward go' to' (lift_step e) ≡ lift_result (onward go to e)
    onward_lift go go' to to' (fails e) f k = refl
    onward_lift go go' to to' (goes t) f k = f t
    onward_lift go go' to to' (follows x) f k = k x

    resolve_lift : (n : ℕ) (follow : Bool) (s : Trail F) (ps : List (List ℕ))
        → resolve b follow n (lift s) ps ≡ lift_result (resolve a follow n s ps)
    unfolding resolve
    resolve_lift zero follow s [] = refl
    resolve_lift (suc n) follow s [] = refl
    resolve_lift zero follow s (p ∷ rest) =
        ap (onward (λ t. resolve b follow zero t rest) (λ x. Err Eloop)) (step_lift s p (is_empty rest && not follow))
        ∙ onward_lift (λ t. resolve a follow zero t rest) (λ t. resolve b follow zero t rest) (λ x. Err Eloop)
        (λ x. Err Eloop) (step a s p (is_empty rest && not follow))
        (λ t. resolve_lift zero follow t rest) (λ x. refl)
    resolve_lift (suc n) follow s (p ∷ rest) =
        ap (onward (λ t. resolve b follow (suc n) t rest)
        (λ x. resolve b follow n (after_link b (lift s) x) (components (link_text_at b x) ++ rest)))
        (step_lift s p (is_empty rest && not follow))
        ∙ onward_lift (λ t. resolve a follow (suc n) t rest) (λ t. resolve b follow (suc n) t rest)
        (λ x. resolve a follow n (after_link a s x) (components (link_text_at a x) ++ rest))
        (λ x. resolve b follow n (after_link b (lift s) x) (components (link_text_at b x) ++ rest))
        (step a s p (is_empty rest && not follow))
        (λ t. resolve_lift (suc n) follow t rest)
        (λ x. ap (λ (v : Trail G). resolve b follow n v (components (link_text_at b (h x)) ++ rest)) (after_lift s x)
        ∙ (ap (λ (v : List ℕ). resolve b follow n (lift (after_link a s x)) (components v ++ rest)) (link_lift x)
        ∙ resolve_lift n follow (after_link a s x) (components (link_text_at a x) ++ rest)))

    pub walk_lift : b.root ≡ h a.root → (path : List ℕ) (follow : Bool)
        → resolution b path follow ≡ lift_result (resolution a path follow)
    unfolding resolution
    walk_lift r path follow =
        if_result (nat_lt 4095 (length path)) _ _ _ _ refl
        (if_result (is_empty path) _ _ _ _ refl
        (if_result (not (begins_with_slash path)) _ _ _ _ refl
        (ap (λ (v : G). resolve b follow 40 (record { current = v; ancestors = [] }) (components path)) r
        ∙ resolve_lift 40 follow (record { current = a.root; ancestors = [] }) (components path))))

    onward_compared_lift : (go : Trail F → ℕ) (go' : Trail G → ℕ) (to : F → ℕ) (to' : G → ℕ) (e : Step F)
        → ((s : Trail F) → go' (lift s) ≡ go s) → ((x : F) → to' (h x) ≡ to x)
        → onward_compared go' to' (lift_step e) ≡ onward_compared go to e
    onward_compared_lift go go' to to' (fails e) f k = refl
    onward_compared_lift go go' to to' (goes t) f k = f t
    onward_compared_lift go go' to to' (follows x) f k = k x

    -- the names with which a component is compared, and those after it
    sum_lift : (s : Trail F) (p : List ℕ) (u v : ℕ) → u ≡ v
        → compared_at (b.node (h s.current)) p + u ≡ compared_at (a.node s.current) p + v
    sum_lift s p u v e = ap (λ (x : Node). compared_at x p + u) (node s.current)
        ∙ ap (λ (n : ℕ). compared_at (a.node s.current) p + n) e

    compared_lift : (n : ℕ) (follow : Bool) (s : Trail F) (ps : List (List ℕ))
        → compared_by b follow n (lift s) ps ≡ compared_by a follow n s ps
    unfolding compared_by
    compared_lift zero follow s [] = refl
    compared_lift (suc n) follow s [] = refl
    compared_lift zero follow s (p ∷ rest) = sum_lift s p _ _
        (ap (onward_compared (λ t. compared_by b follow zero t rest) (λ x. 0))
        (step_lift s p (is_empty rest && not follow))
        ∙ onward_compared_lift (λ t. compared_by a follow zero t rest) (λ t. compared_by b follow zero t rest) (λ x. 0)
        (λ x. 0) (step a s p (is_empty rest && not follow))
        (λ t. compared_lift zero follow t rest) (λ x. refl))
    compared_lift (suc n) follow s (p ∷ rest) = sum_lift s p _ _
        (ap (onward_compared (λ t. compared_by b follow (suc n) t rest)
        (λ x. compared_by b follow n (after_link b (lift s) x) (components (link_text_at b x) ++ rest)))
        (step_lift s p (is_empty rest && not follow))
        ∙ onward_compared_lift (λ t. compared_by a follow (suc n) t rest) (λ t. compared_by b follow (suc n) t rest)
        (λ x. compared_by a follow n (after_link a s x) (components (link_text_at a x) ++ rest))
        (λ x. compared_by b follow n (after_link b (lift s) x) (components (link_text_at b x) ++ rest))
        (step a s p (is_empty rest && not follow))
        (λ t. compared_lift (suc n) follow t rest)
        (λ x. ap (λ (v : Trail G). compared_by b follow n v (components (link_text_at b (h x)) ++ rest))
        (after_lift s x)
        ∙ (ap (λ (v : List ℕ). compared_by b follow n (lift (after_link a s x)) (components v ++ rest)) (link_lift x)
        ∙ compared_lift n follow (after_link a s x) (components (link_text_at a x) ++ rest))))

    pub names_lift : b.root ≡ h a.root → (path : List ℕ) (follow : Bool)
        → names_compared b path follow ≡ names_compared a path follow
    unfolding names_compared
    names_lift r path follow =
        ap (λ (v : ℕ). if nat_lt 4095 (length path) then 0 else if is_empty path then 0
        else if not (begins_with_slash path) then 0 else v)
        (ap (λ (v : G). compared_by b follow 40 (record { current = v; ancestors = [] }) (components path)) r
        ∙ compared_lift 40 follow (record { current = a.root; ancestors = [] }) (components path))

  pub ok_by : (r : Result F WalkError) (y : G) → lift_result r ≡ Ok y → (x : F) × (r ≡ Ok x) × (h x ≡ y)
  ok_by (Ok x) y e = (x, refl, cc)
  ok_by (Err e') y e = absurd (cc)

  pub err_by : (r : Result F WalkError) (e : WalkError) → lift_result r ≡ Err e → r ≡ Err e
  err_by (Ok x) e k = absurd (cc)
  err_by (Err e') e k = cc

-- the graft of one image is its tree
abbrev pub alone : Node → MountedNode
alone x = record { image = 0; node = x }

shown_alone : (m : Image) (o : Option Node) → option_map (λ x. shown (m ∷ []) [] (alone x)) o ≡ option_map alone o
unfolding shown
shown_alone m None = refl
shown_alone m (Some x) = refl

pub walk_alone : (m : Image) (path : List ℕ) (follow : Bool)
    → resolution (graft (m ∷ []) []) path follow
    ≡ lift_result (tree_namespace m.bytes m.tree) (graft (m ∷ []) []) alone
    (resolution (tree_namespace m.bytes m.tree) path follow)
walk_alone m path follow = walk_lift (tree_namespace m.bytes m.tree) (graft (m ∷ []) []) alone (λ x. refl) (λ x. refl)
    (λ x n. shown_alone m (find_entry (entries_of x) n)) refl path follow

pub no_mounts : (ms : List Image) → are_mounts ms [] ≡ true
unfolding are_mounts
no_mounts ms = refl

pub one_shallow : (m : Image) → levels m.tree ≤ 65 → AreShallow (m ∷ [])
one_shallow m l zero = l
one_shallow m l (suc i) = omega arith

-- the place to which a path leads in one image
pub one_ok : (m : Image) (p : Location) (s : MountedNode) (path : List ℕ) (follow : Bool)
    → resolution (graft (m ∷ []) []) path follow ≡ Ok s → NamesAt (m ∷ []) p s
    → (x : Node) × (resolution (tree_namespace m.bytes m.tree) path follow ≡ Ok x) × (image_node m p.node.0 ≡ Some x)
one_ok m p s path follow e i =
    let r = ok_by (tree_namespace m.bytes m.tree) (graft (m ∷ []) []) alone
    (resolution (tree_namespace m.bytes m.tree) path follow) s (sym (walk_alone m path follow) ∙ e) in
    (r.0, r.1, one_node m p.image p.node.0 s.node i.node ∙ ap (λ (v : MountedNode). Some v.node) (sym r.2))

pub one_err : (m : Image) (e : WalkError) (path : List ℕ) (follow : Bool)
    → resolution (graft (m ∷ []) []) path follow ≡ Err e
    → resolution (tree_namespace m.bytes m.tree) path follow ≡ Err e
one_err m e path follow k = err_by (tree_namespace m.bytes m.tree) (graft (m ∷ []) []) alone
    (resolution (tree_namespace m.bytes m.tree) path follow) e (sym (walk_alone m path follow) ∙ k)

names_alone : (m : Image) (path : List ℕ) (follow : Bool)
    → names_compared (graft (m ∷ []) []) path follow ≡ names_compared (tree_namespace m.bytes m.tree) path follow
names_alone m path follow = names_lift (tree_namespace m.bytes m.tree) (graft (m ∷ []) []) alone (λ x. refl) (λ x. refl)
    (λ x n. shown_alone m (find_entry (entries_of x) n)) refl path follow

-- the same of a walk with a budget
pub refused_alone : (m : Image) (old new : Purse) (e : WithinError) (path : List ℕ) (follow : Bool)
    → IsFoundWithin (m ∷ []) [] path follow old new (Err e)
    → IsRefusedBy (resolution (tree_namespace m.bytes m.tree) path follow) e
refused_alone m old new (Path e) path follow k = one_err m e path follow k.0
refused_alone m old new TooManyNames path follow k = tt

-- and what is left of a budget that was put into a purse
left_of : (b l n k : ℕ) (p : Purse) → l ≡ names_left p → n ≡ k → AreTakenFrom (Limited b) p n → AreTaken b l k
left_of b l n k Unlimited q w t = absurd (cc)
left_of b l n k (Limited v) q w t =
    let e : v + n ≡ b = ap names_left t in omega (arith, e, q, w)

pub left_alone : (m : Image) (b l : ℕ) (p : Purse) (path : List ℕ) (follow : Bool) (r : Result Location WithinError)
    → l ≡ names_left p → IsFoundWithin (m ∷ []) [] path follow (Limited b) p r
    → MatchResult r (λ v. AreTaken b l (names_compared (tree_namespace m.bytes m.tree) path follow))
    (Leaves b l (names_compared (tree_namespace m.bytes m.tree) path follow))
left_alone m b l p path follow (Ok v) q k = left_of b l _ _ p q (names_alone m path follow) k.1
left_alone m b l p path follow (Err (Path e)) q k = left_of b l _ _ p q (names_alone m path follow) k.1
left_alone m b l p path follow (Err TooManyNames) q k =
    let e : b ≡ k.0 = ap names_left k.1 in
    (q ∙ ap names_left k.2, omega (arith, e, names_alone m path follow, k.3))
