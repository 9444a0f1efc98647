-- Facts on one component of a path.
use Rattle.std.proofs.Common.{◌≡◌, ℕ, suc, ◌*◌, ◌<◌, ◌≤◌, Bool, true, false, List, [], ◌∷◌, ◌++◌, length, Option, Some}
use Rattle.std.proofs.Common.{None, refl, sym, ap, ◌∙◌, subst, rules, arith, length-append, append-nil, tests, ◌==◌}
use Rattle.std.proofs.Common.{nat_lt}
use Rattle.std.proofs.lemmas.Bool.{false≢true, eqb-true}
use Rattle.std.specs.Prelude.{IsSome, unwrap_or, option_to_list, not, ◌&&◌, if◌then◌else◌, find, option_map}
use Rattle.std.specs.Str.{bytes_eq}
use Rattle.rom_tree.specs.Tree.{Node, ino_of, is_directory, is_link, levels, entries_of}
use Rattle.rom_tree.specs.Image.{Image, find_entry}
use Rattle.rom_tree.proofs.Nodes.{levels_directory}
use Rattle.rom_tree.proofs.Named.{named_levels}
use Rattle.rom_tree.specs.Dots.{dot, dot_dot}
use Rattle.path_walk.specs.declared.error.WalkError.TheVariants.{Enoent, Enotdir, Enametoolong}
use Rattle.path_walk.specs.declared.mount.Mount.{Mount}
use Rattle.path_walk.specs.declared.mount.Location.{Location}
use Rattle.path_walk.specs.Resolution.{Namespace, Trail, fails, goes, follows, step, found, parent, ascend, enter}
use Rattle.path_walk.specs.Resolution.{root_of, to_root}
use Rattle.path_walk.specs.Graft.{MountedNode, tree_in, node_in, graft, covers, over, shown, are_mounts, AreShallow}
use Rattle.path_walk.specs.Graft.{is_directory_node}
use Rattle.path_walk.specs.Trails.{NamesAt, IsMember, IsLed, origin, onto, IsFitting, AreFitting, AreAncestors, IsTrail}
use Rattle.path_walk.proofs.GraftNodes.{node_below, node_in-number, node_in-root, node_in-named}
use Rattle.path_walk.proofs.Mounts.{find_member, good_mount, IsGoodMount, led_few, and_left, and_right}

-- the tests of one component, in their order
module _ {F : Type 0} (g : Namespace F) (s : Trail F) (p : List ℕ) (b : Bool) where
  pub step-file : false ≡ is_directory (g.node s.current) → step g s p b ≡ fails Enotdir
  unfolding step
  step-file h = rw (← h)

  pub step-long : true ≡ is_directory (g.node s.current) → nat_lt 255 (length p) ≡ true
      → step g s p b ≡ fails Enametoolong
  unfolding step
  step-long h l = rw (← h, l)

  pub step-dot : true ≡ is_directory (g.node s.current) → nat_lt 255 (length p) ≡ false → bytes_eq p dot ≡ true
      → step g s p b ≡ goes s
  unfolding step
  step-dot h l d = rw (← h, l, d)

  pub step-dot_dot : true ≡ is_directory (g.node s.current) → nat_lt 255 (length p) ≡ false → bytes_eq p dot ≡ false
      → bytes_eq p dot_dot ≡ true → step g s p b ≡ goes (parent s)
  unfolding step
  step-dot_dot h l d e = rw (← h, l, d, e)

  pub step-named : true ≡ is_directory (g.node s.current) → nat_lt 255 (length p) ≡ false → bytes_eq p dot ≡ false
      → bytes_eq p dot_dot ≡ false → step g s p b ≡ found g b s (g.entry s.current p)
  unfolding step
  step-named h l d e = rw (← h, l, d, e)

module _ {F : Type 0} (g : Namespace F) (b : Bool) (s : Trail F) (o : Option F) where
  pub found-none : o ≡ None → found g b s o ≡ fails Enoent
  found-none e = ap (found g b s) e

  pub found-link : (x : F) → o ≡ Some x → true ≡ is_link (g.node x) → b ≡ false → found g b s o ≡ follows x
  found-link x e l n = ap (found g b s) e ∙ rw (← l, n)

  pub found-file : (x : F) → o ≡ Some x → false ≡ is_link (g.node x) → found g b s o ≡ goes (enter s x)
  found-file x e l = ap (found g b s) e ∙ rw (← l)

stays_last : {F : Type 0} (s : Trail F) (x : F) (b l : Bool) → b ≡ true
    → (if l && not b then follows x else goes (enter s x)) ≡ goes (enter s x)
stays_last s x b true n = rw n
stays_last s x b false n = refl

pub found-last : {F : Type 0} (g : Namespace F) (b : Bool) (s : Trail F) (o : Option F) (x : F) → o ≡ Some x → b ≡ true
    → found g b s o ≡ goes (enter s x)
found-last g b s o x e n = ap (found g b s) e ∙ stays_last s x b (is_link (g.node x)) n

-- two lists with a last element each
pub snoc_same : {A : Type 0} (xs ys : List A) (a b : A) → xs ++ a ∷ [] ≡ ys ++ b ∷ [] → (xs ≡ ys) × (a ≡ b)
snoc_same [] [] a b h = (refl, cc)
snoc_same [] (y ∷ ys) a b h = absurd (omega (arith, ap length h, length-append ys (b ∷ [])))
snoc_same (x ∷ xs) [] a b h = absurd (omega (arith, ap length h, length-append xs (a ∷ [])))
snoc_same (x ∷ xs) (y ∷ ys) a b h =
    let p : xs ++ a ∷ [] ≡ ys ++ b ∷ [] = cc in
    let r = snoc_same xs ys a b p in
    let q : x ≡ y = cc in
    let t : xs ≡ ys = r.0 in
    (cc, r.1)

snoc_some : {A : Type 0} (xs : List A) (a : A) → [] ≡ xs ++ a ∷ [] → ⊥
snoc_some xs a h = omega (arith, ap length h, length-append xs (a ∷ []))

pub nil_none : {A : Type 0} (xs : List A) → (0 < length xs → false ≡ true) → xs ≡ []
nil_none [] h = refl
nil_none (x ∷ xs) h = absurd (false≢true (h (omega arith)))

pub lt_true : (a b : ℕ) → a < b → nat_lt a b ≡ true
lt_true a b h = search (rules, tests)

pub lt_false : (a b : ℕ) → b ≤ a → nat_lt a b ≡ false
lt_false a b h = search (rules, tests)

ancestors_length : (ms : List Image) (ps : List Location) (ss : List MountedNode) → AreAncestors ms ps ss
    → length ps ≡ length ss
ancestors_length ms ps [] h = ap length h
ancestors_length ms ps (s ∷ ss) h =
    let k = ancestors_length ms h.0 ss h.4 in omega (arith, k, ap length h.2, length-append h.0 (h.1 ∷ []))

fit_current : (us : List Mount) (s : MountedNode) (ss : List MountedNode) → AreFitting us s ss
    → IsFitting us s (length ss)
fit_current us s [] h = h
fit_current us s (t ∷ ts) h = h.0

-- a mount that covers a directory
record IsCovered (ms : List Image) (us : List Mount) (s : MountedNode) (u : Mount) : Type 0 where
  member : IsMember u us
  on : u.on ≡ s.image
  directory : is_directory s.node ≡ true
  below : u.image < length ms

covered : (ms : List Image) (us : List Mount) (i n : ℕ) (s : MountedNode) (u : Mount) → are_mounts ms us ≡ true
    → node_in ms s.image n ≡ Some s.node → find (covers s.image (ino_of s.node)) us ≡ Some u → IsCovered ms us s u
covered ms us i n s u h e f =
    let r = find_member (covers s.image (ino_of s.node)) us u f in
    let g : IsGoodMount ms u = good_mount ms us u h r.0 in
    let on : u.on ≡ s.image = eqb-true u.on s.image (and_left (u.on == s.image) (u.dir.0 == ino_of s.node) r.1) in
    let dir : u.dir.0 ≡ ino_of s.node =
    eqb-true u.dir.0 (ino_of s.node) (and_right (u.on == s.image) (u.dir.0 == ino_of s.node) r.1) in
    let num : ino_of s.node ≡ n = node_in-number ms s.image n s.node e in
    let there : node_in ms u.on u.dir.0 ≡ Some s.node =
    ap (λ (v : ℕ). node_in ms v u.dir.0) on ∙ (ap (node_in ms s.image) (dir ∙ num) ∙ e) in
    record { member = r.0; on = on; directory = sym (ap is_directory_node there) ∙ g.directory; below = g.image }

-- what is at a node is a node of its image
over_named : (ms : List Image) (us : List Mount) (p q : Location) (s : MountedNode) (o : Option Mount)
    → are_mounts ms us ≡ true → NamesAt ms p s → find (covers s.image (ino_of s.node)) us ≡ o
    → (o ≡ None → q ≡ p) → ((u : Mount) → o ≡ Some u
    → (q.image ≡ u.image) × (u.image < length ms → q.node.0 ≡ ino_of (tree_in ms u.image)))
    → NamesAt ms q (over ms s o)
over_named ms us p q s None h i f a b = let P : Location → Type 0 = λ v. NamesAt ms v s in subst P (sym (a refl)) i
over_named ms us p q s (Some u) h i f a b =
    let e : node_in ms s.image p.node.0 ≡ Some s.node = ap (λ (v : ℕ). node_in ms v p.node.0) (sym i.image) ∙ i.node in
    let c : IsCovered ms us s u = covered ms us s.image p.node.0 s u h e f in
    let r = b u refl in
    record {
      image = r.0;
      node = ap (λ (v : ℕ). node_in ms v q.node.0) r.0 ∙ node_in-root ms u.image q.node.0 c.below (r.1 c.below);
    }

pub shown_named : (ms : List Image) (us : List Mount) (p q : Location) (s : MountedNode) → are_mounts ms us ≡ true
    → NamesAt ms p s
    → (find (covers s.image (ino_of s.node)) us ≡ None → q ≡ p)
    → ((u : Mount) → find (covers s.image (ino_of s.node)) us ≡ Some u
    → (q.image ≡ u.image) × (u.image < length ms → q.node.0 ≡ ino_of (tree_in ms u.image)))
    → NamesAt ms q (shown ms us s)
unfolding shown
shown_named ms us p q s h i a b = over_named ms us p q s (find (covers s.image (ino_of s.node)) us) h i refl a b

-- the mounts of a place and of the node that it names
pub same_cover : (ms : List Image) (us : List Mount) (p : Location) (s : MountedNode) → NamesAt ms p s
    → find (covers s.image (ino_of s.node)) us ≡ find (covers p.image p.node.0) us
same_cover ms us p s i = ap (λ (v : ℕ). find (covers v (ino_of s.node)) us) (sym i.image)
    ∙ ap (λ (v : ℕ). find (covers p.image v) us) (node_in-number ms p.image p.node.0 s.node i.node)

-- room below what is at a node
over_fits : (ms : List Image) (us : List Mount) (s t : MountedNode) (p : Location) (n : ℕ) (o : Option Mount)
    → are_mounts ms us ≡ true → AreShallow ms
    → IsFitting us s n → t.image ≡ s.image → suc (levels t.node) ≤ levels s.node → NamesAt ms p t
    → find (covers t.image (ino_of t.node)) us ≡ o → IsFitting us (over ms t o) (suc n)
over_fits ms us s t p n None h sh f i l sp e =
    let r = f.room in
    let P : ℕ → Type 0 = λ v. IsLed us f.deep v in
    record { deep = f.deep; led = subst P (sym i) f.led; room = omega (arith, r, l) }
over_fits ms us s t p n (Some u) h sh f i l sp e =
    let r = f.room in
    let c : IsCovered ms us t u =
    covered ms us t.image p.node.0 t u h (ap (λ (v : ℕ). node_in ms v p.node.0) (sym sp.image) ∙ sp.node) e in
    let P : ℕ → Type 0 = λ v. IsLed us f.deep v in
    let led : IsLed us (suc f.deep) u.image = onto u c.member (subst P (sym (c.on ∙ i)) f.led) in
    let d = levels_directory t.node c.directory in
    let k = sh u.image in
    record { deep = suc f.deep; led = led; room = omega (arith, r, l, d, k) }

-- the entry of a name
pub entry_some : (ms : List Image) (us : List Mount) (s : MountedNode) (x : Node) (name : List ℕ)
    → find_entry (entries_of s.node) name ≡ Some x
    → (graft ms us).entry s name ≡ Some (shown ms us (record { image = s.image; node = x }))
entry_some ms us s x name e = ap (option_map (λ (y : Node). shown ms us (record { image = s.image; node = y }))) e

pub entry_none : (ms : List Image) (us : List Mount) (s : MountedNode) (name : List ℕ)
    → find_entry (entries_of s.node) name ≡ None → (graft ms us).entry s name ≡ None
entry_none ms us s name e = ap (option_map (λ (y : Node). shown ms us (record { image = s.image; node = y }))) e

-- the entry's node is one of the same image
pub entry_named : (ms : List Image) (p : Location) (s : MountedNode) (x : Node) (n : ℕ) (name : List ℕ) → NamesAt ms p s
    → find_entry (entries_of s.node) name ≡ Some x → ino_of x ≡ n
    → NamesAt ms (record { image = p.image; node = record { 0 = n } }) (record { image = s.image; node = x })
entry_named ms p s x n name i f e = record {
  image = i.image;
  node = ap (node_in ms p.image) (sym e)
      ∙ node_in-named ms p.image p.node.0 s.node x name i.node f;
}

module _ (ms : List Image) (us : List Mount) where
  -- there is room for one more ancestor above an entry
  pub trail_room : (current : Location) (ancestors : List Location) (s : Trail MountedNode) (x : Node) (name : List ℕ)
      (places : ℕ) → are_mounts ms us ≡ true → 64 * length ms < places
      → IsTrail ms us current ancestors s → find_entry (entries_of s.current.node) name ≡ Some x
      → length ancestors < places
  trail_room current ancestors s x name places h w i e =
      let f = fit_current us s.current s.ancestors i.fit in
      let z = node_below ms current.image current.node.0 s.current.node i.named.node in
      let few = led_few ms us h f.deep s.current.image (omega (arith, z)) f.led in
      let l = named_levels s.current.node x name e in
      let r = f.room in
      let k = ancestors_length ms ancestors s.ancestors i.all_named in
      omega (arith, l, r, few, w, k)

  enter_fits : (s : MountedNode) (ss : List MountedNode) (t : MountedNode) → AreFitting us s ss
      → IsFitting us t (suc (length ss)) → AreFitting us t (s ∷ ss)
  enter_fits s ss t h f = (f, h)

  pub enter_trail : (current q : Location) (ancestors ancestors' : List Location) (s : Trail MountedNode) (x : Node)
      (p : Location) (name : List ℕ) → are_mounts ms us ≡ true → AreShallow ms
      → IsTrail ms us current ancestors s → find_entry (entries_of s.current.node) name ≡ Some x
      → NamesAt ms p (record { image = s.current.image; node = x })
      → NamesAt ms q (shown ms us (record { image = s.current.image; node = x }))
      → ancestors' ≡ ancestors ++ current ∷ []
      → IsTrail ms us q ancestors' (enter s (shown ms us (record { image = s.current.image; node = x })))
  unfolding shown
  enter_trail current q ancestors ancestors' s x p name h sh i e sp sq k =
      let t : MountedNode = record { image = s.current.image; node = x } in
      let f = over_fits ms us s.current t p (length s.ancestors) (find (covers t.image (ino_of t.node)) us) h
      sh (fit_current us s.current s.ancestors i.fit) refl
      (named_levels s.current.node x name e) sp refl in
      record {
        named = sq;
        all_named = (ancestors, current, k, i.named, i.all_named);
        fit = (f, i.fit);
        root = i.root;
      }

  ascend_trail : (ancestors fs : List Location) (f : Location) (x : MountedNode) (ys : List MountedNode)
      → AreAncestors ms ancestors ys → AreFitting us x ys → root_of x ys ≡ (graft ms us).root → ancestors ≡ fs ++ f ∷ []
      → IsTrail ms us f fs (ascend x ys)
  ascend_trail ancestors fs f x [] a t r e = absurd (snoc_some fs f (sym a ∙ e))
  ascend_trail ancestors fs f x (y ∷ ys) a t r e =
      let q = snoc_same a.0 fs a.1 f (sym a.2 ∙ e) in
      let P : Location → Type 0 = λ v. NamesAt ms v y in
      let Q : List Location → Type 0 = λ v. AreAncestors ms v ys in
      record { named = subst P q.1 a.3; all_named = subst Q q.0 a.4; fit = t.1; root = r }

  pub parent_trail : (current : Location) (ancestors fs : List Location) (f : Location) (s : Trail MountedNode)
      → IsTrail ms us current ancestors s → ancestors ≡ fs ++ f ∷ [] → IsTrail ms us f fs (parent s)
  parent_trail current ancestors fs f s i e =
      ascend_trail ancestors fs f s.current s.ancestors i.all_named i.fit i.root e

  top_trail : (current : Location) (ancestors fs : List Location) (x : MountedNode) (ys : List MountedNode)
      → NamesAt ms current x → AreAncestors ms ancestors ys → AreFitting us x ys → root_of x ys ≡ (graft ms us).root
      → ancestors ≡ [] → fs ≡ [] → IsTrail ms us current fs (ascend x ys)
  top_trail current ancestors fs x [] n a t r e z = record { named = n; all_named = z; fit = t; root = r }
  top_trail current ancestors fs x (y ∷ ys) n a t r e z = absurd (snoc_some a.0 a.1 (sym e ∙ a.2))

  pub top_parent : (current : Location) (ancestors fs : List Location) (s : Trail MountedNode)
      → IsTrail ms us current ancestors s → ancestors ≡ [] → fs ≡ [] → IsTrail ms us current fs (parent s)
  top_parent current ancestors fs s i e z =
      top_trail current ancestors fs s.current s.ancestors i.named i.all_named i.fit i.root e z

  -- dot-dot, where `o` was taken from the stack
  pub dot_dot_trail : (current : Location) (ancestors fs : List Location) (o : Option Location) (s : Trail MountedNode)
      → IsTrail ms us current ancestors s → ancestors ≡ fs ++ option_to_list o
      → (0 < length ancestors → IsSome o) → IsTrail ms us (unwrap_or o current) fs (parent s)
  dot_dot_trail current ancestors fs (Some f) s i e v = parent_trail current ancestors fs f s i e
  dot_dot_trail current ancestors fs None s i e v =
      let z : ancestors ≡ [] = nil_none ancestors v in
      top_parent current ancestors fs s i z (sym (append-nil fs) ∙ (sym e ∙ z))

  root_fits : (s : MountedNode) → AreShallow ms → s ≡ (graft ms us).root → IsFitting us s 0
  root_fits s sh e = let P : MountedNode → Type 0 =
      λ v. IsFitting us v 0 in subst P (sym e)
      (record { deep = 0; led = origin; room = (let k = sh 0 in omega (arith, k)) })

  pub root_trail : (root current : Location) (ancestors fs : List Location) (s : Trail MountedNode)
      → IsTrail ms us current ancestors s → AreShallow ms → NamesAt ms root (graft ms us).root → fs ≡ []
      → IsTrail ms us root fs (to_root s)
  root_trail root current ancestors fs s i sh r z = let P : MountedNode → Type 0 = λ v. NamesAt ms root v in record {
    named = subst P (sym i.root) r;
    all_named = z;
    fit = root_fits (root_of s.current s.ancestors) sh i.root;
    root = i.root;
  }

  pub root_named : (root : Location) → 0 < length ms → root.image ≡ 0 → root.node.0 ≡ ino_of (tree_in ms 0)
      → NamesAt ms root (graft ms us).root
  root_named root z e n =
      record { image = e; node = ap (λ (v : ℕ). node_in ms v root.node.0) e ∙ node_in-root ms 0 root.node.0 z n }

  pub first_trail : (root : Location) (fs : List Location) → AreShallow ms → NamesAt ms root (graft ms us).root
      → fs ≡ [] → IsTrail ms us root fs (record { current = (graft ms us).root; ancestors = [] })
  first_trail root fs sh r z =
      record { named = r; all_named = z; fit = root_fits (graft ms us).root sh refl; root = refl }
