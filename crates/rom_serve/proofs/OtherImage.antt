-- Several images of which one, that is not mounted, is another.
use Rattle.std.proofs.Common.{◌≡◌, ℕ, zero, suc, ◌<◌, ◌==◌, Bool, true, false, cond, List, [], ◌∷◌, ◌++◌, Option, Some}
use Rattle.std.proofs.Common.{None, Result, Ok, Err, refl, ap, ◌∙◌, subst, arith, length, nat_lt}
use Rattle.std.specs.Prelude.{slice_set, option_map, find, ◌||◌, not}
use Rattle.std.proofs.lemmas.Bool.{true≢false}
use Rattle.std.proofs.lemmas.Bool.Decides.{nat_tests}
use Rattle.std.proofs.lemmas.List.{length-set}
use Rattle.rom_tree.specs.Tree.{Node, ino_of, is_directory, entries_of}
use Rattle.rom_tree.specs.Image.{Image, find_entry}
use Rattle.path_walk.specs.declared.error.WalkError.{WalkError}
use Rattle.path_walk.specs.declared.mount.Mount.{Mount}
use Rattle.path_walk.specs.Resolution.{resolution}
use Rattle.path_walk.specs.Graft.{MountedNode, tree_in, bytes_in, covers, over, shown, graft}
use Rattle.open_files.specs.Calls.{Answer, refuse, give}
use Rattle.open_files.specs.Sessions.{is_mounted, has_mount, without, mount_over, mount_at_place, mounting, unmounting}
use Rattle.open_files.specs.declared.error.CallError.TheVariants.{Einval, Enodev, Ebusy}
use Rattle.rom_serve.proofs.SameWalk.{walk_same, walk_fine}

pub neither : (a b : Bool) → (a || b) ≡ false → (a ≡ false) × (b ≡ false)
neither true b h = absurd (true≢false h)
neither false b h = (refl, h)

-- what holds of both holds of the one that is taken
pub of_both : {A : Type 0} (P : A → Type 0) (t : Bool) (x y : A) → P x → P y → P (cond t x y)
of_both P true x y h k = h
of_both P false x y h k = k

before : (i j : ℕ) → (suc j == suc i) ≡ false → (j == i) ≡ false
before i j h = grind (arith, nat_tests)

tree_other : (ms : List Image) (i j : ℕ) (m : Image) → (j == i) ≡ false → tree_in (slice_set ms i m) j ≡ tree_in ms j
tree_other [] i j m h = refl
tree_other (x ∷ ms) zero zero m h = absurd (true≢false h)
tree_other (x ∷ ms) zero (suc j) m h = refl
tree_other (x ∷ ms) (suc i) zero m h = refl
tree_other (x ∷ ms) (suc i) (suc j) m h = tree_other ms i j m (before i j h)

pub bytes_other : (ms : List Image) (i j : ℕ) (m : Image) → (j == i) ≡ false
    → bytes_in (slice_set ms i m) j ≡ bytes_in ms j
bytes_other [] i j m h = refl
bytes_other (x ∷ ms) zero zero m h = absurd (true≢false h)
bytes_other (x ∷ ms) zero (suc j) m h = refl
bytes_other (x ∷ ms) (suc i) zero m h = refl
bytes_other (x ∷ ms) (suc i) (suc j) m h = bytes_other ms i j m (before i j h)

first_other : (i : ℕ) → 0 < i → (0 == i) ≡ false
first_other i h = grind (arith, nat_tests)

none_some : {A : Type 0} (x : A) → None ≡ Some x → ⊥
none_some x e = cc

some_same : {A : Type 0} (x y : A) → Some x ≡ Some y → x ≡ y
some_same x y e = cc

-- a place of another image than i
abbrev pub Fine : ℕ → MountedNode → Type 0
Fine i s = (s.image == i) ≡ false

module _ (i : ℕ) (m : Image) (ms : List Image) where
  over_other : (us : List Mount) → is_mounted i us ≡ false → (p : Mount → Bool) (s : MountedNode)
      → over (slice_set ms i m) s (find p us) ≡ over ms s (find p us)
  over_other [] h p s = refl
  over_other (u ∷ us) h p s =
      let both = neither (u.image == i) (is_mounted i us) h in
      of_both (λ o. over (slice_set ms i m) s o ≡ over ms s o) (p u) (Some u) (find p us)
      (ap (λ (t : Node). record { image = u.image; node = t }) (tree_other ms i u.image m both.0))
      (over_other us both.1 p s)

  over_fine : (us : List Mount) → is_mounted i us ≡ false → (p : Mount → Bool) (s : MountedNode) → Fine i s
      → Fine i (over ms s (find p us))
  over_fine [] h p s k = k
  over_fine (u ∷ us) h p s k =
      let both = neither (u.image == i) (is_mounted i us) h in
      of_both (λ o. Fine i (over ms s o)) (p u) (Some u) (find p us) both.0 (over_fine us both.1 p s k)

module _ (i : ℕ) (m : Image) (ms : List Image) (us : List Mount) (some : 0 < i) (free : is_mounted i us ≡ false) where
  shown_other : (s : MountedNode) → shown (slice_set ms i m) us s ≡ shown ms us s
  unfolding shown
  shown_other s = over_other i m ms us free (covers s.image (ino_of s.node)) s

  shown_fine : (s : MountedNode) → Fine i s → Fine i (shown ms us s)
  unfolding shown
  shown_fine s h = over_fine i m ms us free (covers s.image (ino_of s.node)) s h

  entry_other : (j : ℕ) (o : Option Node)
      → option_map (λ x. shown (slice_set ms i m) us (record { image = j; node = x })) o
      ≡ option_map (λ x. shown ms us (record { image = j; node = x })) o
  entry_other j None = refl
  entry_other j (Some x) = ap (λ (s : MountedNode). Some s) (shown_other (record { image = j; node = x }))

  entry_fine : (j : ℕ) (o : Option Node) (y : MountedNode) → (j == i) ≡ false
      → option_map (λ x. shown ms us (record { image = j; node = x })) o ≡ Some y → Fine i y
  entry_fine j None y h e = absurd (none_some y e)
  entry_fine j (Some x) y h e =
      subst (Fine i) (some_same (shown ms us (record { image = j; node = x })) y e)
      (shown_fine (record { image = j; node = x }) h)

  -- paths lead alike, and never to image i
  pub leads_same : (path : List ℕ) (follow : Bool)
      → resolution (graft (slice_set ms i m) us) path follow ≡ resolution (graft ms us) path follow
  leads_same = walk_same (Fine i) (graft ms us) (graft (slice_set ms i m) us)
      (λ x h. refl) (λ x h. bytes_other ms i x.image m h)
      (λ x n h. entry_other x.image (find_entry (entries_of x.node) n))
      (λ x n y h e. entry_fine x.image (find_entry (entries_of x.node) n) y h e) (first_other i some)
      (ap (λ (t : Node). record { image = 0; node = t }) (tree_other ms i 0 m (first_other i some)))

  pub leads_fine : (path : List ℕ) (follow : Bool) (s : MountedNode) → resolution (graft ms us) path follow ≡ Ok s
      → Fine i s
  leads_fine = walk_fine (Fine i) (graft ms us) (graft (slice_set ms i m) us)
      (λ x h. refl) (λ x h. bytes_other ms i x.image m h)
      (λ x n h. entry_other x.image (find_entry (entries_of x.node) n))
      (λ x n y h e. entry_fine x.image (find_entry (entries_of x.node) n) y h e) (first_other i some)
      (ap (λ (t : Node). record { image = 0; node = t }) (tree_other ms i 0 m (first_other i some)))

  -- another image is mounted alike
  at_place_other : (j : ℕ) (r : Result MountedNode WalkError) → ((s : MountedNode) → r ≡ Ok s → Fine i s)
      → mount_at_place (slice_set ms i m) us j r ≡ mount_at_place ms us j r
  at_place_other j (Err e) h = refl
  at_place_other j (Ok s) h =
      ap (λ (t : Node). mount_over us j s (is_directory s.node) (ino_of s.node == ino_of t))
      (tree_other ms i s.image m (h s refl))

  pub mounting_other : (j : ℕ) (path : List ℕ) → mounting (slice_set ms i m) us j path ≡ mounting ms us j path
  mounting_other j path =
      ap (λ n. cond (not (nat_lt j n)) (refuse Enodev us) (cond ((j == 0) || is_mounted j us) (refuse Ebusy us)
      (mount_at_place (slice_set ms i m) us j (resolution (graft (slice_set ms i m) us) path true))))
      (length-set ms i m)
      ∙ ap (λ (a : Answer (List Mount) (Unit {0})). cond (not (nat_lt j (length ms))) (refuse Enodev us)
      (cond ((j == 0) || is_mounted j us) (refuse Ebusy us) a))
      (ap (λ (r : Result MountedNode WalkError). mount_at_place (slice_set ms i m) us j r) (leads_same path true)
      ∙ at_place_other j (resolution (graft ms us) path true) (leads_fine path true))

  pub unmounting_other : (j : ℕ) → unmounting (slice_set ms i m) us j ≡ unmounting ms us j
  unmounting_other j =
      ap (λ n. cond (not (nat_lt j n)) (refuse Enodev us) (cond (not (is_mounted j us)) (refuse Einval us)
      (cond (has_mount j us) (refuse Ebusy us) (give tt (without j us))))) (length-set ms i m)

  -- and image i is still not mounted
  push_free : (vs : List Mount) (u : Mount) → is_mounted i vs ≡ false → (u.image == i) ≡ false
      → is_mounted i (vs ++ u ∷ []) ≡ false
  push_free [] u h k = ap (λ (t : Bool). t || false) k
  push_free (v ∷ vs) u h k =
      let both = neither (v.image == i) (is_mounted i vs) h in
      ap (λ (t : Bool). t || is_mounted i (vs ++ u ∷ [])) both.0 ∙ push_free vs u both.1 k

  over_free : (j : ℕ) (s : MountedNode) (a b : Bool) → (j == i) ≡ false
      → is_mounted i (mount_over us j s a b).state ≡ false
  over_free j s false b h = free
  over_free j s true true h = free
  over_free j s true false h =
      push_free us (record { image = j; on = s.image; dir = record { 0 = ino_of s.node } }) free h

  place_free : (j : ℕ) (r : Result MountedNode WalkError) → (j == i) ≡ false
      → is_mounted i (mount_at_place ms us j r).state ≡ false
  place_free j (Err e) h = free
  place_free j (Ok s) h = over_free j s (is_directory s.node) (ino_of s.node == ino_of (tree_in ms s.image)) h

  pub mounting_free : (j : ℕ) (path : List ℕ) → (j == i) ≡ false → is_mounted i (mounting ms us j path).state ≡ false
  mounting_free j path h =
      let P : Answer (List Mount) (Unit {0}) → Type 0 = λ a. is_mounted i a.state ≡ false in
      of_both P (not (nat_lt j (length ms))) _ _ free
      (of_both P ((j == 0) || is_mounted j us) _ _ free (place_free j (resolution (graft ms us) path true) h))

  without_free : (j : ℕ) (vs : List Mount) → is_mounted i vs ≡ false → is_mounted i (without j vs) ≡ false
  without_free j [] h = refl
  without_free j (v ∷ vs) h =
      let both = neither (v.image == i) (is_mounted i vs) h in
      of_both (λ ws. is_mounted i ws ≡ false) (v.image == j) vs (v ∷ without j vs) both.1
      (ap (λ (t : Bool). t || is_mounted i (without j vs)) both.0 ∙ without_free j vs both.1)

  pub unmounting_free : (j : ℕ) → is_mounted i (unmounting ms us j).state ≡ false
  unmounting_free j =
      let P : Answer (List Mount) (Unit {0}) → Type 0 = λ a. is_mounted i a.state ≡ false in
      of_both P (not (nat_lt j (length ms))) _ _ free (of_both P (not (is_mounted j us)) _ _ free
      (of_both P (has_mount j us) _ _ free (without_free j us free)))
