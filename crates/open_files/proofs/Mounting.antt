-- One mount more, and one less.
use Rattle.std.proofs.Common.{◌≡◌, ℕ, zero, suc, ◌+◌, ◌≤◌, ◌<◌, Bool, true, false, List, [], ◌∷◌, ◌++◌, length, Some}
use Rattle.std.proofs.Common.{None, refl, sym, ap, ◌∙◌, nat_lt, rules, tests, arith, ◌==◌, eqb, eq-eqb, get_or}
use Rattle.std.proofs.lemmas.Bool.{false≢true, eqb-true, false_from_ne_true}
use Rattle.std.proofs.lemmas.Map.Steps.{length-le_from_distinct_below}
use Rattle.std.proofs.lemmas.Map.Keys.{IsDistinct-cons}
use Rattle.std.specs.List.{IsDistinct, AllByRecursion, list_any, position, position_or_len, remove}
use Rattle.std.proofs.lemmas.List.Quantifiers.{position-Some}
use Rattle.std.specs.Prelude.{not, ◌&&◌, ◌||◌, if◌then◌else◌, cond, find}
use Rattle.rom_tree.specs.Tree.{is_directory, ino_of}
use Rattle.rom_tree.specs.Image.{Image}
use Rattle.path_walk.specs.declared.mount.Mount.{Mount}
use Rattle.path_walk.specs.Resolution.{resolution}
use Rattle.path_walk.specs.Graft.{MountedNode, Names, graft, covers, tree_in, node_in, is_mount, is_apart, are_apart}
use Rattle.path_walk.specs.Graft.{are_mounts, is_directory_node}
use Rattle.path_walk.specs.Trails.{IsMember, first, later}
use Rattle.path_walk.proofs.Mounts.{and_left, and_right, good_mount}
use Rattle.path_walk.proofs.GraftNodes.{none_some, node_in-number, node_below}
use Rattle.open_files.specs.declared.error.CallError.TheVariants.{Ebusy, Einval}
use Rattle.open_files.specs.Calls.{refuse, give}
use Rattle.open_files.specs.Sessions.{is_mounted, has_mount, without, mount_over, mount_at_place, mounting, unmounting}
use Rattle.open_files.proofs.Tables.{and_both}

or_left : (a b : Bool) → (a || b) ≡ false → a ≡ false
or_left true b h = absurd (false≢true (sym h))
or_left false b h = refl

or_right : (a b : Bool) → (a || b) ≡ false → b ≡ false
or_right true b h = absurd (false≢true (sym h))
or_right false b h = h

not_false : (a : Bool) → a ≡ false → not a ≡ true
not_false a h = ap not h

false_not : (a : Bool) → not a ≡ true → a ≡ false
false_not true h = absurd (false≢true h)
false_not false h = refl

turned : (a b : ℕ) → (a == b) ≡ false → (b == a) ≡ false
turned a b h = false_from_ne_true (b == a) (λ t. false≢true (sym h ∙ eq-eqb a b (sym (eqb-true b a t))))

covers_turned : (u v : Mount) → covers u.on u.dir.0 v ≡ false → covers v.on v.dir.0 u ≡ false
covers_turned u v h = false_from_ne_true (covers v.on v.dir.0 u) (λ t.
    let a = eqb-true u.on v.on (and_left (u.on == v.on) (u.dir.0 == v.dir.0) t) in
    let b = eqb-true u.dir.0 v.dir.0 (and_right (u.on == v.on) (u.dir.0 == v.dir.0) t) in
    false≢true (sym h ∙ and_both (v.on == u.on) (v.dir.0 == u.dir.0) (eq-eqb v.on u.on (sym a))
    (eq-eqb v.dir.0 u.dir.0 (sym b))))

find_first : (p : Mount → Bool) (v : Mount) (us : List Mount) → find p (v ∷ us) ≡ None
    → (p v ≡ false) × (find p us ≡ None)
find_first p v us h =
    elim (p v) as (λ w. p v ≡ w → (if w then Some v else find p us) ≡ None → (p v ≡ false) × (find p us ≡ None)) [
      | true ↦ λ e k. absurd (none_some v (sym k))
      | false ↦ λ e k. (e, k)
    ] refl h

apart_push : (v u : Mount) (us : List Mount) → are_apart v us ≡ true → is_apart v u ≡ true
    → are_apart v (us ++ u ∷ []) ≡ true
apart_push v u [] h k = and_both (is_apart v u) true k refl
apart_push v u (w ∷ us) h k = and_both (is_apart v w) (are_apart v (us ++ u ∷ []))
    (and_left (is_apart v w) (are_apart v us) h) (apart_push v u us (and_right (is_apart v w) (are_apart v us) h) k)

pub mounts_push : (ms : List Image) (us : List Mount) (u : Mount) → are_mounts ms us ≡ true → is_mount ms u ≡ true
    → is_mounted u.image us ≡ false → find (covers u.on u.dir.0) us ≡ None → are_mounts ms (us ++ u ∷ []) ≡ true
unfolding are_mounts
mounts_push ms [] u h k i f = and_both (is_mount ms u) true k refl
mounts_push ms (v ∷ us) u h k i f =
    let r = find_first (covers u.on u.dir.0) v us f in
    let a = and_right (is_mount ms v) (are_apart v us && are_mounts ms us) h in
    let p : is_apart v u ≡ true = and_both (not (u.image == v.image)) (not (covers v.on v.dir.0 u))
    (not_false (u.image == v.image) (turned v.image u.image
    (or_left (v.image == u.image) (is_mounted u.image us) i)))
    (not_false (covers v.on v.dir.0 u) (covers_turned u v r.0)) in
    and_both (is_mount ms v) (are_apart v (us ++ u ∷ []) && are_mounts ms (us ++ u ∷ []))
    (and_left (is_mount ms v) (are_apart v us && are_mounts ms us) h)
    (and_both (are_apart v (us ++ u ∷ [])) (are_mounts ms (us ++ u ∷ []))
    (apart_push v u us (and_left (are_apart v us) (are_mounts ms us) a) p)
    (mounts_push ms us u (and_right (are_apart v us) (are_mounts ms us) a) k
    (or_right (v.image == u.image) (is_mounted u.image us) i) r.1))

-- there is room for one more
images_of : List Mount → List ℕ
images_of [] = []
images_of (u ∷ us) = u.image ∷ images_of us

images_length : (us : List Mount) → length (images_of us) ≡ length us
unfolding images_of
images_length [] = refl
images_length (u ∷ us) = ap suc (images_length us)

away : (q : ℕ) (us : List Mount) → is_mounted q us ≡ false → AllByRecursion (λ y. eqb q y ≡ false) (images_of us)
unfolding images_of
away q [] h = tt
away q (u ∷ us) h = (
  turned u.image q (or_left (u.image == q) (is_mounted q us) h),
  away q us (or_right (u.image == q) (is_mounted q us) h),
)

apart_away : (u : Mount) (us : List Mount) → are_apart u us ≡ true → is_mounted u.image us ≡ false
apart_away u [] h = refl
apart_away u (v ∷ us) h =
    let a = false_not (v.image == u.image)
    (and_left (not (v.image == u.image)) (not (covers u.on u.dir.0 v))
    (and_left (is_apart u v) (are_apart u us) h)) in
    rw a (apart_away u us (and_right (is_apart u v) (are_apart u us) h))

images_distinct : (ms : List Image) (us : List Mount) → are_mounts ms us ≡ true → IsDistinct eqb (images_of us)
unfolding are_mounts images_of IsDistinct
images_distinct ms [] h = tt
images_distinct ms (u ∷ us) h =
    let a = and_right (is_mount ms u) (are_apart u us && are_mounts ms us) h in (
      away u.image us (apart_away u us (and_left (are_apart u us) (are_mounts ms us) a)),
      images_distinct ms us (and_right (are_apart u us) (are_mounts ms us) a),
    )

none_at_zero : (ms : List Image) (us : List Mount) → ((u : Mount) → IsMember u us → 0 < u.image)
    → is_mounted 0 us ≡ false
none_at_zero ms [] h = refl
none_at_zero ms (u ∷ us) h =
    let k = h u first in
    let a : (u.image == 0) ≡ false =
    false_from_ne_true (u.image == 0) (λ t. absurd (omega (arith, k, eqb-true u.image 0 t))) in
    rw a (none_at_zero ms us (λ v m. h v (later m)))

or_elim : {R : Type 0} (a b : Bool) → (a || b) ≡ true → (a ≡ true → R) → (b ≡ true → R) → R
or_elim true b h f g = f refl
or_elim false b h f g = g h

images_below : (ms : List Image) (us : List Mount) (q : ℕ) → ((u : Mount) → IsMember u us → u.image < length ms)
    → list_any (eqb q) (images_of us) ≡ true → q < length ms
unfolding images_of
images_below ms [] q h e = absurd (false≢true e)
images_below ms (u ∷ us) q h e = or_elim (q == u.image) (list_any (eqb q) (images_of us)) e
    (λ t. let k = h u first in omega (arith, k, eqb-true q u.image t))
    (λ t. images_below ms us q (λ v m. h v (later m)) t)

pub mounts_room : (ms : List Image) (us : List Mount) (i : ℕ) → are_mounts ms us ≡ true → length ms ≤ 8 → 0 < i
    → i < length ms → is_mounted i us ≡ false → length us < 7
mounts_room ms us i h w s l m =
    let z : (0 == i) ≡ false = false_from_ne_true (0 == i) (λ t. absurd (omega (arith, s, eqb-true 0 i t))) in
    let d : IsDistinct eqb (0 ∷ i ∷ images_of us) =
    IsDistinct-cons eqb 0 (i ∷ images_of us)
    (z, away 0 us (none_at_zero ms us (λ u n. (good_mount ms us u h n).some)))
    (IsDistinct-cons eqb i (images_of us) (away i us m) (images_distinct ms us h)) in
    let k = length-le_from_distinct_below (0 ∷ i ∷ images_of us) (length ms) d (λ q e.
    or_elim (q == 0) (list_any (eqb q) (i ∷ images_of us)) e (λ t. omega (arith, l, eqb-true q 0 t))
    (λ t. or_elim (q == i) (list_any (eqb q) (images_of us)) t (λ t. omega (arith, l, eqb-true q i t))
    (λ t. images_below ms us q (λ u n. (good_mount ms us u h n).image) t))) in
    omega (arith, k, w, images_length us)

-- the mount that is added
lt_true : (a b : ℕ) → a < b → nat_lt a b ≡ true
lt_true a b h = search (rules, tests)

not_zero : (n : ℕ) → 0 < n → not (n == 0) ≡ true
not_zero n h = ap not (false_from_ne_true (n == 0) (λ t. absurd (omega (arith, h, eqb-true n 0 t))))

pub new_mount : (ms : List Image) (u : Mount) (s : MountedNode) → Names ms u.on u.dir.0 s → 0 < u.image
    → u.image < length ms → is_directory s.node ≡ true → (ino_of s.node == ino_of (tree_in ms s.image)) ≡ false
    → is_mount ms u ≡ true
new_mount ms u s n z l d r =
    let b : u.on < length ms = node_below ms u.on u.dir.0 s.node n.node in
    let t : (u.dir.0 == ino_of (tree_in ms u.on)) ≡ false =
    ap (λ (v : ℕ). v == ino_of (tree_in ms u.on)) (sym (node_in-number ms u.on u.dir.0 s.node n.node))
    ∙ (ap (λ (v : ℕ). ino_of s.node == ino_of (tree_in ms v)) n.image ∙ r) in
    and_both (not (u.image == 0)) _ (not_zero u.image z)
    (and_both (nat_lt u.image (length ms)) _ (lt_true u.image (length ms) l)
    (and_both (nat_lt u.on (length ms)) _ (lt_true u.on (length ms) b)
    (and_both (is_directory_node (node_in ms u.on u.dir.0)) _ (ap is_directory_node n.node ∙ d) (ap not t))))

-- mounting after its first tests
pub mounting_goes : (ms : List Image) (us : List Mount) (i : ℕ) (path : List ℕ) → i < length ms → 0 < i
    → is_mounted i us ≡ false → mounting ms us i path ≡ mount_at_place ms us i (resolution (graft ms us) path true)
mounting_goes ms us i path l z m =
    let n : (i == 0) ≡ false = false_from_ne_true (i == 0) (λ t. absurd (omega (arith, z, eqb-true i 0 t))) in
    let t : nat_lt i (length ms) ≡ true = lt_true i (length ms) l in
    rw (t, n, m) refl

pub mounting_over : (ms : List Image) (us : List Mount) (u : Mount) (s : MountedNode) → Names ms u.on u.dir.0 s
    → is_directory s.node ≡ true → (ino_of s.node == ino_of (tree_in ms s.image)) ≡ false
    → mount_over us u.image s (is_directory s.node) (ino_of s.node == ino_of (tree_in ms s.image))
    ≡ give tt (us ++ u ∷ [])
mounting_over ms us u s n d r =
    let q : mount_over us u.image s (is_directory s.node) (ino_of s.node == ino_of (tree_in ms s.image))
    ≡ give tt (us ++ (record { image = u.image; on = s.image; dir = record { 0 = ino_of s.node } }) ∷ []) =
    rw (d, r) refl in
    q ∙ (ap (λ (z : ℕ). give tt (us ++ (record { image = u.image; on = z; dir = record { 0 = ino_of s.node } }) ∷ []))
    (sym n.image)
    ∙ ap (λ (z : ℕ). give tt (us ++ (record { image = u.image; on = u.on; dir = record { 0 = z } }) ∷ []))
    (node_in-number ms u.on u.dir.0 s.node n.node))

-- One mount less.

mount_none : (j : ℕ) (us : List Mount) → length us ≤ position_or_len (λ u. u.image == j) us → is_mounted j us ≡ false
mount_none j [] e = refl
mount_none j (u ∷ us) e =
    elim (u.image == j) as (λ w. (u.image == j) ≡ w
    → suc (length us) ≤ cond (not w) (1 + position_or_len (λ u. u.image == j) us) 0
    → (w || is_mounted j us) ≡ false) [
      | true ↦ λ q k. absurd (omega (arith, k))
      | false ↦ λ q k. mount_none j us (omega (arith, k))
    ] refl e

le_by : (a b : ℕ) → nat_lt a b ≡ false → b ≤ a
le_by a b h = search (rules, tests)

past : (a b : ℕ) → None ≡ cond (nat_lt a b) (Some a) None → b ≤ a
past a b e =
    elim (nat_lt a b) as (λ w. nat_lt a b ≡ w → None ≡ cond w (Some a) None → b ≤ a) [
      | true ↦ λ q k. absurd (none_some a k)
      | false ↦ λ q k. le_by a b q
    ] refl e

pub index_none : (j : ℕ) (us : List Mount) → None ≡ position (λ u. u.image == j) us → is_mounted j us ≡ false
index_none j us e = mount_none j us (past (position_or_len (λ u. u.image == j) us) (length us) e)

index_at : (j : ℕ) (us : List Mount) (i : ℕ) (d : Mount) → i < length us → ((get_or us i d).image == j) ≡ true
    → ((k : ℕ) → k < i → ((get_or us k d).image == j) ≡ false) → (is_mounted j us ≡ true) × (remove us i ≡ without j us)
index_at j [] i d l h b = absurd (omega (arith, l))
index_at j (u ∷ us) zero d l h b = (rw h, rw h)
index_at j (u ∷ us) (suc i) d l h b =
    let n : (u.image == j) ≡ false = b 0 (omega arith) in
    let r = index_at j us i d (omega (arith, l)) h (λ k m. b (suc k) (omega (arith, m))) in
    (rw n r.0, rw n (ap (λ (v : List Mount). u ∷ v) r.1))

pub index_some : (j : ℕ) (us : List Mount) (i : ℕ) → Some i ≡ position (λ u. u.image == j) us
    → (is_mounted j us ≡ true) × (remove us i ≡ without j us)
index_some j us i e =
    let d : Mount = record { image = 0; on = 0; dir = record { 0 = 0 } } in
    let r = position-Some (λ (u : Mount). u.image == j) us i d (sym e) in
    index_at j us i d r.0 r.1 r.2

apart_without : (v : Mount) (j : ℕ) (us : List Mount) → are_apart v us ≡ true → are_apart v (without j us) ≡ true
apart_without v j [] h = h
apart_without v j (u ∷ us) h =
    elim (u.image == j) as (λ w. are_apart v (if w then us else u ∷ without j us) ≡ true) [
      | true ↦ and_right (is_apart v u) (are_apart v us) h
      | false ↦ and_both (is_apart v u) (are_apart v (without j us)) (and_left (is_apart v u) (are_apart v us) h)
          (apart_without v j us (and_right (is_apart v u) (are_apart v us) h))
    ]

pub mounts_without : (ms : List Image) (j : ℕ) (us : List Mount) → are_mounts ms us ≡ true
    → are_mounts ms (without j us) ≡ true
unfolding are_mounts
mounts_without ms j [] h = h
mounts_without ms j (u ∷ us) h =
    let a = and_right (is_mount ms u) (are_apart u us && are_mounts ms us) h in
    elim (u.image == j) as (λ w. are_mounts ms (if w then us else u ∷ without j us) ≡ true) [
      | true ↦ and_right (are_apart u us) (are_mounts ms us) a
      | false ↦ and_both (is_mount ms u) (are_apart u (without j us) && are_mounts ms (without j us))
          (and_left (is_mount ms u) (are_apart u us && are_mounts ms us) h)
          (and_both (are_apart u (without j us)) (are_mounts ms (without j us))
          (apart_without u j us (and_left (are_apart u us) (are_mounts ms us) a))
          (mounts_without ms j us (and_right (are_apart u us) (are_mounts ms us) a)))
    ]

module _ (ms : List Image) (us : List Mount) (i : ℕ) (l : i < length ms) where
  pub unmounting_free : is_mounted i us ≡ false → unmounting ms us i ≡ refuse Einval us
  unmounting_free m = let t : nat_lt i (length ms) ≡ true = lt_true i (length ms) l in rw (t, m) refl

  pub unmounting_held : is_mounted i us ≡ true → has_mount i us ≡ true → unmounting ms us i ≡ refuse Ebusy us
  unmounting_held m h = let t : nat_lt i (length ms) ≡ true = lt_true i (length ms) l in rw (t, m, h) refl

  pub unmounting_goes : is_mounted i us ≡ true → has_mount i us ≡ false → unmounting ms us i ≡ give tt (without i us)
  unmounting_goes m h = let t : nat_lt i (length ms) ≡ true = lt_true i (length ms) l in rw (t, m, h) refl
