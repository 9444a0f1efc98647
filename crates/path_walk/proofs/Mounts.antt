-- How far mounts lead.
use Rattle.std.proofs.Common.{◌≡◌, ℕ, zero, suc, ◌<◌, ◌≤◌, Bool, true, false, List, [], ◌∷◌, length, Some, refl, sym}
use Rattle.std.proofs.Common.{ap, ◌∙◌, subst, rules, arith, ◌==◌, nat_lt, eqb, tests}
use Rattle.std.proofs.lemmas.Bool.{false≢true, eqb-true, false_from_ne_true, or_right}
use Rattle.std.proofs.lemmas.Map.Steps.{length-le_from_distinct_below}
use Rattle.std.proofs.lemmas.Map.Keys.{IsDistinct-cons}
use Rattle.std.specs.List.{IsDistinct, AllByRecursion, list_any}
use Rattle.std.specs.Prelude.{◌&&◌, ◌||◌, not, find, if◌then◌else◌}
use Rattle.rom_tree.specs.Tree.{ino_of}
use Rattle.rom_tree.specs.Image.{Image}
use Rattle.path_walk.specs.declared.mount.Mount.{Mount}
use Rattle.path_walk.specs.Graft.{covers, is_image, is_mount, is_apart, are_apart, are_mounts, is_directory_node}
use Rattle.path_walk.specs.Graft.{node_in, tree_in}
use Rattle.path_walk.specs.Trails.{IsMember, first, later, IsLed, origin, onto}

pub and_left : (a b : Bool) → (a && b) ≡ true → a ≡ true
and_left true b h = refl
and_left false b h = h

pub and_right : (a b : Bool) → (a && b) ≡ true → b ≡ true
and_right true b h = h
and_right false b h = absurd (false≢true h)

pub lt_by : (a b : ℕ) → nat_lt a b ≡ true → a < b
lt_by a b h = search (rules, tests)

-- what is found is a member that passes
pub find_member : (p : Mount → Bool) (us : List Mount) (u : Mount) → find p us ≡ Some u → IsMember u us × (p u ≡ true)
find_member p [] u h = absurd (cc)
find_member p (v ∷ us) u h =
    elim (p v) as (λ w. p v ≡ w → (if w then Some v else find p us) ≡ Some u → IsMember u (v ∷ us) × (p u ≡ true)) [
      | true ↦ λ e k. let q : v ≡ u = cc in (
        let P : Mount → Type 0 = λ z. IsMember z (v ∷ us) in subst P q first,
        let Q : Mount → Type 0 = λ z. p z ≡ true in subst Q q e,
      )
      | false ↦ λ e k. let r = find_member p us u k in (later r.0, r.1)
    ] refl h

-- what holds of each mount
pub record IsGoodMount (ms : List Image) (u : Mount) : Type 0 where
  pub some : 0 < u.image
  pub image : u.image < length ms
  pub on : u.on < length ms
  pub directory : is_directory_node (node_in ms u.on u.dir.0) ≡ true
  pub below_root : (u.dir.0 == ino_of (tree_in ms u.on)) ≡ false

not_true : (b : Bool) → not b ≡ true → b ≡ false
not_true true h = absurd (false≢true h)
not_true false h = refl

some_by : (n : ℕ) → not (n == 0) ≡ true → 0 < n
some_by zero h = absurd (false≢true h)
some_by (suc n) h = omega arith

good_by : (ms : List Image) (u : Mount) → is_mount ms u ≡ true → IsGoodMount ms u
good_by ms u h =
    let t = not (u.dir.0 == ino_of (tree_in ms u.on)) in
    let d = is_directory_node (node_in ms u.on u.dir.0) in
    let b = and_right (not (u.image == 0)) (is_image ms u.image && (is_image ms u.on && (d && t))) h in
    let c = and_right (is_image ms u.image) (is_image ms u.on && (d && t)) b in
    let e = and_right (is_image ms u.on) (d && t) c in
    record {
      some = some_by u.image (and_left (not (u.image == 0)) (is_image ms u.image && (is_image ms u.on && (d && t))) h);
      image = lt_by u.image (length ms) (and_left (is_image ms u.image) (is_image ms u.on && (d && t)) b);
      on = lt_by u.on (length ms) (and_left (is_image ms u.on) (d && t) c);
      directory = and_left d t e;
      below_root = not_true (u.dir.0 == ino_of (tree_in ms u.on)) (and_right d t e);
    }

pub good_mount : (ms : List Image) (us : List Mount) (u : Mount) → are_mounts ms us ≡ true → IsMember u us
    → IsGoodMount ms u
unfolding are_mounts
good_mount ms [] u h m = elim m [ ]
good_mount ms (u ∷ us) u' h first = good_by ms u (and_left (is_mount ms u) (are_apart u us && are_mounts ms us) h)
good_mount ms (v ∷ us) u h (later m) =
    good_mount ms us u (and_right (are_apart v us) (are_mounts ms us)
    (and_right (is_mount ms v) (are_apart v us && are_mounts ms us) h)) m

not_same : (a b : ℕ) → not (a == b) ≡ true → a ≡ b → ⊥
not_same a b h e =
    false≢true (sym (ap not (let P : ℕ → Type 0 = λ v. (a == v) ≡ true in subst P e (search (rules, tests)))) ∙ h)

apart_not : (u v : Mount) (us : List Mount) → are_apart u us ≡ true → IsMember v us → u.image ≡ v.image → ⊥
apart_not u v [] h m e = elim m [ ]
apart_not u v (w ∷ us) h first e = not_same w.image u.image
    (and_left (not (w.image == u.image)) (not (covers u.on u.dir.0 w)) (and_left (is_apart u w) (are_apart u us) h))
    (sym e)
apart_not u v (w ∷ us) h (later m) e = apart_not u v us (and_right (is_apart u w) (are_apart u us) h) m e

-- an image occurs once
pub one_mount : (ms : List Image) (us : List Mount) (u v : Mount) → are_mounts ms us ≡ true → IsMember u us
    → IsMember v us → u.image ≡ v.image → u ≡ v
unfolding are_mounts
one_mount ms [] u v h m n e = elim m [ ]
one_mount ms (w ∷ us) u v h first first e = refl
one_mount ms (w ∷ us) u v h first (later n) e =
    absurd (apart_not w v us (and_left (are_apart w us) (are_mounts ms us)
    (and_right (is_mount ms w) (are_apart w us && are_mounts ms us) h)) n e)
one_mount ms (w ∷ us) u v h (later m) first e =
    absurd (apart_not w u us (and_left (are_apart w us) (are_mounts ms us)
    (and_right (is_mount ms w) (are_apart w us && are_mounts ms us) h)) m (sym e))
one_mount ms (w ∷ us) u v h (later m) (later n) e =
    one_mount ms us u v (and_right (are_apart w us) (are_mounts ms us)
    (and_right (is_mount ms w) (are_apart w us && are_mounts ms us) h)) m n e

module _ (ms : List Image) (us : List Mount) (h : are_mounts ms us ≡ true) where
  -- an image is below one number of mounts
  same_depth : (r q i j : ℕ) → IsLed us r i → IsLed us q j → i ≡ j → r ≡ q
  same_depth r q i j origin origin e = refl
  same_depth r q i j origin (onto u m l) e = let g = (good_mount ms us u h m).some in absurd (omega (arith, g, e))
  same_depth r q i j (onto u m l) origin e = let g = (good_mount ms us u h m).some in absurd (omega (arith, g, e))
  same_depth r q i j (onto u m l) (onto v n k) e =
      let P : Mount → Type 0 = λ (w : Mount). u.on
      ≡ w.on in ap suc (same_depth _ _ u.on v.on l k (subst P (one_mount ms us u v h m n e) refl))

  -- the images on the way
  way : {r i : ℕ} → IsLed us r i → List ℕ
  way origin = 0 ∷ []
  way (onto u m l) = u.image ∷ way l

  way_length : {r i : ℕ} (l : IsLed us r i) → length (way l) ≡ suc r
  unfolding way
  way_length origin = refl
  way_length (onto u m l) = ap suc (way_length l)

  -- each is below no more mounts than the last
  record IsOn (r q : ℕ) : Type 0 where
    deep : ℕ
    within : deep ≤ r
    led : IsLed us deep q

  or_elim : {R : Type 0} (a b : Bool) → (a || b) ≡ true → (a ≡ true → R) → (b ≡ true → R) → R
  or_elim true b h f g = f refl
  or_elim false b h f g = g h

  on_way : {r i : ℕ} (l : IsLed us r i) (q : ℕ) → list_any (eqb q) (way l) ≡ true → IsOn r q
  unfolding way
  on_way origin q k = or_elim (q == 0) false k
      (λ e. let P : ℕ → Type 0 = λ v. IsLed us 0 v in record
      { deep = 0; within = omega arith; led = subst P (sym (eqb-true q 0 e)) origin }) (λ e. absurd (false≢true e))
  on_way {r = suc r} (onto u m l) q k = or_elim (q == u.image) (list_any (eqb q) (way l)) k
      (λ e. let P : ℕ → Type 0 = λ v. IsLed us (suc r) v in record
      { deep = suc r; within = omega arith; led = subst P (sym (eqb-true q u.image e)) (onto u m l) })
      (λ e. let o = on_way l q e in record
      { deep = o.deep; within = (let w = o.within in omega (arith, w)); led = o.led })

  any_all : (q : ℕ) (xs : List ℕ) → (list_any (eqb q) xs ≡ true → ⊥) → AllByRecursion (λ y. eqb q y ≡ false) xs
  any_all q [] f = tt
  any_all q (x ∷ xs) f = (
    false_from_ne_true (eqb q x) (λ e. f (rw e refl)),
    any_all q xs (λ e. f (or_right (eqb q x) (list_any (eqb q) xs) e)),
  )

  way_distinct : {r i : ℕ} (l : IsLed us r i) → IsDistinct eqb (way l)
  unfolding way IsDistinct
  way_distinct origin = IsDistinct-cons eqb 0 [] tt (search rules)
  way_distinct (onto u m l) = IsDistinct-cons eqb u.image (way l)
      (any_all u.image (way l) (λ e. let o = on_way l u.image e in let w = o.within in let s = same_depth _ _ u.image
      u.image (onto u m l) o.led refl in absurd (omega (arith, w, s)))) (way_distinct l)

  -- an image that is led to is one of all, so it is below fewer mounts than there are images
  pub led_below : {r i : ℕ} → 0 < length ms → IsLed us r i → i < length ms
  led_below s origin = s
  led_below s (onto u m l) = (good_mount ms us u h m).image

  pub led_few : (r i : ℕ) → 0 < length ms → IsLed us r i → r < length ms
  led_few r i s l =
      let k = length-le_from_distinct_below (way l) (length ms) (way_distinct l)
      (λ q e. led_below s (on_way l q e).led) in
      omega (arith, k, way_length l)
