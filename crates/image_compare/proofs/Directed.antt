-- The paths of directories, and of names in them.
use Rattle.std.proofs.Common.{◌≡◌, ℕ, zero, suc, ◌+◌, ◌-◌, ◌<◌, ◌≤◌, List, [], ◌∷◌, ◌++◌, length, get_or, None}
use Rattle.std.proofs.Common.{refl, sym, ap, ◌∙◌, arith, inl, inr, append_assoc, append-nil, length-append}
use Rattle.std.specs.Prelude.{slice_get, slice_index}
use Rattle.std.proofs.lemmas.Bool.{cases_lt}
use Rattle.std.proofs.lemmas.List.{get_or_past, get_or_append_left, get_or-append_right}
use Rattle.std.proofs.lemmas.Option.{slice_get_cases, slice_get-get_or, none-some}
use Rattle.rom_tree.specs.Names.{path_below}
use Rattle.image_compare.specs.declared.directories.Directory.{Directory}
use Rattle.image_compare.specs.Directories.{AreWays, IsDirectory, IsFront, way_at}

-- ---- fronts

pub front_self : (a : List ℕ) → IsFront a a
front_self a = ([], sym (append-nil a))

pub front_more : (a b c : List ℕ) → IsFront a b → IsFront b c → IsFront a c
front_more a b c h k =
    (h.0 ++ k.0, k.1 ∙ (ap (λ (v : List ℕ). v ++ k.0) h.1 ∙ append_assoc a h.0 k.0))

-- ---- directories

module _ (ds : List Directory) (ws : List (List ℕ)) (h : AreWays ds ws) where
  past_by : (i : ℕ) → length ds ≤ i → way_at ws i ≡ []
  past_by i l = get_or_past ws i [] (let e = h.count in omega (arith, e, l))

  -- no directory has no path
  pub way_none : (i : ℕ) → None ≡ slice_get ds i → way_at ws i ≡ []
  way_none i e = elim (slice_get_cases ds i).1 [
    | inl f ↦ absurd (none-some f.0 (e ∙ f.2))
    | inr f ↦ past_by i f.0
  ]

  -- a directory whose path has a byte is there, and is not the root
  pub within : (i k : ℕ) → k < length (way_at ws i) → i < length ds
  within i k l = elim (cases_lt i (length ds)) [
    | inl m ↦ m
    | inr m ↦ absurd (let e = ap (λ (v : List ℕ). length v) (past_by i m) in omega (arith, e, l))
  ]

  pub not_root : (i k : ℕ) → k < length (way_at ws i) → 0 < i
  not_root zero k l = absurd (let e = ap (λ (v : List ℕ). length v) h.root in omega (arith, e, l))
  not_root (suc i) k l = omega arith

  -- the directory that is read
  pub read : (i : ℕ) (d : Directory) → i < length ds → IsDirectory ws i (get_or ds i d)
  read i d l = h.each i (get_or ds i d) (slice_get-get_or ds i d l)

  -- a directory whose path has a byte is in an earlier one, whose path begins its own
  pub next_earlier : (i k : ℕ) (d : Directory) → k < length (way_at ws i) → (get_or ds i d).parent < i
  next_earlier i k d l = (read i d (within i k l)).earlier (not_root i k l)

  pub next_way : (i k : ℕ) (d : Directory) → k < length (way_at ws i)
      → way_at ws i ≡ path_below (way_at ws (get_or ds i d).parent) (get_or ds i d).name.now
  next_way i k d l = (read i d (within i k l)).below (not_root i k l)

  pub root_front : (i : ℕ) → IsFront (way_at ws 0) (way_at ws i)
  root_front i = (way_at ws i, ap (λ (v : List ℕ). v ++ way_at ws i) (sym h.root))

-- ---- the bytes of a path

module _ (a n : List ℕ) (k : ℕ) where
  pub byte_above : k < length a → slice_index (path_below a n) k ≡ slice_index a k
  byte_above l = get_or_append_left a (47 ∷ n) 0 k l

  pub byte_slash : k ≡ length a → slice_index (path_below a n) k ≡ 47
  byte_slash e = get_or-append_right a (47 ∷ n) (length a) k 0 refl (omega (arith, e))
      ∙ ap (λ (v : ℕ). get_or (47 ∷ n) v 0) (let z : k - length a ≡ 0 = omega (arith, e) in z)

  pub byte_name : length a < k → slice_index (path_below a n) k ≡ slice_index n (k - length a - 1)
  byte_name l = get_or-append_right a (47 ∷ n) (length a) k 0 refl (omega (arith, l))
      ∙ ap (λ (v : ℕ). get_or (47 ∷ n) v 0)
      (let z : k - length a ≡ suc (k - length a - 1) = omega (arith, l) in z)

pub below_length : (a n : List ℕ) → length (path_below a n) ≡ length a + 1 + length n
below_length a n = let e = length-append a (47 ∷ n) in omega (arith, e)

pub way_empty : (w : List ℕ) → length w ≡ 0 → w ≡ []
way_empty [] e = refl
way_empty (b ∷ bs) e = absurd (omega (arith, e))

-- a name more
pub with_name : (old mid new w name : List ℕ) → mid ≡ old ++ w → new ≡ mid ++ 47 ∷ name → new ≡ old ++ path_below w name
with_name old mid new w name e f = f ∙ (ap (λ (v : List ℕ). v ++ 47 ∷ name) e ∙ append_assoc old w (47 ∷ name))

pub name_room : (old mid w name : List ℕ) → mid ≡ old ++ w → length old + length (path_below w name) ≤ 16384
    → length mid + 1 + length name ≤ 16384
name_room old mid w name e h =
    let s : length mid ≡ length (old ++ w) = ap (λ (v : List ℕ). length v) e in
    omega (arith, h, s, length-append old w, below_length w name)

-- the front of a directory's path is that of a path in it
pub front_below : (f w name : List ℕ) → IsFront f w → IsFront f (path_below w name)
front_below f w name h =
    (h.0 ++ 47 ∷ name, ap (λ (v : List ℕ). v ++ 47 ∷ name) h.1 ∙ append_assoc f h.0 (47 ∷ name))
