-- The last name of a path can be in a list.
use Rattle.std.proofs.Common.{◌≡◌, ◌≢◌, ℕ, ◌<◌, ◌≤◌, ◌==◌, nat_lt, Bool, true, false, cond, List, [], ◌∷◌, ◌++◌, length}
use Rattle.std.proofs.Common.{Some, refl, ap, subst, ◌∙◌, arith}
use Rattle.std.proofs.lemmas.Bool.{eqb-true, ltb-false}
use Rattle.std.proofs.lemmas.List.Elements.{All-contains, All-from_recursion}
use Rattle.std.specs.Cmp.Lexicographic.{bytes_decides}
use Rattle.std.specs.List.{AllByRecursion as Every, Contains, list_any}
use Rattle.std.specs.Str.{bytes_eq}
use Rattle.std.specs.Cmp.{unsigned_Decides}
use Rattle.rom_tree.specs.Dots.{is_dots}
use Rattle.manifest.specs.Texts.{is_bad}
use Rattle.manifest.specs.Paths.{names_of, path_of, is_bad_name}
use Rattle.manifest.proofs.Named.{path_with_names, has_slash}
use Rattle.manifest_tree.specs.Lists.{IsName}
use Rattle.manifest_layout.proofs.Bools.{or_false}
use Rattle.manifest_layout.specs.Misfit.{last_len}
use Rattle.manifest_layout.proofs.Sorted.{last_of}

-- what no name has, the last one has not
last_free : (f : List ℕ → Bool) (m : List ℕ) (ms : List (List ℕ)) → list_any f (m ∷ ms) ≡ false
    → f (last_of m ms) ≡ false
last_free f m [] h = (or_false (f m) false h).0
last_free f m (x ∷ xs) h = last_free f x xs (or_false (f m) (list_any f (x ∷ xs)) h).1

pub last_length : (m : List ℕ) (ms : List (List ℕ)) → last_len (m ∷ ms) ≡ length (last_of m ms)
last_length m [] = refl
last_length m (x ∷ xs) = last_length x xs

has_zero : List ℕ → Bool
has_zero n = list_any (λ b. b == 0) n

-- a path without a zero byte has names without one
any_parts : (f : ℕ → Bool) (xs ys : List ℕ) → list_any f (xs ++ ys) ≡ false
    → (list_any f xs ≡ false) × (list_any f ys ≡ false)
any_parts f [] ys h = (refl, h)
any_parts f (x ∷ xs) ys h =
    let s = or_false (f x) (list_any f (xs ++ ys)) h in
    let r = any_parts f xs ys s.1 in
    (rw (s.0, r.0) refl, r.1)

zero_free : (ns : List (List ℕ)) → list_any (λ b. b == 0) (path_of ns) ≡ false → list_any has_zero ns ≡ false
unfolding has_zero
zero_free [] h = refl
zero_free (n ∷ ns) h = let r = any_parts (λ b. b == 0) n (path_of ns) h in rw (r.0, zero_free ns r.1) refl

-- a test of bytes that none passes
none_passes : (k : ℕ) (xs : List ℕ) → list_any (λ b. b == k) xs ≡ false → Every (λ x. x ≢ k) xs
none_passes k [] h = tt
none_passes k (x ∷ xs) h =
    let s = or_false (x == k) (list_any (λ b. b == k) xs) h in
    ((λ e. different (x == k) ((eq_true x k) e) s.0), none_passes k xs s.1)
  where
    different : (b : Bool) → b ≡ true → b ≡ false → ⊥
    different b e f = cc

    eq_true : (x k : ℕ) → x ≡ k → (x == k) ≡ true
    eq_true x k e = subst (λ (y : ℕ). (x == y) ≡ true) e (same x)
      where
        same : (x : ℕ) → (x == x) ≡ true
        same x = (unsigned_Decides x x).1 refl

pub no_byte : (k : ℕ) (xs : List ℕ) → Every (λ x. x ≢ k) xs → Contains xs k → ⊥
no_byte k xs h c = All-contains (λ x. x ≢ k) xs k (All-from_recursion (λ x. x ≢ k) xs h) c refl

-- what a name that is not bad has
pub record IsPlain (n : List ℕ) : Type 0 where
  pub name : IsName n
  pub no_dots : is_dots n ≡ false

not_dots : (n : List ℕ) → bytes_eq n (46 ∷ []) ≡ false → bytes_eq n (46 ∷ 46 ∷ []) ≡ false → is_dots n ≡ false
not_dots [] h g = refl
not_dots (x ∷ []) h g = elim (x == 46) as (λ t. (x == 46) ≡ t → t ≡ false) [
  | true ↦ λ e. absurd (different (bytes_eq (x ∷ []) (46 ∷ []))
      ((bytes_decides (x ∷ []) (46 ∷ [])).1 (ap (λ (y : ℕ). y ∷ []) (eqb-true x 46 e))) h)
  | false ↦ λ e. refl
] refl
  where
    different : (b : Bool) → b ≡ true → b ≡ false → ⊥
    different b e f = cc
not_dots (x ∷ y ∷ []) h g = elim (x == 46) as (λ t. (x == 46) ≡ t → cond t (y == 46) false ≡ false) [
  | true ↦ λ e. elim (y == 46) as (λ t. (y == 46) ≡ t → t ≡ false) [
    | true ↦ λ f. absurd (different (bytes_eq (x ∷ y ∷ []) (46 ∷ 46 ∷ []))
        ((bytes_decides (x ∷ y ∷ []) (46 ∷ 46 ∷ [])).1
        (ap (λ (z : ℕ). z ∷ y ∷ []) (eqb-true x 46 e) ∙ ap (λ (z : ℕ). 46 ∷ z ∷ []) (eqb-true y 46 f))) g)
    | false ↦ λ f. refl
  ] refl
  | false ↦ λ e. refl
] refl
  where
    different : (b : Bool) → b ≡ true → b ≡ false → ⊥
    different b e f = cc
not_dots (x ∷ y ∷ z ∷ more) h g = refl

is_plain : (n : List ℕ) → is_bad_name n ≡ false → has_slash n ≡ false → has_zero n ≡ false → IsPlain n
unfolding is_bad_name has_zero
is_plain n bad slash zero =
    let a = or_false (bytes_eq n []) _ bad in
    let b = or_false (bytes_eq n (46 ∷ [])) _ a.1 in
    let c = or_false (bytes_eq n (46 ∷ 46 ∷ [])) (nat_lt 255 (length n)) b.1 in
    let l = ltb-false 255 (length n) c.1 in
    record {
      name = record {
        named = some n a.0;
        short = omega (arith, l);
        no_zero = none_passes 0 n zero;
        no_slash = no_byte 47 n (none_passes 47 n slash);
      };
      no_dots = not_dots n b.0 c.0;
    }
  where
    some : (n : List ℕ) → bytes_eq n [] ≡ false → 0 < length n
    some [] e = absurd (cc)
    some (x ∷ xs) e = omega arith

pub last_plain : (path : List ℕ) (m : List ℕ) (ms : List (List ℕ)) → names_of path ≡ Some (m ∷ ms)
    → IsPlain (last_of m ms)
unfolding has_zero
last_plain path m ms h =
    let k = path_with_names path m ms h in
    let z = (or_false (nat_lt 4095 (length path)) (list_any (λ b. b == 0) path) k.good).1 in
    let zs : list_any has_zero (m ∷ ms) ≡ false =
    zero_free (m ∷ ms) (subst (λ (p : List ℕ). list_any (λ b. b == 0) p ≡ false) k.joined z) in
    is_plain (last_of m ms) (last_free is_bad_name m ms k.names) (last_free has_slash m ms k.plain)
    (last_free has_zero m ms zs)

-- a text that is not bad is short, without a zero byte
pub good_text : (most : ℕ) (t : List ℕ) → is_bad most t ≡ false → (length t ≤ most) × Every (λ x. x ≢ 0) t
good_text most t h =
    let s = or_false (nat_lt most (length t)) (list_any (λ b. b == 0) t) h in
    (ltb-false most (length t) s.0, none_passes 0 t s.1)

every_no_zero : (ns : List (List ℕ)) → list_any has_zero ns ≡ false → Every (λ n. Every (λ x. x ≢ 0) n) ns
unfolding has_zero
every_no_zero [] h = tt
every_no_zero (n ∷ ns) h =
    let s = or_false (has_zero n) (list_any has_zero ns) h in (none_passes 0 n s.0, every_no_zero ns s.1)

-- no name of a path has a zero byte
pub names_no_zero : (path : List ℕ) (m : List ℕ) (ms : List (List ℕ)) → names_of path ≡ Some (m ∷ ms)
    → Every (λ n. Every (λ x. x ≢ 0) n) (m ∷ ms)
names_no_zero path m ms h =
    let k = path_with_names path m ms h in
    let z = (or_false (nat_lt 4095 (length path)) (list_any (λ b. b == 0) path) k.good).1 in
    every_no_zero (m ∷ ms) (zero_free (m ∷ ms) (subst (λ (p : List ℕ). list_any (λ b. b == 0) p ≡ false) k.joined z))
