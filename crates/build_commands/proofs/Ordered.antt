-- Files in the order of their paths: no two have one path.
use Rattle.std.proofs.Common.{◌≡◌, ℕ, ◌+◌, ◌<◌, ◌≤◌, Bool, true, false, cond, Ordering, Less, Equal, Greater, List}
use Rattle.std.proofs.Common.{[], ◌∷◌}
use Rattle.std.proofs.Common.{length, get_or, suc, zero, refl, sym, ap, subst, ◌∙◌, arith, Some, None}
use Rattle.std.specs.Cmp.Lexicographic.{slice_cmp}
use Rattle.std.specs.List.Sorted.{IsPartitionPoint}
use Rattle.std.specs.Ordering.{nat_cmp, is_lt, is_eq, ordering_reverse}
use Rattle.std.specs.Str.{bytes_eq}
use Rattle.std.proofs.lemmas.Bool.{cases_lt}
use Rattle.std.proofs.lemmas.Cmp.{nat_list_cmp_total}
use Rattle.std.proofs.lemmas.Map.Text.{is_eq-slice_cmp}
use mathlib.Core.Logic.{⊎_elim}
use Rattle.build_commands.specs.Inventory.{path_of}
use Rattle.build_commands.specs.Overlay.{has_path, AreInOrder, AreSorted, IsBefore}
use Rattle.build_commands.specs.Rights.{file_at}
use Rattle.build_commands.specs.declared.inventory.NamedFile.{NamedFile}
use Rattle.build_commands.proofs.Overlaid.{apart, itself, same_path}

abbrev R : List ℕ → List ℕ → Ordering
R = slice_cmp nat_cmp

before_rest : (p : List ℕ) (f : NamedFile) (fs : List NamedFile) → R p (path_of f) ≡ Less → IsBefore (path_of f) fs
    → IsBefore p fs
before_rest p f [] b o = tt
before_rest p f (g ∷ fs) b o = nat_list_cmp_total.trans p (path_of f) (path_of g) b o

-- a path before the first file's is before that of each
before_each : (p : List ℕ) (fs : List NamedFile) (j : ℕ) (d : NamedFile) → IsBefore p fs → AreInOrder fs → j < length fs
    → R p (path_of (get_or fs j d)) ≡ Less
before_each p [] j d b o l = absurd (omega (arith, l))
before_each p (f ∷ fs) zero d b o l = b
before_each p (f ∷ fs) (suc j) d b o l =
    before_each p fs j d (before_rest p f fs b o.0) o.1 (omega (arith, l))

pub paths_rise : (fs : List NamedFile) (i j : ℕ) (d : NamedFile) → AreInOrder fs → i < j → j < length fs
    → R (path_of (get_or fs i d)) (path_of (get_or fs j d)) ≡ Less
paths_rise [] i j d o lt l = absurd (omega (arith, l))
paths_rise (f ∷ fs) i zero d o lt l = absurd (omega (arith, lt))
paths_rise (f ∷ fs) zero (suc j) d o lt l = before_each (path_of f) fs j d o.0 o.1 (omega (arith, l))
paths_rise (f ∷ fs) (suc i) (suc j) d o lt l = paths_rise fs i j d o.1 (omega (arith, lt)) (omega (arith, l))

pub paths_apart : (fs : List NamedFile) (i j : ℕ) (d : NamedFile) → AreInOrder fs → i < j → j < length fs
    → path_of (get_or fs i d) ≡ path_of (get_or fs j d) → ⊥
paths_apart fs i j d o lt l e =
    let x : List ℕ = path_of (get_or fs i d) in
    let y : List ℕ = path_of (get_or fs j d) in
    let a : bytes_eq x y ≡ false = apart x y (paths_rise fs i j d o lt l) in
    let b : bytes_eq x y ≡ true = ap (λ (v : List ℕ). bytes_eq x v) (sym e) ∙ itself x in
    absurd cc

pub one_index : (fs : List NamedFile) (i j : ℕ) (d : NamedFile) → AreInOrder fs → i < length fs → j < length fs
    → path_of (get_or fs i d) ≡ path_of (get_or fs j d) → i ≡ j
one_index fs i j d o li lj e =
    ⊎_elim
    (λ (lt : i < j). absurd (paths_apart fs i j d o lt lj e))
    (λ (ge : j ≤ i). ⊎_elim
    (λ (lt : j < i). absurd (paths_apart fs j i d o lt li (sym e)))
    (λ (le : i ≤ j). omega (arith, ge, le))
    (cases_lt j i))
    (cases_lt i j)

-- the file of a path is the one at the index that has it
pub file_found : (fs : List NamedFile) (i : ℕ) (d : NamedFile) (p : List ℕ) → AreInOrder fs → i < length fs
    → path_of (get_or fs i d) ≡ p → file_at p fs ≡ Some (get_or fs i d)
file_found [] i d p o l e = absurd (omega (arith, l))
file_found (f ∷ fs) zero d p o l e =
    ap (λ (b : Bool). cond b (Some f) (file_at p fs))
    (subst (λ (q : List ℕ). bytes_eq (path_of f) q ≡ true) e (itself (path_of f)))
file_found (f ∷ fs) (suc i) d p o l e =
    let here : i < length fs = omega (arith, l) in
    let less : R (path_of f) p ≡ Less =
    subst (λ (q : List ℕ). R (path_of f) q ≡ Less) e (before_each (path_of f) fs i d o.0 o.1 here)
    in
    ap (λ (b : Bool). cond b (Some f) (file_at p fs)) (apart (path_of f) p less) ∙ file_found fs i d p o.1 here e

pub none_found : (fs : List NamedFile) (p : List ℕ)
    → ((k : ℕ) (d : NamedFile) → k < length fs → has_path p (get_or fs k d) ≡ false) → file_at p fs ≡ None
none_found [] p h = refl
none_found (f ∷ fs) p h =
    ap (λ (b : Bool). cond b (Some f) (file_at p fs)) (h 0 f (omega arith))
    ∙ none_found fs p (λ k d l. h (suc k) d (omega (arith, l)))

-- what a search by halves says
pub never_equal : (fs : List NamedFile) (p : List ℕ) (i : ℕ)
    → IsPartitionPoint (λ (f : NamedFile). R (path_of f) p ≡ Less) (λ (f : NamedFile). R (path_of f) p ≡ Greater) fs i
    → file_at p fs ≡ None
never_equal fs p i parts =
    none_found fs p (λ k d l.
    sym (is_eq-slice_cmp (path_of (get_or fs k d)) p)
    ∙ ⊎_elim
    (λ (lt : k < i). ap is_eq (parts.0 k d (omega arith) lt))
    (λ (ge : i ≤ k). ap is_eq (parts.1 k d ge l))
    (cases_lt k i))

pub still_sorted : (fs : List NamedFile) → AreInOrder fs → AreSorted fs
still_sorted fs o k d low high =
    let less : R (path_of (get_or fs k d)) (path_of (get_or fs (k + 1) d)) ≡ Less =
    paths_rise fs k (k + 1) d o (omega arith) high
    in
    ap is_lt (nat_list_cmp_total.antisymm (path_of (get_or fs (k + 1) d)) (path_of (get_or fs k d))
    ∙ ap ordering_reverse less)

pub same_from_equal : (x y : List ℕ) → R x y ≡ Equal → x ≡ y
same_from_equal x y e = same_path x y (sym (is_eq-slice_cmp x y) ∙ ap is_eq e)
