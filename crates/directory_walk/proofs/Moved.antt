-- If names are moved, so are the paths of those that are entered.
use Rattle.std.proofs.Common.{ℕ, zero, suc, ◌<◌, Bool, true, false, List, [], ◌∷◌, length, get_or, set}
use Rattle.std.proofs.Common.{swap, arith}
use Rattle.std.specs.Prelude.{if◌then◌else◌}
use Rattle.std.specs.List.Sorted.{IsPermutation}
use Rattle.std.proofs.lemmas.List.Sorted.{IsPermutation-refl, IsPermutation-trans, IsPermutation-cons}
use Rattle.std.proofs.lemmas.List.Sorted.{IsPermutation-append_left, IsPermutation-append_comm, IsPermutation-keeps}
use Rattle.directory_walk.specs.Trees.{Name, entered}

abbrev SamePaths : {T : Type 0} → List (Name T) → List (Name T) → Type 0
SamePaths xs ys = IsPermutation (entered xs) (entered ys)

skip : {T : Type 0} (x : Name T) (xs ys : List (Name T)) → SamePaths xs ys → SamePaths (x ∷ xs) (x ∷ ys)
skip {T} x xs ys h = choose x.is_entered
  where
    choose : (b : Bool) → IsPermutation (if b then x.path ∷ entered xs else entered xs)
        (if b then x.path ∷ entered ys else entered ys)
    choose true = IsPermutation-cons x.path (entered xs) (entered ys) h
    choose false = h

turn : {T : Type 0} (x y : Name T) (xs : List (Name T)) → SamePaths (x ∷ y ∷ xs) (y ∷ x ∷ xs)
turn {T} x y xs = choose x.is_entered y.is_entered (entered xs)
  where
    choose : (a b : Bool) (ps : List (List ℕ))
        → IsPermutation (if a then x.path ∷ (if b then y.path ∷ ps else ps) else (if b then y.path ∷ ps else ps))
        (if b then y.path ∷ (if a then x.path ∷ ps else ps) else (if a then x.path ∷ ps else ps))
    choose true true ps = IsPermutation-append_left ps (x.path ∷ y.path ∷ []) (y.path ∷ x.path ∷ [])
        (IsPermutation-append_comm (x.path ∷ []) (y.path ∷ []))
    choose true false ps = IsPermutation-refl (x.path ∷ ps)
    choose false true ps = IsPermutation-refl (y.path ∷ ps)
    choose false false ps = IsPermutation-refl ps

chain : {T : Type 0} (xs ys zs : List (Name T)) → SamePaths xs ys → SamePaths ys zs → SamePaths xs zs
chain xs ys zs h k = IsPermutation-trans (entered xs) (entered ys) (entered zs) h k

to_front : {T : Type 0} (l : List (Name T)) (j : ℕ) (x d : Name T) → j < length l
    → SamePaths (x ∷ l) (get_or l j d ∷ set l j x)
to_front [] j x d h = absurd (omega arith)
to_front (y ∷ l) zero x d h = turn x y l
to_front (y ∷ l) (suc j) x d h =
    let z = get_or l j d in
    let m = set l j x in
    chain (x ∷ y ∷ l) (y ∷ x ∷ l) (z ∷ y ∷ m) (turn x y l)
    (chain (y ∷ x ∷ l) (y ∷ z ∷ m) (z ∷ y ∷ m) (skip y (x ∷ l) (z ∷ m) (to_front l j x d (omega arith))) (turn y z m))

exchanged : {T : Type 0} (l : List (Name T)) (i j : ℕ) (d : Name T) → i < length l → j < length l
    → SamePaths l (set (set l i (get_or l j d)) j (get_or l i d))
exchanged [] i j d p q = absurd (omega arith)
exchanged (x ∷ l) zero zero d p q = IsPermutation-refl (entered (x ∷ l))
exchanged (x ∷ l) zero (suc j) d p q = to_front l j x d (omega arith)
exchanged (x ∷ l) (suc i) zero d p q = to_front l i x d (omega arith)
exchanged (x ∷ l) (suc i) (suc j) d p q = skip x l (set (set l i (get_or l j d)) j (get_or l i d))
    (exchanged l i j d (omega arith) (omega arith))

swapped : {T : Type 0} (l : List (Name T)) (i j : ℕ) → i < length l → j < length l → SamePaths l (swap l i j)
swapped [] i j p q = IsPermutation-refl []
swapped (x ∷ l) i j p q = exchanged (x ∷ l) i j x p q

pub entered_moved : {T : Type 0} (xs ys : List (Name T)) → IsPermutation xs ys
    → IsPermutation (entered xs) (entered ys)
entered_moved {T} xs ys = IsPermutation-keeps xs (λ (l : List (Name T)). SamePaths xs l)
    (IsPermutation-refl (entered xs))
    (λ l i j p q h. chain xs l (swap l i j) h (swapped l i j p q)) ys
