-- A property of each of the values that elements have.
use Rattle.std.proofs.Common.{◌≡◌, ◌<◌, ℕ, zero, suc, List, [], ◌∷◌, length, map, get_or, subst, sym, arith}
use Rattle.std.specs.List.{All, AllByRecursion as Every}

at_index : {A B : Type 0} (P : B → Type 0) (f : A → B) (xs : List A) (k : ℕ) (d : A) → Every P (map f xs)
    → k < length xs → P (f (get_or xs k d))
at_index P f [] k d h l = absurd (omega (arith, l))
at_index P f (x ∷ xs) zero d h l = h.0
at_index P f (x ∷ xs) (suc k) d h l = at_index P f xs k d h.1 (omega (arith, l))

-- of an element at an index
pub here : {A B : Type 0} (P : B → Type 0) (f : A → B) (xs : List A) (k : ℕ) (x : A) → Every P (map f xs)
    → k < length xs → x ≡ get_or xs k x → P (f x)
here P f xs k x h l e = subst (λ y. P (f y)) (sym e) (at_index P f xs k x h l)

-- of each element
pub each : {A B : Type 0} (P : B → Type 0) (f : A → B) (xs : List A) → Every P (map f xs) → All (λ x. P (f x)) xs
each P f xs h k d l = at_index P f xs k d h l
