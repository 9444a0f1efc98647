-- The records of an image, list by list: a stack of lists, of which the last is read next.
use Rattle.std.proofs.Common.{◌≡◌, ℕ, suc, ◌+◌, ◌*◌, List, [], ◌∷◌, ◌++◌, length, refl, sym, ap, ◌∙◌}
use Rattle.std.proofs.Common.{arith, append_assoc, append-nil}
use Rattle.std.specs.List.{AllByRecursion as Every}
use Rattle.record_forest.specs.Forest.{Forest, none, at, count}
use Rattle.image_extents.specs.declared.extent.Record.{Record}
use Rattle.image_extents.specs.declared.extent.Extent.{Extent}
use Rattle.image_extents.specs.Listed.{listed}
use Rattle.image_extents.specs.Found.{found_from}

pub every_push : {X : Type 0} (P : X → Type 0) (xs : List X) (y : X) → Every P xs → P y → Every P (xs ++ y ∷ [])
every_push P [] y h p = (p, tt)
every_push P (x ∷ xs) y h p = (h.0, every_push P xs y h.1 p)

pub every_front : {X : Type 0} (P : X → Type 0) (xs : List X) (y : X) → Every P (xs ++ y ∷ []) → Every P xs × P y
every_front P [] y h = (tt, h.0)
every_front P (x ∷ xs) y h = let t = every_front P xs y h.1 in ((h.0, t.0), t.1)

-- how many records the lists have
abbrev pub total : {X : Type 0} → (X → Forest) → List X → ℕ
total F [] = 0
total F (x ∷ xs) = count (F x) + total F xs

-- the records of the lists that are still to be read, of which the first has the number n
abbrev pub come : {X : Type 0} → (ℕ → ℕ → Record) → (X → Forest) → (X → ℕ) → ℕ → List X → List Record
come entry F D n [] = []
come entry F D n (x ∷ xs) = come entry F D n xs ++ listed entry (n + total F xs) (D x) (F x)

abbrev pub weight : {X : Type 0} → (X → Forest) → List X → ℕ
weight F [] = 0
weight F (x ∷ xs) = suc (2 * count (F x)) + weight F xs

total_push : {X : Type 0} (F : X → Forest) (xs : List X) (y : X)
    → total F (xs ++ y ∷ []) ≡ total F xs + count (F y)
total_push F [] y = omega arith
total_push F (x ∷ xs) y = let h = total_push F xs y in omega arith

pub weight_push : {X : Type 0} (F : X → Forest) (xs : List X) (y : X)
    → weight F (xs ++ y ∷ []) ≡ suc (2 * count (F y)) + weight F xs
weight_push F [] y = refl
weight_push F (x ∷ xs) y = let h = weight_push F xs y in omega arith

come_push : {X : Type 0} (entry : ℕ → ℕ → Record) (F : X → Forest) (D : X → ℕ) (n : ℕ) (xs : List X) (y : X)
    → come entry F D n (xs ++ y ∷ []) ≡ listed entry n (D y) (F y) ++ come entry F D (n + count (F y)) xs
come_push entry F D n [] y =
    let z : n + 0 ≡ n = omega arith in
    ap (λ (v : ℕ). listed entry v (D y) (F y)) z ∙ sym (append-nil (listed entry n (D y) (F y)))
come_push entry F D n (x ∷ xs) y =
    let h = come_push entry F D n xs y in
    let t = total_push F xs y in
    let m : n + total F (xs ++ y ∷ []) ≡ n + count (F y) + total F xs = omega arith in
    ap (λ (v : List Record). v ++ listed entry (n + total F (xs ++ y ∷ [])) (D x) (F x)) h
    ∙ ap (λ (v : ℕ). (listed entry n (D y) (F y) ++ come entry F D (n + count (F y)) xs)
    ++ listed entry v (D x) (F x)) m
    ∙ append_assoc (listed entry n (D y) (F y)) (come entry F D (n + count (F y)) xs)
    (listed entry (n + count (F y) + total F xs) (D x) (F x))

-- a list that is empty
pub come_none : {X : Type 0} (entry : ℕ → ℕ → Record) (F : X → Forest) (D : X → ℕ) (n : ℕ) (xs : List X) (y : X)
    → F y ≡ none → come entry F D n (xs ++ y ∷ []) ≡ come entry F D n xs
come_none entry F D n xs y e =
    let z : n + 0 ≡ n = omega arith in
    come_push entry F D n xs y
    ∙ ap (λ (f : Forest). listed entry n (D y) f ++ come entry F D (n + count f) xs) e
    ∙ ap (λ (v : ℕ). come entry F D v xs) z

-- a record, its list, and the rest of the list that it is in
pub come_step : {X : Type 0} (entry : ℕ → ℕ → Record) (F : X → Forest) (D : X → ℕ) (n : ℕ) (xs : List X) (x y z : X)
    (p : ℕ) (own after : Forest) → F x ≡ at p own after → F y ≡ after → D y ≡ D x → F z ≡ own → D z ≡ n
    → come entry F D n (xs ++ x ∷ []) ≡ entry p (D x) ∷ come entry F D (suc n) ((xs ++ y ∷ []) ++ z ∷ [])
come_step entry F D n xs x y z p own after ex ey dy ez dz =
    let L1 = listed entry (suc n) n own in
    let L2 = listed entry (suc n + count own) (D x) after in
    let m : n + suc (count own + count after) ≡ suc n + count own + count after = omega arith in
    let left : come entry F D n (xs ++ x ∷ [])
    ≡ entry p (D x) ∷ (L1 ++ (L2 ++ come entry F D (suc n + count own + count after) xs)) =
    come_push entry F D n xs x
    ∙ ap (λ (f : Forest). listed entry n (D x) f ++ come entry F D (n + count f) xs) ex
    ∙ ap (λ (v : ℕ). (entry p (D x) ∷ (L1 ++ L2)) ++ come entry F D v xs) m
    ∙ ap (λ (v : List Record). entry p (D x) ∷ v)
    (append_assoc L1 L2 (come entry F D (suc n + count own + count after) xs)) in
    let some : come entry F D (suc n + count own) (xs ++ y ∷ [])
    ≡ L2 ++ come entry F D (suc n + count own + count after) xs =
    come_push entry F D (suc n + count own) xs y
    ∙ ap (λ (f : Forest). listed entry (suc n + count own) (D y) f
    ++ come entry F D (suc n + count own + count f) xs) ey
    ∙ ap (λ (d : ℕ). listed entry (suc n + count own) d after
    ++ come entry F D (suc n + count own + count after) xs) dy in
    let right : come entry F D (suc n) ((xs ++ y ∷ []) ++ z ∷ [])
    ≡ L1 ++ come entry F D (suc n + count own) (xs ++ y ∷ []) =
    come_push entry F D (suc n) (xs ++ y ∷ []) z
    ∙ ap (λ (f : Forest). listed entry (suc n) (D z) f ++ come entry F D (suc n + count f) (xs ++ y ∷ [])) ez
    ∙ ap (λ (d : ℕ). listed entry (suc n) d own ++ come entry F D (suc n + count own) (xs ++ y ∷ [])) dz in
    left ∙ ap (λ (v : List Record). entry p (D x) ∷ v) (sym (right ∙ ap (λ (v : List Record). L1 ++ v) some))

-- the extents of one record more
pub found_push : (of : ℕ → ℕ → List Extent) (n : ℕ) (xs : List Record) (x : Record)
    → found_from of n (xs ++ x ∷ []) ≡ found_from of n xs ++ of x.offset (n + length xs)
found_push of n [] x =
    let z : n + 0 ≡ n = omega arith in append-nil (of x.offset n) ∙ ap (of x.offset) (sym z)
found_push of n (y ∷ ys) x =
    let h = found_push of (suc n) ys x in
    let m : suc n + length ys ≡ n + suc (length ys) = omega arith in
    ap (λ (v : List Extent). of y.offset n ++ v) (h ∙ ap (λ (k : ℕ). found_from of (suc n) ys ++ of x.offset k) m)
    ∙ sym (append_assoc (of y.offset n) (found_from of (suc n) ys) (of x.offset (n + suc (length ys))))

pub found_next : (of : ℕ → ℕ → List Extent) (xs : List Record) (x : Record)
    → found_from of 0 (xs ++ x ∷ []) ≡ found_from of 0 xs ++ of x.offset (length xs)
found_next of xs x =
    let z : 0 + length xs ≡ length xs = omega arith in
    found_push of 0 xs x ∙ ap (λ (k : ℕ). found_from of 0 xs ++ of x.offset k) z
