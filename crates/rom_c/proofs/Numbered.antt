-- The numbers of the nodes of all names, as they are written and sorted.
use Rattle.std.proofs.Common.{◌≡◌, ℕ, ◌+◌, ◌<◌, ◌≤◌, ◌==◌, cond, List, [], ◌∷◌, ◌++◌, length, map, refl, sym, ap, ◌∙◌}
use Rattle.std.proofs.Common.{arith, append_assoc, append-nil}
use Rattle.std.proofs.lemmas.List.{take_all, take_more_set}
use Rattle.std.proofs.lemmas.List.Sums.{sum_by-cons}
use Rattle.std.proofs.lemmas.List.Sorted.{sum_by-IsPermutation}
use Rattle.std.specs.Prelude.{take, set}
use Rattle.std.specs.List.{count_by}
use Rattle.std.specs.List.Sorted.{IsPermutation}
use Rattle.rom_tree.specs.Tree.{Node, ino_of, nodes}
use Rattle.rom_c.specs.Linked.{links_of}

-- the names that were counted, and those that are to come
pub counts_all : (t : Node) (xs : List Node) → xs ≡ nodes t → 0 + length xs ≡ length (nodes t)
counts_all t xs e = let k : length xs ≡ length (nodes t) = ap length e in omega (arith, k)

pub counts_one : (count : ℕ) (t x : Node) (old new : List Node) → old ≡ x ∷ new → count + length old ≡ length (nodes t)
    → (count + 1) + length new ≡ length (nodes t)
counts_one count t x old new e h = let k : length old ≡ length (x ∷ new) = ap length e in omega (arith, k, h)

pub counts_no_more : (count : ℕ) (t : Node) (old : List Node) → old ≡ [] → count + length old ≡ length (nodes t)
    → count ≡ length (nodes t)
counts_no_more count t old e h = let k : length old ≡ 0 = ap length e in omega (arith, k, h)

pub counts_room : (count : ℕ) (t x : Node) (old new : List Node) → old ≡ x ∷ new → count + length old ≡ length (nodes t)
    → count < length (nodes t)
counts_room count t x old new e h = let k : length old ≡ length (x ∷ new) = ap length e in omega (arith, k, h)

-- the numbers that were written, and those of the nodes that are to come
pub writes_all : (t : Node) (xs : List Node) (ns : List ℕ) → xs ≡ nodes t
    → take 0 ns ++ map ino_of xs ≡ map ino_of (nodes t)
writes_all t xs ns e = ap (map ino_of) e

pub writes_one : (at n : ℕ) (t x : Node) (old new : List Node) (ns : List ℕ) → old ≡ x ∷ new → ino_of x ≡ n
    → at < length ns → take at ns ++ map ino_of old ≡ map ino_of (nodes t)
    → take (at + 1) (set ns at n) ++ map ino_of new ≡ map ino_of (nodes t)
writes_one at n t x old new ns e i l h =
    ap (λ (v : List ℕ). v ++ map ino_of new) (take_more_set ns at n l)
    ∙ (append_assoc (take at ns) (n ∷ []) (map ino_of new)
    ∙ (ap (λ (v : ℕ). take at ns ++ v ∷ map ino_of new) (sym i)
    ∙ (ap (λ (v : List Node). take at ns ++ map ino_of v) (sym e) ∙ h)))

pub writes_no_more : (at : ℕ) (t : Node) (old : List Node) (ns : List ℕ) → old ≡ [] → length ns ≤ at
    → take at ns ++ map ino_of old ≡ map ino_of (nodes t) → ns ≡ map ino_of (nodes t)
writes_no_more at t old ns e l h =
    sym (ap (λ (v : List Node). take at ns ++ map ino_of v) e ∙ (append-nil (take at ns) ∙ take_all at ns l)) ∙ h

-- a number occurs as often as names lead to its node
counted : (n : ℕ) (xs : List Node) → count_by (λ v. v == n) (map ino_of xs) ≡ count_by (λ x. ino_of x == n) xs
counted n [] = refl
counted n (x ∷ xs) =
    sum_by-cons (λ (v : ℕ). cond (v == n) 1 0) (ino_of x) (map ino_of xs)
    ∙ (ap (λ (k : ℕ). cond (ino_of x == n) 1 0 + k) (counted n xs)
    ∙ sym (sum_by-cons (λ (y : Node). cond (ino_of y == n) 1 0) x xs))

pub sorted_links : (t : Node) (ns sorted : List ℕ) (n : ℕ) → ns ≡ map ino_of (nodes t) → IsPermutation ns sorted
    → count_by (λ v. v == n) sorted ≡ links_of t n
sorted_links t ns sorted n e p =
    sum_by-IsPermutation (λ (v : ℕ). cond (v == n) 1 0) ns sorted p
    ∙ (ap (count_by (λ (v : ℕ). v == n)) e ∙ counted n (nodes t))
