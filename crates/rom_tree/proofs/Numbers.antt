-- Whether a number is that of one of the nodes, and offsets in a row.
use Rattle.std.proofs.Common.{◌≡◌, ℕ, zero, suc, ◌+◌, ◌<◌, Bool, true, false, eqb, List, [], ◌∷◌, ◌++◌, length, get_or}
use Rattle.std.proofs.Common.{Some, IsSome, refl, sym, ap, ◌∙◌, arith, rules, if◌then◌else◌}
use Rattle.std.proofs.lemmas.Bool.{false≢true}
use Rattle.std.specs.Prelude.{find, IsTrue, ◌↔◌}
use Rattle.rom_tree.specs.Tree.{Node, nodes, ino_of, node_at, row_from}

-- whether one of the nodes has this number
abbrev pub among : ℕ → List Node → Bool
among n [] = false
among n (x ∷ xs) = if eqb (ino_of x) n then true else among n xs

pub among_append : (n : ℕ) (xs ys : List Node) → among n (xs ++ ys) ≡ (if among n xs then true else among n ys)
among_append n [] ys = refl
among_append n (x ∷ xs) ys = elim (eqb (ino_of x) n) as
    (λ v. (if v then true else among n (xs ++ ys)) ≡ (if (if v then true else among n xs) then true else among n ys)) [
      | true ↦ refl
      | false ↦ among_append n xs ys
    ]

among_some : (n : ℕ) (xs : List Node) → among n xs ≡ true → IsSome (find (λ x. eqb (ino_of x) n) xs)
among_some n [] h = absurd (false≢true h)
among_some n (x ∷ xs) h = elim (eqb (ino_of x) n) as
    (λ v. (if v then true else among n xs) ≡ true → IsSome (if v then Some x else find (λ y. eqb (ino_of y) n) xs)) [
      | true ↦ λ e. search rules
      | false ↦ λ e. among_some n xs e
    ] h

some_among : (n : ℕ) (xs : List Node) → IsSome (find (λ x. eqb (ino_of x) n) xs) → among n xs ≡ true
some_among n [] h = absurd (search rules)
some_among n (x ∷ xs) h = elim (eqb (ino_of x) n) as
    (λ v. IsSome (if v then Some x else find (λ y. eqb (ino_of y) n) xs) → (if v then true else among n xs) ≡ true) [
      | true ↦ λ e. refl
      | false ↦ λ e. some_among n xs e
    ] h

-- a number names a node if one has it
pub among_decides : (t : Node) (n : ℕ) (v : Bool) → v ≡ among n (nodes t) → IsTrue v ↔ IsSome (node_at t n)
unfolding node_at
among_decides t n v e = ((λ h. among_some n (nodes t) (sym e ∙ h)), (λ h. e ∙ some_among n (nodes t) h))

pub length_row : (p k : ℕ) → length (row_from p k) ≡ k
length_row p zero = refl
length_row p (suc k) = ap suc (length_row (p + 1) k)

pub row_at : (p k j : ℕ) → j < k → get_or (row_from p k) j 0 ≡ p + j
row_at p zero j h = absurd (omega arith)
row_at p (suc k) zero h = omega arith
row_at p (suc k) (suc j) h = let e : (p + 1) + j ≡ p + suc j = omega arith in row_at (p + 1) k j (omega arith) ∙ e
