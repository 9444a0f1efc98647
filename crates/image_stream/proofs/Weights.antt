-- One more byte in a sum of words.
use Rattle.std.proofs.Common.{◌≡◌, ℕ, ◌+◌, ◌-◌, ◌*◌, ◌%◌, ◌^◌, ◌<◌, ◌≤◌, List, [], ◌∷◌, ◌++◌, length, take, drop, refl}
use Rattle.std.proofs.Common.{ap, ◌∙◌, arith, subst, inl, inr, append_assoc, length-append, length-take}
use Rattle.std.proofs.lemmas.Bool.{lt-ltb, le-ltb, cases_lt}
use Rattle.std.proofs.lemmas.List.{take_all, take-append-drop}
use Rattle.rom_fields.specs.Sums.{balance}
use Rattle.image_stream.specs.WordSums.{weight, term, weighted, IsSum, balance_of}

weighted_last : (xs : List ℕ) (k x : ℕ) → weighted k (xs ++ x ∷ []) ≡ weighted k xs + term (k + length xs) x
weighted_last [] k x = let e : k ≡ k + 0 = omega arith in ap (λ (j : ℕ). term j x + 0) e ∙ omega arith
weighted_last (y ∷ xs) k x =
    let h = weighted_last xs (k + 1) x in
    let e : k + 1 + length xs ≡ k + length (y ∷ xs) = omega arith in
    let t = ap (λ (j : ℕ). term j x) e in
    omega arith

joined : (sum a b t : ℕ) → sum ≡ a % 2 ^ 32 → b ≡ a + t → (sum + t % 2 ^ 32) % 2 ^ 32 ≡ b % 2 ^ 32
joined sum a b t e f = omega arith

pub term_in : (k x : ℕ) → k < 512 → term k x ≡ x * weight k
term_in k x h = rw (lt-ltb k 512 h) refl

pub term_out : (k x : ℕ) → 512 ≤ k → term k x ≡ 0
term_out k x h = rw (le-ltb k 512 h) refl

pub sum_more : (place sum new : ℕ) (xs : List ℕ) (x : ℕ) → IsSum place sum xs → place < 512
    → new ≡ (sum + x * weight place % 2 ^ 32) % 2 ^ 32 → IsSum (place + 1) new (xs ++ x ∷ [])
unfolding IsSum
sum_more place sum new xs x h small e =
    let l = length-append xs (x ∷ []) in
    let p = h.0 in
    let same : 0 + length xs ≡ place = omega arith in
    let t : term (0 + length xs) x ≡ x * weight place = ap (λ (k : ℕ). term k x) same ∙ term_in place x small in
    let w = weighted_last xs 0 x in
    let q = h.1 in (
      omega arith,
      e ∙ joined sum (weighted 0 xs) (weighted 0 (xs ++ x ∷ [])) (x * weight place) q
          (w ∙ ap (λ (v : ℕ). weighted 0 xs + v) t),
    )

pub sum_full : (place sum : ℕ) (xs : List ℕ) (x : ℕ) → IsSum place sum xs → 512 ≤ place → IsSum place sum (xs ++ x ∷ [])
unfolding IsSum
sum_full place sum xs x h full =
    let l = length-append xs (x ∷ []) in
    let p = h.0 in
    let t : term (0 + length xs) x ≡ 0 = term_out (0 + length xs) x (omega arith) in
    let w = weighted_last xs 0 x in
    let z : weighted 0 xs ≡ weighted 0 (xs ++ x ∷ []) = omega arith in
    (omega arith, h.1 ∙ ap (λ (v : ℕ). v % 2 ^ 32) z)

weighted_append : (xs ys : List ℕ) (k : ℕ) → weighted k (xs ++ ys) ≡ weighted k xs + weighted (k + length xs) ys
weighted_append [] ys k = let e : k ≡ k + 0 = omega arith in ap (λ (j : ℕ). weighted j ys) e ∙ omega arith
weighted_append (x ∷ xs) ys k =
    let h = weighted_append xs ys (k + 1) in
    let e : k + 1 + length xs ≡ k + length (x ∷ xs) = omega arith in
    let t = ap (λ (j : ℕ). weighted j ys) e in
    omega arith

weighted_out : (xs : List ℕ) (k : ℕ) → 512 ≤ k → weighted k xs ≡ 0
weighted_out [] k h = refl
weighted_out (x ∷ xs) k h = let t = term_out k x h in let r = weighted_out xs (k + 1) (omega arith) in omega arith

-- no byte behind the first 512 counts
pub sum_behind : (place sum : ℕ) (xs ys : List ℕ) → 512 ≤ place → IsSum place sum xs → IsSum place sum (xs ++ ys)
unfolding IsSum
sum_behind place sum xs ys full h =
    let l = length-append xs ys in
    let p = h.0 in
    let w = weighted_append xs ys 0 in
    let o = weighted_out ys (0 + length xs) (omega arith) in
    let z : weighted 0 xs ≡ weighted 0 (xs ++ ys) = omega arith in
    (omega arith, h.1 ∙ ap (λ (v : ℕ). v % 2 ^ 32) z)

full_at : (place sum new value n : ℕ) (xs bytes : List ℕ) → IsSum place sum xs → IsSum new value (xs ++ take n bytes)
    → n < length bytes → 512 ≤ place + n → 512 ≤ new
unfolding IsSum
full_at place sum new value n xs bytes h k short most =
    let l = length-append xs (take n bytes) in
    let t = length-take n bytes in
    let p = h.0 in
    let q = k.0 in
    omega arith

-- bytes that are cut only if no further one counts
pub sum_counted : (place sum new value n : ℕ) (xs bytes : List ℕ) → (n < length bytes → 512 ≤ place + n)
    → IsSum place sum xs → IsSum new value (xs ++ take n bytes) → IsSum new value (xs ++ bytes)
sum_counted place sum new value n xs bytes most h k = elim (cases_lt n (length bytes)) [
  | inl short ↦
      let full = full_at place sum new value n xs bytes h k short (most short) in
      let all : (xs ++ take n bytes) ++ drop n bytes ≡ xs ++ bytes =
      append_assoc xs (take n bytes) (drop n bytes) ∙ ap (λ (v : List ℕ). xs ++ v) (take-append-drop n bytes) in
      let S : List ℕ → Type 0 = λ v. IsSum new value v in
      subst S all (sum_behind new value (xs ++ take n bytes) (drop n bytes) full k)
  | inr whole ↦
      let S : List ℕ → Type 0 = λ v. IsSum new value (xs ++ v) in
      subst S (take_all n bytes whole) k
]

pub place_after : (place sum : ℕ) (xs : List ℕ) → IsSum place sum xs → 512 ≤ length xs → 512 ≤ place
unfolding IsSum
place_after place sum xs h long = let p = h.0 in omega arith

pub balance_value : (place sum : ℕ) (xs : List ℕ) → IsSum place sum xs → (0 + (2 ^ 32 - sum)) % 2 ^ 32 ≡ balance_of xs
unfolding IsSum balance_of balance
balance_value place sum xs h = let e : 0 + (2 ^ 32 - sum) ≡ 2 ^ 32 - sum =
    omega arith in ap (λ (v : ℕ). v % 2 ^ 32) e ∙ ap (λ (v : ℕ). (2 ^ 32 - v) % 2 ^ 32) h.1
