-- The bytes that extents leave, which are sorted by their starts, one extent after the other.
use Rattle.std.proofs.Common.{◌≡◌, ℕ, zero, suc, ◌+◌, ◌-◌, ◌<◌, ◌≤◌, min, max, true, false, List, [], ◌∷◌, length, drop}
use Rattle.std.proofs.Common.{get_or, inl, inr, refl, ap, ◌∙◌, arith}
use Rattle.std.proofs.lemmas.Bool.{cases_lt, lt-ltb, le-ltb}
use Rattle.std.proofs.lemmas.List.{drop_more, drop_all, length-drop, get_or-drop, get_or_default}
use Rattle.std.proofs.lemmas.List.Elements.{recursion_from_All}
use Rattle.std.proofs.lemmas.List.Sorted.{list_any-IsPermutation}
use Rattle.std.proofs.Common.{IsPermutation}
use Rattle.std.specs.List.{AllByRecursion as Every}
use Rattle.std.specs.List.Sorted.{IsNonDecreasingBy}
use Rattle.rom_fields.specs.declared.span.Span.{Span}
use Rattle.rom_fields.specs.declared.span.Extent.TheVariants.{Super}
use Rattle.image_info.specs.Unused.{is_in, is_used, unused}

before : (q : ℕ) (x : Span) → q < x.start → is_in q x ≡ false
before q x l = rw (lt-ltb q x.start l) refl

behind : (q : ℕ) (x : Span) → x.start + x.len ≤ q → is_in q x ≡ false
behind q x l = rw (le-ltb q x.start (omega arith), le-ltb q (x.start + x.len) l) refl

within : (q : ℕ) (x : Span) → x.start ≤ q → q < x.start + x.len → is_in q x ≡ true
within q x l h = rw (le-ltb q x.start l, lt-ltb q (x.start + x.len) h) refl

-- the offsets before all starts are in none
none_used : (xs : List Span) (m q : ℕ) → Every (λ (y : Span). m ≤ y.start) xs → q < m → is_used xs q ≡ false
none_used [] m q h l = refl
none_used (x ∷ xs) m q h l = let f = h.0 in rw (before q x (omega arith)) (none_used xs m q h.1 l)

all_free : (xs : List Span) (p n m : ℕ) → Every (λ (y : Span). m ≤ y.start) xs → p + n ≤ m → unused xs p n ≡ n
all_free xs p zero m h l = refl
all_free xs p (suc n) m h l =
    let r = all_free xs (suc p) n m h (omega arith) in rw (none_used xs m p h (omega arith)) (omega (arith, r))

-- the offsets of the first are used
all_used : (x : Span) (xs : List Span) (p n : ℕ) → x.start ≤ p → p + n ≤ x.start + x.len → unused (x ∷ xs) p n ≡ 0
all_used x xs p zero l h = refl
all_used x xs p (suc n) l h = rw (within p x l (omega arith), all_used x xs (suc p) n (omega arith) (omega arith)) refl

-- the first has no offset from its end on
first_done : (x : Span) (xs : List Span) (p n : ℕ) → (0 < n → x.start + x.len ≤ p) → unused (x ∷ xs) p n ≡ unused xs p n
first_done x xs p zero l = refl
first_done x xs p (suc n) l =
    let h = l (omega arith) in rw (behind p x h, first_done x xs (suc p) n (λ k. omega arith)) refl

split : (xs : List Span) (p m n : ℕ) → unused xs p (m + n) ≡ unused xs p m + unused xs (p + m) n
split xs p zero n =
    let y : p + 0 ≡ p = omega arith in
    let z : 0 + n ≡ n = omega arith in
    let e : unused xs (p + 0) n ≡ unused xs p n = ap (λ (v : ℕ). unused xs v n) y in
    let k : unused xs p (0 + n) ≡ unused xs p n = ap (unused xs p) z in
    omega (arith, e, k)
split xs p (suc m) n =
    let h = split xs (suc p) m n in
    let z : suc m + n ≡ suc (m + n) = omega arith in
    let k : unused xs p (suc m + n) ≡ unused xs p (suc (m + n)) = ap (unused xs p) z in
    let y : p + suc m ≡ suc p + m = omega arith in
    let e : unused xs (p + suc m) n ≡ unused xs (suc p + m) n = ap (λ (v : ℕ). unused xs v n) y in
    omega (arith, h, k, e)

-- from p on, m offsets, and then n more
parts : (xs : List Span) (p m n all : ℕ) → all ≡ m + n → unused xs p all ≡ unused xs p m + unused xs (p + m) n
parts xs p m n all e = ap (unused xs p) e ∙ split xs p m n

weaker : (xs : List Span) (m n : ℕ) → n ≤ m → Every (λ (y : Span). m ≤ y.start) xs
    → Every (λ (y : Span). n ≤ y.start) xs
weaker [] m n l h = tt
weaker (x ∷ xs) m n l h = let f = h.0 in (omega arith, weaker xs m n l h.1)

-- one extent further, if what is before reach is looked at
pub one_further : (x : Span) (xs : List Span) (reach size : ℕ) → reach ≤ size
    → Every (λ (y : Span). x.start ≤ y.start) xs
    → unused (x ∷ xs) reach (size - reach)
    ≡ (min x.start size - reach) + unused xs (max reach (min (x.start + x.len) size))
    (size - max reach (min (x.start + x.len) size))
one_further x xs reach size h up = elim (cases_lt x.start size) [
  | inr l ↦
      let s : min x.start size ≡ size = grind arith in
      let e : max reach (min (x.start + x.len) size) ≡ size = grind arith in
      let z : size - size ≡ 0 = omega arith in
      let f = all_free (x ∷ xs) reach (size - reach) size (l, weaker xs x.start size l up) (omega arith) in
      rw (s, e, z) (omega (arith, f))
  | inl l ↦
      let s : min x.start size ≡ x.start = grind arith in
      elim (cases_lt x.start reach) [
        | inl m ↦ elim (cases_lt reach (x.start + x.len)) [
          | inl r ↦
              let e : ℕ = min (x.start + x.len) size in
              let f : max reach e ≡ e = grind arith in
              let w : reach ≤ e = grind arith in
              let y : e ≤ size = grind arith in
              let u : e ≤ x.start + x.len = grind arith in
              let v : 0 < size - e → x.start + x.len ≤ e = λ k. grind arith in
              let t = parts (x ∷ xs) reach (e - reach) (size - e) (size - reach) (omega arith) in
              let a = all_used x xs reach (e - reach) (omega arith) (omega arith) in
              let g : reach + (e - reach) ≡ e = omega arith in
              let d = first_done x xs e (size - e) v in
              let i : unused (x ∷ xs) (reach + (e - reach)) (size - e) ≡ unused xs e (size - e) = rw g d in
              rw (s, f) (omega (arith, t, a, i, m))
          | inr r ↦
              let f : max reach (min (x.start + x.len) size) ≡ reach = grind arith in
              let d = first_done x xs reach (size - reach) (λ k. r) in
              rw (s, f) (omega (arith, d, m))
        ]
        | inr m ↦
            let e : ℕ = min (x.start + x.len) size in
            let f : max reach e ≡ e = grind arith in
            let w : x.start ≤ e = grind arith in
            let y : e ≤ size = grind arith in
            let u : e ≤ x.start + x.len = grind arith in
            let v : 0 < size - e → x.start + x.len ≤ e = λ k. grind arith in
            let t = parts (x ∷ xs) reach (x.start - reach) (size - x.start) (size - reach) (omega arith) in
            let free = all_free (x ∷ xs) reach (x.start - reach) x.start (omega arith, up) (omega arith) in
            let g : reach + (x.start - reach) ≡ x.start = omega arith in
            let t2 = parts (x ∷ xs) x.start (e - x.start) (size - e) (size - x.start) (omega arith) in
            let a = all_used x xs x.start (e - x.start) (omega arith) (omega arith) in
            let k : x.start + (e - x.start) ≡ e = omega arith in
            let d = first_done x xs e (size - e) v in
            let i : unused (x ∷ xs) (x.start + (e - x.start)) (size - e) ≡ unused xs e (size - e) = rw k d in
            let j : unused (x ∷ xs) (reach + (x.start - reach)) (size - x.start)
            ≡ unused (x ∷ xs) x.start (size - x.start) = rw g refl in
            rw (s, f) (omega (arith, t, free, t2, a, i, j))
      ]
]

-- what was left before reach, and what is left from there on, are all
pub record Left (xs : List Span) (i left reach size : ℕ) : Type 0 where
  pub within : reach ≤ size
  pub few : left ≤ reach
  pub all : left + unused (drop i xs) reach (size - reach) ≡ unused xs 0 size

abbrev pub blank : Span
blank = record { kind = Super; start = 0; len = 0 }

-- the extents behind the i-th start no earlier
later : (xs : List Span) (i : ℕ) → IsNonDecreasingBy (λ (x : Span). x.start) xs → i < length xs
    → Every (λ (y : Span). (get_or xs i blank).start ≤ y.start) (drop (i + 1) xs)
later xs i up l = recursion_from_All (λ (y : Span). (get_or xs i blank).start ≤ y.start) (drop (i + 1) xs)
    (λ j d m. let e = get_or-drop (i + 1) xs j d in let n = length-drop (i + 1) xs in rw
    (e, get_or_default xs i blank d l) (up i (i + 1 + j) d (omega arith) (omega arith)))

pub left_more : (xs : List Span) (i left reach size now far : ℕ) → IsNonDecreasingBy (λ (x : Span). x.start) xs
    → i < length xs → Left xs i left reach size
    → now ≡ left + (min (get_or xs i blank).start size - reach)
    → far ≡ max reach (min ((get_or xs i blank).start + (get_or xs i blank).len) size)
    → Left xs (i + 1) now far size
left_more xs i left reach size now far up l w e f =
    let x : Span = get_or xs i blank in
    let h = w.within in
    let k = w.few in
    let all = w.all in
    let d : unused (drop i xs) reach (size - reach) ≡ unused (x ∷ drop (i + 1) xs) reach (size - reach) =
    ap (λ (v : List Span). unused v reach (size - reach)) (drop_more xs i blank l) in
    let o = one_further x (drop (i + 1) xs) reach size h (later xs i up l) in
    record {
      within = rw f (grind arith);
      few = rw (e, f) (grind arith);
      all = rw (e, f) (omega (arith, all, d, o));
    }

-- at the end
pub left_done : (xs : List Span) (i left reach size : ℕ) → length xs ≤ i → Left xs i left reach size
    → left + (size - reach) ≡ unused xs 0 size
left_done xs i left reach size l w =
    let e : drop i xs ≡ [] = drop_all i xs l in
    let n : unused [] reach (size - reach) ≡ size - reach =
    all_free [] reach (size - reach) size tt (let h = w.within in omega arith) in
    let a = w.all in
    let d : unused (drop i xs) reach (size - reach) ≡ unused [] reach (size - reach) =
    ap (λ (v : List Span). unused v reach (size - reach)) e in
    omega (arith, a, n, d)

-- the order does not matter
pub unused_permuted : (xs ys : List Span) (p n : ℕ) → IsPermutation xs ys → unused xs p n ≡ unused ys p n
unused_permuted xs ys p zero h = refl
unused_permuted xs ys p (suc n) h =
    let e = list_any-IsPermutation (is_in p) xs ys h in
    let r = unused_permuted xs ys (suc p) n h in
    rw (e, r) refl
