-- The extents that have a byte, in a list that rises by their starts.
use Rattle.std.proofs.Common.{◌≡◌, ◌<◌, ◌≤◌, ℕ, zero, suc, ◌+◌, ◌-◌, List, [], ◌∷◌, length, get_or, take, drop}
use Rattle.std.proofs.Common.{refl, sym, ap, ◌∙◌, ◌≢◌, arith, rules}
use Rattle.std.proofs.Common.{tests, true, false, nat_lt, inl, inr}
use Rattle.std.proofs.lemmas.Bool.{cases_lt, eq-eqb, ne_eqb}
use Rattle.std.specs.Prelude.{codes, nat_le, Some, None}
use Rattle.std.specs.List.Sorted.{IsNonDecreasingBy, IsPartitionPoint}
use Rattle.image_extents.specs.declared.extent.Extent.{Extent}
use Rattle.image_extents.specs.declared.extent.Extents.{Extents}
use Rattle.image_extents.specs.Lines.{between, run_text, starting}
use Rattle.image_extents.specs.Sorted.{start_of}
use Rattle.image_extents.specs.Which.{inside_text, is_inside, offset_of, which_text}
use Rattle.image_extents.specs.Which.{at_text, last_begun, lines_after, next_start}
use Rattle.image_extents.proofs.Chain.{any_of}

pub lt_is : (a b : ℕ) → a < b → nat_lt a b ≡ true
lt_is a b h = search (rules, tests)

pub le_is : (a b : ℕ) → b ≤ a → nat_lt a b ≡ false
le_is a b h = search (rules, tests)

lower : (a b : ℕ) → a ≤ b → nat_le a b ≡ true
lower a b h = search (rules, tests)

higher : (a b : ℕ) → b < a → nat_le a b ≡ false
higher a b h = search (rules, tests)

-- the first n extents begin before the limit, and no other does
abbrev pub Parts : List Extent → ℕ → ℕ → Type 0
Parts xs limit n = IsPartitionPoint (λ (x : Extent). x.start < limit) (λ (x : Extent). limit ≤ x.start) xs n

tail : (x : Extent) (xs : List Extent) (limit n : ℕ) → Parts (x ∷ xs) limit (suc n) → Parts xs limit n
tail x xs limit n p = (
  λ k d z l. p.0 (suc k) d (omega arith) (omega (arith, l)),
  λ k d l m. p.1 (suc k) d (omega (arith, l)) (omega (arith, m)),
)

tail_none : (x : Extent) (xs : List Extent) (limit : ℕ) → Parts (x ∷ xs) limit 0 → Parts xs limit 0
tail_none x xs limit p =
    (λ k d z l. absurd (omega (arith, l)), λ k d l m. p.1 (suc k) d (omega arith) (omega (arith, m)))

front_low : (x : Extent) (xs : List Extent) (at n : ℕ) → Parts (x ∷ xs) (at + 1) (suc n) → x.start ≤ at
front_low x xs at n p = let h = p.0 0 x (omega arith) (omega arith) in omega (arith, h)

front_high : (x : Extent) (xs : List Extent) (at : ℕ) → Parts (x ∷ xs) (at + 1) 0 → at < x.start
front_high x xs at p = let h = p.1 0 x (omega arith) (omega arith) in omega (arith, h)

-- where the next one begins
pub next_some : (xs : List Extent) (at size n : ℕ) (d : Extent) → Parts xs (at + 1) n → n < length xs
    → next_start at size xs ≡ (get_or xs n d).start
next_some [] at size n d p l = absurd (omega (arith, l))
next_some (x ∷ xs) at size zero d p l = rw (lt_is at x.start (front_high x xs at p)) refl
next_some (x ∷ xs) at size (suc n) d p l =
    rw (le_is at x.start (front_low x xs at n p)) (next_some xs at size n d (tail x xs (at + 1) n p) (omega (arith, l)))

pub next_none : (xs : List Extent) (at size n : ℕ) → Parts xs (at + 1) n → length xs ≤ n → next_start at size xs ≡ size
next_none [] at size n p l = refl
next_none (x ∷ xs) at size zero p l = absurd (omega (arith, l))
next_none (x ∷ xs) at size (suc n) p l =
    rw (le_is at x.start (front_low x xs at n p)) (next_none xs at size n (tail x xs (at + 1) n p) (omega (arith, l)))

-- the last one that begins at the offset or before it
begun_none : (xs : List Extent) (at : ℕ) → Parts xs (at + 1) 0 → last_begun at xs ≡ None
begun_none [] at p = refl
begun_none (x ∷ xs) at p = rw (higher x.start at (front_high x xs at p)) (begun_none xs at (tail_none x xs (at + 1) p))

begun_some : (xs : List Extent) (at n : ℕ) (d : Extent) → Parts xs (at + 1) (suc n) → n < length xs
    → last_begun at xs ≡ Some (get_or xs n d)
begun_some [] at n d p l = absurd (omega (arith, l))
begun_some (x ∷ xs) at zero d p l =
    rw (lower x.start at (front_low x xs at 0 p), begun_none xs at (tail x xs (at + 1) 0 p)) refl
begun_some (x ∷ xs) at (suc n) d p l =
    rw (
      lower x.start at (front_low x xs at (suc n) p),
      begun_some xs at n d (tail x xs (at + 1) (suc n) p) (omega (arith, l)),
    ) refl

-- nothing begins before the byte
pub at_none : (base : ℕ) (e : Extents) (at : ℕ) (xs : List Extent) → Parts xs (at + 1) 0
    → at_text base e at xs ≡ between base e.bytes.now 0 (next_start at (length e.bytes.now) xs)
unfolding at_text
at_none base e at xs p = ap (lines_after base e at xs) (begun_none xs at p)

at_last : (base : ℕ) (e : Extents) (at : ℕ) (xs : List Extent) (n : ℕ) (d : Extent) → Parts xs (at + 1) (suc n)
    → n < length xs → at_text base e at xs ≡ lines_after base e at xs (Some (get_or xs n d))
unfolding at_text
at_last base e at xs n d p l = ap (lines_after base e at xs) (begun_some xs at n d p l)

-- the last one that begins before the byte ends there or before it
pub at_gap : (base : ℕ) (e : Extents) (at : ℕ) (xs : List Extent) (n : ℕ) (d : Extent) → Parts xs (at + 1) (suc n)
    → n < length xs → (get_or xs n d).start + (get_or xs n d).len ≤ at
    → at_text base e at xs ≡ between base e.bytes.now ((get_or xs n d).start + (get_or xs n d).len)
    (next_start at (length e.bytes.now) xs)
at_gap base e at xs n d p l h =
    at_last base e at xs n d p l ∙ rw (le_is at ((get_or xs n d).start + (get_or xs n d).len) h) refl

pub at_owner : (base : ℕ) (e : Extents) (at : ℕ) (xs : List Extent) (n : ℕ) (d : Extent) → Parts xs (at + 1) (suc n)
    → n < length xs → at < (get_or xs n d).start + (get_or xs n d).len
    → at_text base e at xs ≡ run_text base e (Some at) (starting (get_or xs n d).start xs)
at_owner base e at xs n d p l h =
    at_last base e at xs n d p l ∙ rw (lt_is at ((get_or xs n d).start + (get_or xs n d).len) h) refl

-- ---- the extents that begin at an offset stand together

first_is : (s : ℕ) (x : Extent) (xs : List Extent) → x.start ≡ s → starting s (x ∷ xs) ≡ x ∷ starting s xs
first_is s x xs h = rw (eq-eqb x.start s h) refl

other_is : (s : ℕ) (x : Extent) (xs : List Extent) → x.start ≢ s → starting s (x ∷ xs) ≡ starting s xs
other_is s x xs h = rw (ne_eqb x.start s h) refl

take_none : (m : ℕ) → [] ≡ take {A = Extent} m []
take_none zero = refl
take_none (suc m) = refl

drop_none : (f : ℕ) → [] ≡ drop {A = Extent} f []
drop_none zero = refl
drop_none (suc f) = refl

pub starting_is : (s : ℕ) (xs : List Extent) (f n : ℕ) → Parts xs s f → Parts xs (s + 1) n
    → starting s xs ≡ take (n - f) (drop f xs)
starting_is s [] f n p q = take_none (n - f) ∙ ap (take (n - f)) (drop_none f)
starting_is s (x ∷ xs) (suc f) zero p q =
    let low = p.0 0 x (omega arith) (omega arith) in
    let high = q.1 0 x (omega arith) (omega arith) in
    absurd (omega (arith, low, high))
starting_is s (x ∷ xs) (suc f) (suc n) p q =
    let low = p.0 0 x (omega arith) (omega arith) in
    let z : n - f ≡ suc n - suc f = omega arith in
    other_is s x xs (λ e. absurd (omega (arith, low, e)))
    ∙ starting_is s xs f n (tail x xs s f p) (tail x xs (s + 1) n q)
    ∙ ap (λ (v : ℕ). take v (drop f xs)) z
starting_is s (x ∷ xs) zero (suc n) p q =
    let low = p.1 0 x (omega arith) (omega arith) in
    let high = q.0 0 x (omega arith) (omega arith) in
    let z : n - 0 ≡ n = omega arith in
    let y : suc n - 0 ≡ suc n = omega arith in
    first_is s x xs (omega (arith, low, high))
    ∙ ap (λ (v : List Extent). x ∷ v) (starting_is s xs zero n (tail_none x xs s p) (tail x xs (s + 1) n q)
    ∙ ap (λ (v : ℕ). take v xs) z)
    ∙ sym (ap (λ (v : ℕ). take v (x ∷ xs)) y)
starting_is s (x ∷ xs) zero zero p q =
    let high = q.1 0 x (omega arith) (omega arith) in
    other_is s x xs (λ e. absurd (omega (arith, high, e)))
    ∙ starting_is s xs zero zero (tail_none x xs s p) (tail_none x xs (s + 1) q)

pub first_before : (s : ℕ) (xs : List Extent) (f n : ℕ) (d : Extent) → f ≤ length xs → Parts xs s f → Parts xs (s + 1) n
    → f ≤ n
first_before s xs f n d within p q = elim (cases_lt n f) [
  | inl l ↦
      let low = p.0 n d (omega arith) l in
      let high = q.1 n d (omega arith) (omega (arith, l, within)) in
      absurd (omega (arith, low, high))
  | inr l ↦ l
]

-- the halves of a search
pub before_middle : (xs : List Extent) (limit middle : ℕ) (d : Extent) → IsNonDecreasingBy start_of xs
    → middle < length xs
    → (get_or xs middle d).start < limit → (k : ℕ) (v : Extent) → k < middle + 1 → (get_or xs k v).start < limit
before_middle xs limit middle d up m h k v l =
    let s = up k middle d (omega (arith, l)) m in
    let e : (get_or xs k d).start ≡ (get_or xs k v).start = ap start_of (any_of xs k d v (omega (arith, l, m))) in
    omega (arith, s, e, h)

pub from_middle : (xs : List Extent) (limit middle : ℕ) (d : Extent) → IsNonDecreasingBy start_of xs
    → middle < length xs
    → limit ≤ (get_or xs middle d).start → (k : ℕ) (v : Extent) → middle ≤ k → k < length xs
    → limit ≤ (get_or xs k v).start
from_middle xs limit middle d up m h k v l w =
    let s = up middle k d l w in
    let e : (get_or xs k d).start ≡ (get_or xs k v).start = ap start_of (any_of xs k d v w) in
    omega (arith, s, e, h)

-- an address inside, and one outside
pub which_in : (base file : ℕ) (e : Extents) (address : ℕ) → is_inside base file e address ≡ true
    → inside_text base file e (offset_of base address) ≡ which_text base file e address
unfolding which_text
which_in base file e address h = rw h refl

pub which_out : (base file : ℕ) (e : Extents) (address : ℕ) → is_inside base file e address ≡ false
    → codes "err ERANGE\n" ≡ which_text base file e address
unfolding which_text
which_out base file e address h = rw h refl

-- the last extent that begins before the byte, by its number
pub pred_is : (n : ℕ) → (n ≡ 0 → ⊥) → suc (n - 1) ≡ n
pred_is zero h = absurd (h refl)
pred_is (suc n) h = omega arith
