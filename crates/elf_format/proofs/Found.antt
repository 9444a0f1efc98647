-- The first of some values of a function that passes a test.
use Rattle.std.proofs.Common.{◌≡◌, ℕ, ◌<◌, ◌≤◌, Bool, true, false, map, length, get_or, take, arith, ap, sym, ◌∙◌}
use Rattle.std.proofs.Common.{Some, None}
use Rattle.std.specs.List.{find, position_or_len, prefix_len, range_with_len, slice_get, take_while}
use Rattle.std.proofs.lemmas.List.Folds.{find_at}
use Rattle.std.proofs.lemmas.List.FromFn.{get_or-map-range_with_len, length-map-range_with_len, take-map-range_with_len}
use Rattle.std.proofs.lemmas.List.Sums.{position_or_len_is, prefix_len_is}
use Rattle.std.proofs.lemmas.Option.{slice_get-get_or, slice_get_past}

value_at : {X : Type 0} (f : ℕ → X) (n k : ℕ) (d : X) → k < n → get_or (map f (range_with_len 0 n)) k d ≡ f k
value_at f n k d s = get_or-map-range_with_len f 0 n k k d s (omega arith)

pub found : {X : Type 0} (f : ℕ → X) (t : X → Bool) (n i : ℕ) → i < n → ((k : ℕ) → k < i → t (f k) ≡ false)
    → t (f i) ≡ true → find t (map f (range_with_len 0 n)) ≡ Some (f i)
found f t n i s before here =
    let xs = map f (range_with_len 0 n) in
    let d = f i in
    let l : length xs ≡ n = length-map-range_with_len f 0 n in
    let p : position_or_len t xs ≡ i =
    position_or_len_is t xs i d (omega arith)
    (λ (k : ℕ) (r : k < i). ap t (value_at f n k d (omega arith)) ∙ before k r)
    (λ (r : i < length xs). ap t (value_at f n i d s) ∙ here) in
    find_at t xs ∙ (ap (slice_get xs) p ∙ (slice_get-get_or xs i d (omega arith) ∙ ap Some (value_at f n i d s)))

pub not_found : {X : Type 0} (f : ℕ → X) (t : X → Bool) (n : ℕ) (d : X) → ((k : ℕ) → k < n → t (f k) ≡ false)
    → find t (map f (range_with_len 0 n)) ≡ None
not_found f t n d none =
    let xs = map f (range_with_len 0 n) in
    let l : length xs ≡ n = length-map-range_with_len f 0 n in
    let p : position_or_len t xs ≡ n =
    position_or_len_is t xs n d (omega arith)
    (λ (k : ℕ) (r : k < n). ap t (value_at f n k d r) ∙ none k r) (λ (r : n < length xs). absurd (omega arith)) in
    find_at t xs ∙ (ap (slice_get xs) p ∙ slice_get_past xs n (omega arith))

-- the values before the first that fails it
pub kept : {X : Type 0} (f : ℕ → X) (t : X → Bool) (n i : ℕ) (d : X) → i ≤ n → ((k : ℕ) → k < i → t (f k) ≡ true)
    → (i < n → t (f i) ≡ false) → map f (range_with_len 0 i) ≡ take_while t (map f (range_with_len 0 n))
kept f t n i d s before here =
    let xs = map f (range_with_len 0 n) in
    let l : length xs ≡ n = length-map-range_with_len f 0 n in
    let p : prefix_len t xs ≡ i =
    prefix_len_is t xs i d (omega arith)
    (λ (k : ℕ) (r : k < i). ap t (value_at f n k d (omega arith)) ∙ before k r)
    (λ (r : i < length xs). ap t (value_at f n i d (omega arith)) ∙ here (omega arith)) in
    sym (ap (λ (m : ℕ). take m xs) p ∙ take-map-range_with_len f 0 n i s)
