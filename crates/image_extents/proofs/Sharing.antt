-- Records with the same block pointers: what `next` leads to, and what a map of tables holds.
use Rattle.std.proofs.Common.{◌≡◌, ◌≢◌, ◌≤◌, ◌<◌, ◌==◌, ℕ, zero, suc, ◌+◌, ◌-◌, Bool, true, false, List, [], ◌∷◌}
use Rattle.std.proofs.Common.{Option, None, Some, length, map, take, drop, get_or, ◌++◌, if◌then◌else◌, cond}
use Rattle.std.proofs.Common.{refl, sym, ap, subst, ◌∙◌, arith, inl, inr, eqb-true}
use Rattle.std.proofs.lemmas.Bool.{true≢false, cases_lt, cases_eq, ne_eqb, eq-eqb}
use Rattle.std.specs.Ordering.{is_eq, nat_cmp, ordering_then}
use Rattle.std.specs.declared.cmp.Ordering.{Ordering}
use Rattle.std.specs.declared.cmp.Ordering.TheVariants.{Less, Equal, Greater}
use Rattle.std.specs.List.{AllByRecursion as Every, Contains}
use Rattle.std.specs.Prelude.{slice_get, slice_set, replicate}
use Rattle.record_forest.proofs.Lists.{every_weaker}
use Rattle.image_extents.specs.declared.extent.Record.{Record}
use Rattle.image_extents.specs.Tables.{is_table, first_with, first_as, nexts, no_next, inner, led, is_at, is_first}
use Rattle.image_extents.specs.Tables.{table_by}
use Rattle.image_extents.specs.Tables.{pair_cmp}
use Rattle.image_extents.proofs.Owners.{lt_is, le_is}

pub none_some : {X : Type 0} (x : X) → None ≡ Some x → ⊥
none_some x e = absurd (cc)

pub some_is : {X : Type 0} (x y : X) → Some x ≡ Some y → x ≡ y
some_is x y e = cc

if_true : (c d : Bool) → (if c then d else false) ≡ true → (c ≡ true) × (d ≡ true)
if_true true d h = (refl, h)
if_true false d h = absurd (true≢false (sym h))

pub table_is : (t : ℕ × ℕ) (u : Option (ℕ × ℕ)) → is_table t u ≡ true → u ≡ Some t
table_is t None h = absurd (true≢false (sym h))
table_is t (Some u) h =
    let s = if_true (t.0 == u.0) (t.1 == u.1) h in
    let a : t.0 ≡ u.0 = eqb-true t.0 u.0 s.0 in
    let c : t.1 ≡ u.1 = eqb-true t.1 u.1 s.1 in
    ap (λ (v : ℕ). Some (v, u.1)) (sym a) ∙ ap (λ (v : ℕ). Some (t.0, v)) (sym c)

module _ (table : Record → Option (ℕ × ℕ)) where
  abbrev by : Option Record → Option (ℕ × ℕ)
  by = table_by table

  -- what is found is a record with these block pointers
  record IsFound (t : Option (ℕ × ℕ)) (n k : ℕ) (xs : List Record) : Type 0 where
    pub low : n ≤ k
    pub is : by (slice_get xs (k - n)) ≡ t

  shifted : (t : Option (ℕ × ℕ)) (n k : ℕ) (x : Record) (xs : List Record) → IsFound t (suc n) k xs
      → IsFound t n k (x ∷ xs)
  shifted t n k x xs f =
      let low = f.low in
      let z : k - n ≡ suc (k - suc n) = omega (arith, low) in
      record {
        low = omega (arith, low);
        is = ap (λ (v : ℕ). by (slice_get (x ∷ xs) v)) z ∙ f.is;
      }

  found_by : (v : Bool) (t : ℕ × ℕ) (n k : ℕ) (x : Record) (xs : List Record) → is_table t (table x) ≡ v
      → (first_with table t (suc n) xs ≡ Some k → IsFound (Some t) (suc n) k xs)
      → first_with table t n (x ∷ xs) ≡ Some k → IsFound (Some t) n k (x ∷ xs)
  found_by true t n k x xs e later h =
      let same : n ≡ k = some_is n k (sym (rw e refl) ∙ h) in
      let z : k - n ≡ 0 = omega (arith, same) in
      record {
        low = omega (arith, same);
        is = ap (λ (v : ℕ). by (slice_get (x ∷ xs) v)) z ∙ table_is t (table x) e;
      }
  found_by false t n k x xs e later h = shifted (Some t) n k x xs (later (sym (rw e refl) ∙ h))

  first_found : (t : ℕ × ℕ) (n k : ℕ) (xs : List Record) → first_with table t n xs ≡ Some k → IsFound (Some t) n k xs
  first_found t n k [] h = absurd (none_some k h)
  first_found t n k (x ∷ xs) h =
      found_by (is_table t (table x)) t n k x xs refl (first_found t (suc n) k xs) h

  as_found : (t : Option (ℕ × ℕ)) (n k : ℕ) (xs : List Record) → first_as table t n xs ≡ Some k → IsFound t n k xs
  as_found None n k xs h = absurd (none_some k h)
  as_found (Some t) n k xs h = first_found t n k xs h

  -- a next record has the same block pointers
  next_found : (n k i : ℕ) (xs : List Record) → inner (slice_get (nexts table n xs) i) ≡ Some k
      → IsFound (by (slice_get xs i)) n k xs
  next_found n k zero [] h = absurd (none_some k h)
  next_found n k (suc i) [] h = absurd (none_some k h)
  next_found n k zero (x ∷ xs) h = shifted (table x) n k x xs (as_found (table x) (suc n) k xs h)
  next_found n k (suc i) (x ∷ xs) h =
      shifted (by (slice_get xs i)) n k x xs (next_found (suc n) k i xs h)

  pub next_same : (k i : ℕ) (xs : List Record) → inner (slice_get (nexts table 0 xs) i) ≡ Some k
      → by (slice_get xs k) ≡ by (slice_get xs i)
  next_same k i xs h =
      let f = next_found 0 k i xs h in
      let z : k - 0 ≡ k = omega arith in
      ap (λ (v : ℕ). by (slice_get xs v)) (sym z) ∙ f.is

  abbrev Same : List Record → ℕ → ℕ → Type 0
  Same rs j i = by (slice_get rs i) ≡ by (slice_get rs j)

  led_on : (rs : List Record) (next : List (Option ℕ)) (most j : ℕ) (o : Option ℕ)
      → ((k : ℕ) → o ≡ Some k → Same rs j k)
      → ((k : ℕ) → Every (Same rs k) (led next most (Some k))) → Every (Same rs j) (led next most o)
  led_on rs next zero j None same rest = tt
  led_on rs next (suc most) j None same rest = tt
  led_on rs next most j (Some k) same rest =
      every_weaker (Same rs k) (Same rs j) (λ i s. s ∙ same k refl) (led next most (Some k)) (rest k)

  -- all to which a record leads have its block pointers
  pub led_same : (rs : List Record) (next : List (Option ℕ)) → next ≡ nexts table 0 rs → (most j : ℕ)
      → Every (λ (i : ℕ). by (slice_get rs i) ≡ by (slice_get rs j)) (led next most (Some j))
  led_same rs next is zero j = tt
  led_same rs next is (suc most) j = (
    refl,
    led_on rs next most j (inner (slice_get next j))
        (λ k e. next_same k j rs (ap (λ (v : List (Option ℕ)). inner (slice_get v j)) (sym is) ∙ e))
        (λ k. led_same rs next is most k),
  )

  -- ---- all with these block pointers

  abbrev nothing : List Record
  nothing = []

  none_at : (m : ℕ) → slice_get nothing m ≡ None
  none_at zero = refl
  none_at (suc m) = refl

  pub is_itself : (t : ℕ × ℕ) → is_table t (Some t) ≡ true
  is_itself t = rw (eq-eqb t.0 t.0 refl, eq-eqb t.1 t.1 refl) refl

  -- the first one is there, and not after another one
  record IsLeast (t : ℕ × ℕ) (n i : ℕ) (xs : List Record) : Type 0 where
    pub first : ℕ
    pub is : first_with table t n xs ≡ Some first
    pub low : first ≤ i

  least_by : (v : Bool) (t : ℕ × ℕ) (n i : ℕ) (x : Record) (xs : List Record) → is_table t (table x) ≡ v → n ≤ i
      → by (slice_get (x ∷ xs) (i - n)) ≡ Some t
      → (suc n ≤ i → by (slice_get xs (i - suc n)) ≡ Some t → IsLeast t (suc n) i xs) → IsLeast t n i (x ∷ xs)
  least_by true t n i x xs e le has later = record { first = n; is = rw e refl; low = le }
  least_by false t n i x xs e le has later = elim (cases_lt n i) [
    | inl l ↦
        let z : i - n ≡ suc (i - suc n) = omega (arith, l) in
        let f = later (omega (arith, l)) (sym (ap (λ (v : ℕ). by (slice_get (x ∷ xs) v)) z) ∙ has) in
        record { first = f.first; is = rw e f.is; low = f.low }
    | inr l ↦
        let z : i - n ≡ 0 = omega (arith, l) in
        let here : table x ≡ Some t = sym (ap (λ (v : ℕ). by (slice_get (x ∷ xs) v)) z) ∙ has in
        absurd (true≢false (sym (is_itself t) ∙ sym (ap (is_table t) here) ∙ e))
  ]

  least : (t : ℕ × ℕ) (n i : ℕ) (xs : List Record) → n ≤ i → by (slice_get xs (i - n)) ≡ Some t → IsLeast t n i xs
  least t n i [] le has = absurd (none_some t (sym (ap by (none_at (i - n))) ∙ has))
  least t n i (x ∷ xs) le has = least_by (is_table t (table x)) t n i x xs refl le has (least t (suc n) i xs)

  -- the next one is there, and not after another one
  record IsNext (t : ℕ × ℕ) (n j i : ℕ) (xs : List Record) : Type 0 where
    pub next : ℕ
    pub is : inner (slice_get (nexts table n xs) j) ≡ Some next
    pub after : n + j < next
    pub low : next ≤ n + i

  next_of : (t : ℕ × ℕ) (n j i : ℕ) (xs : List Record) → by (slice_get xs j) ≡ Some t → by (slice_get xs i) ≡ Some t
      → j < i → IsNext t n j i xs
  next_of t n j i [] h k l = absurd (none_some t (sym (ap by (none_at j)) ∙ h))
  next_of t n j zero (x ∷ xs) h k l = absurd (omega (arith, l))
  next_of t n zero (suc i) (x ∷ xs) h k l =
      let z : n + suc i - suc n ≡ i = omega arith in
      let f = least t (suc n) (n + suc i) xs (omega arith) (ap (λ (v : ℕ). by (slice_get xs v)) z ∙ k) in
      let is : first_as table (table x) (suc n) xs ≡ Some f.first =
      ap (λ (v : Option (ℕ × ℕ)). first_as table v (suc n) xs) h ∙ f.is in
      let found = first_found t (suc n) f.first xs f.is in
      let low = found.low in
      record { next = f.first; is = is; after = omega (arith, low); low = f.low }
  next_of t n (suc j) (suc i) (x ∷ xs) h k l =
      let f = next_of t (suc n) j i xs h k (omega (arith, l)) in
      let after = f.after in
      let low = f.low in
      record { next = f.next; is = f.is; after = omega (arith, after); low = omega (arith, low) }

  one_more : (xs : List ℕ) (j i : ℕ) → Contains xs i → Contains (j ∷ xs) i
  one_more xs j i c = let l = c.1 in (suc c.0, omega (arith, l), c.2)

  -- all records with these block pointers from j on, up to the most-th
  pub led_all : (rs : List Record) (next : List (Option ℕ)) → next ≡ nexts table 0 rs → (t : ℕ × ℕ) (most j i : ℕ)
      → by (slice_get rs j) ≡ Some t → by (slice_get rs i) ≡ Some t → j ≤ i → i < j + most
      → Contains (led next most (Some j)) i
  led_all rs next is t zero j i h k le l = absurd (omega (arith, le, l))
  led_all rs next is t (suc most) j i h k le l = elim (cases_eq j i) [
    | inl e ↦ (0, omega arith, e)
    | inr n ↦
        let after : j < i = omega (arith, le, n) in
        let f = next_of t 0 j i rs h k after in
        let there : inner (slice_get next j) ≡ Some f.next =
        ap (λ (v : List (Option ℕ)). inner (slice_get v j)) is ∙ f.is in
        let same : by (slice_get rs f.next) ≡ Some t = next_same f.next j rs f.is ∙ h in
        let low = f.low in
        let up = f.after in
        one_more (led next most (inner (slice_get next j))) j i
        (subst (λ (v : Option ℕ). Contains (led next most v) i) (sym there)
        (led_all rs next is t most f.next i same k (omega (arith, low)) (omega (arith, l, up))))
  ]

  -- a record that is the first with its block pointers is not after another one with them
  pub first_low : (rs : List Record) (n : ℕ) (x : Record) → is_first table rs n x ≡ true → (t : ℕ × ℕ) (i : ℕ)
      → table x ≡ Some t → by (slice_get rs i) ≡ Some t → n ≤ i
  first_low rs n x h t i e k =
      let z : i - 0 ≡ i = omega arith in
      let f = least t 0 i rs (omega arith) (ap (λ (v : ℕ). by (slice_get rs v)) z ∙ k) in
      let is : first_as table (table x) 0 rs ≡ Some f.first =
      ap (λ (v : Option (ℕ × ℕ)). first_as table v 0 rs) e ∙ f.is in
      let same : f.first ≡ n = eqb-true f.first n (sym (ap (is_at n) is) ∙ h) in
      let low = f.low in
      omega (arith, same, low)

-- ---- a map from block pointers to the first record with them

eq_cmp : (a c : ℕ) → is_eq (nat_cmp a c) ≡ (c == a)
eq_cmp a c = elim (cases_lt a c) [
  | inl l ↦
      let apart : c ≢ a = λ e. absurd (omega (arith, l, e)) in
      rw (lt_is a c l, ne_eqb c a apart) refl
  | inr l ↦ elim (cases_eq a c) [
    | inl e ↦ rw (le_is a c l, eq-eqb a c e, eq-eqb c a (sym e)) refl
    | inr n ↦ let apart : c ≢ a = λ e. n (sym e) in rw (le_is a c l, ne_eqb a c n, ne_eqb c a apart) refl
  ]
]

then_is : (x y : Ordering) → is_eq (ordering_then x y) ≡ (if is_eq x then is_eq y else false)
then_is Less y = refl
then_is Equal y = refl
then_is Greater y = refl

cmp_is : (u t : ℕ × ℕ) → is_eq (pair_cmp u t) ≡ is_table t (Some u)
cmp_is u t =
    then_is (nat_cmp u.0 t.0) (nat_cmp u.1 t.1)
    ∙ ap (λ (v : Bool). if v then is_eq (nat_cmp u.1 t.1) else false) (eq_cmp u.0 t.0)
    ∙ ap (λ (v : Bool). if t.0 == u.0 then v else false) (eq_cmp u.1 t.1)

cond_is : (c : Bool) (x y : Option ℕ) → cond c x y ≡ (if c then x else y)
cond_is true x y = refl
cond_is false x y = refl

-- a record more at the front
pub first_more : (table : Record → Option (ℕ × ℕ)) (u t : ℕ × ℕ) (k : ℕ) (x : Record) (xs : List Record)
    (was is : Option ℕ) → table x ≡ Some u → was ≡ first_with table t (suc k) xs
    → is ≡ cond (is_eq (pair_cmp u t)) (Some k) was → is ≡ first_with table t k (x ∷ xs)
first_more table u t k x xs was is e w i =
    i ∙ ap (λ (v : Bool). cond v (Some k) was) (cmp_is u t)
    ∙ ap (λ (v : Option (ℕ × ℕ)). cond (is_table t v) (Some k) was) (sym e)
    ∙ cond_is (is_table t (table x)) (Some k) was
    ∙ ap (λ (v : Option ℕ). if is_table t (table x) then Some k else v) w

pub first_other : (table : Record → Option (ℕ × ℕ)) (t : ℕ × ℕ) (k : ℕ) (x : Record) (xs : List Record)
    → table x ≡ None → first_with table t (suc k) xs ≡ first_with table t k (x ∷ xs)
first_other table t k x xs e =
    sym (ap (λ (v : Option (ℕ × ℕ)). if is_table t v then Some k else first_with table t (suc k) xs) e)

pub next_more : (table : Record → Option (ℕ × ℕ)) (u : ℕ × ℕ) (k : ℕ) (x : Record) (xs : List Record)
    (o : Option ℕ) (later : List (Option ℕ)) → table x ≡ Some u → o ≡ first_with table u (suc k) xs
    → later ≡ nexts table (suc k) xs → o ∷ later ≡ nexts table k (x ∷ xs)
next_more table u k x xs o later e w l =
    ap (λ (v : Option ℕ). v ∷ later) (w ∙ sym (ap (λ (v : Option (ℕ × ℕ)). first_as table v (suc k) xs) e))
    ∙ ap (λ (v : List (Option ℕ)). first_as table (table x) (suc k) xs ∷ v) l

pub next_other : (table : Record → Option (ℕ × ℕ)) (k : ℕ) (x : Record) (xs : List Record) (later : List (Option ℕ))
    → table x ≡ None → later ≡ nexts table (suc k) xs → None ∷ later ≡ nexts table k (x ∷ xs)
next_other table k x xs later e l =
    ap (λ (v : Option ℕ). v ∷ later) (sym (ap (λ (v : Option (ℕ × ℕ)). first_as table v (suc k) xs) e))
    ∙ ap (λ (v : List (Option ℕ)). first_as table (table x) (suc k) xs ∷ v) l

pub drop_at : {X : Type 0} (xs : List X) (k : ℕ) (d : X) → k < length xs
    → drop k xs ≡ get_or xs k d ∷ drop (suc k) xs
drop_at [] k d h = absurd (omega (arith, h))
drop_at (x ∷ xs) zero d h = refl
drop_at (x ∷ xs) (suc k) d h = drop_at xs k d (omega (arith, h))

-- where no record leads to another one
nothing_next : (rs : List Record) (j : ℕ) → inner (slice_get (map no_next rs) j) ≡ None
nothing_next [] zero = refl
nothing_next [] (suc j) = refl
nothing_next (x ∷ xs) zero = refl
nothing_next (x ∷ xs) (suc j) = nothing_next xs j

led_nowhere : (next : List (Option ℕ)) (most j : ℕ) (o : Option ℕ) → o ≡ None
    → Every (λ (i : ℕ). i ≡ j) (led next most o)
led_nowhere next zero j None e = tt
led_nowhere next (suc most) j None e = tt
led_nowhere next most j (Some k) e = absurd (none_some k (sym e))

pub led_alone : (rs : List Record) (next : List (Option ℕ)) → next ≡ map no_next rs → (most j : ℕ)
    → Every (λ (i : ℕ). i ≡ j) (led next most (Some j))
led_alone rs next is zero j = tt
led_alone rs next is (suc most) j = (
  refl,
  led_nowhere next most j (inner (slice_get next j))
      (ap (λ (v : List (Option ℕ)). inner (slice_get v j)) is ∙ nothing_next rs j),
)

take_nothing : (n : ℕ) → take {A = Option ℕ} n [] ≡ []
take_nothing zero = refl
take_nothing (suc n) = refl

pub resized : (n len : ℕ) (xs : List (Option ℕ)) → len ≡ 0 → xs ≡ []
    → take n xs ++ replicate (n - len) None ≡ replicate n None
resized n len xs z e =
    let m : n - len ≡ n = omega (arith, z) in
    ap (λ (v : List (Option ℕ)). take n v ++ replicate (n - len) None) e
    ∙ ap (λ (v : List (Option ℕ)). v ++ replicate (n - len) None) (take_nothing n)
    ∙ ap (λ (v : ℕ). replicate v None) m

pub none_in : (n i : ℕ) → get_or {A = Option ℕ} (replicate n None) i None ≡ None
none_in zero i = refl
none_in (suc n) zero = refl
none_in (suc n) (suc i) = none_in n i

pub any_next : (xs : List (Option ℕ)) (i : ℕ) (a b : Option ℕ) → i < length xs → get_or xs i a ≡ get_or xs i b
any_next [] i a b h = absurd (omega (arith, h))
any_next (x ∷ xs) zero a b h = refl
any_next (x ∷ xs) (suc i) a b h = any_next xs i a b (omega (arith, h))

pub set_other : (xs : List (Option ℕ)) (k i : ℕ) (v d : Option ℕ) → i < k
    → get_or (slice_set xs k v) i d ≡ get_or xs i d
set_other [] k i v d h = refl
set_other (x ∷ xs) zero i v d h = absurd (omega (arith, h))
set_other (x ∷ xs) (suc k) zero v d h = refl
set_other (x ∷ xs) (suc k) (suc i) v d h = set_other xs k i v d (omega (arith, h))

pub drop_set : (xs : List (Option ℕ)) (k : ℕ) (v : Option ℕ) → k < length xs
    → drop k (slice_set xs k v) ≡ v ∷ drop (suc k) xs
drop_set [] k v h = absurd (omega (arith, h))
drop_set (x ∷ xs) zero v h = refl
drop_set (x ∷ xs) (suc k) v h = drop_set xs k v (omega (arith, h))

pub length_set : (xs : List (Option ℕ)) (k : ℕ) (v : Option ℕ) → length (slice_set xs k v) ≡ length xs
length_set [] zero v = refl
length_set [] (suc k) v = refl
length_set (x ∷ xs) zero v = refl
length_set (x ∷ xs) (suc k) v = let h = length_set xs k v in omega (arith, h)

-- as many records as there are
pub all_alone : (rs : List Record) → replicate (length rs) None ≡ map no_next rs
all_alone [] = refl
all_alone (x ∷ xs) = ap (λ (v : List (Option ℕ)). None ∷ v) (all_alone xs)

-- ---- the lines of the records to which a record leads

-- one more
pub led_step : (next : List (Option ℕ)) (n k i : ℕ) → k < n
    → led next (n - k) (Some i) ≡ i ∷ led next (n - (k + 1)) (inner (slice_get next i))
led_step next n k i h =
    let z : n - k ≡ suc (n - (k + 1)) = omega (arith, h) in
    ap (λ (v : ℕ). led next v (Some i)) z

pub led_end : (next : List (Option ℕ)) (n k : ℕ) (o : Option ℕ) → n ≤ k → led next (n - k) o ≡ []
led_end next n k o h =
    let z : n - k ≡ 0 = omega (arith, h) in
    ap (λ (v : ℕ). led next v o) z

pub led_none : (next : List (Option ℕ)) (n : ℕ) (o : Option ℕ) → o ≡ None → led next n o ≡ []
led_none next zero o e = refl
led_none next (suc n) o e = ap (led next (suc n)) e
