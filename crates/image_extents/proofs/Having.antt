-- The extents that begin where the last one begins are all that have the byte.
use Rattle.std.proofs.Common.{◌≡◌, ◌≤◌, ◌<◌, ◌⊎◌, ℕ, zero, suc, ◌+◌, ◌==◌, Bool, true, false, List, [], ◌∷◌, ◌++◌}
use Rattle.std.proofs.Common.{length, max, nat_lt, refl, sym, ap, subst, ◌∙◌, arith, inl, inr, get_or, if◌then◌else◌}
use Rattle.std.proofs.Common.{rules, tests, eqb-true, Option, None, Some}
use Rattle.std.proofs.lemmas.Bool.{cases_lt, eq-eqb, true≢false}
use Rattle.std.proofs.lemmas.Grind.{flat_map-append}
use Rattle.std.specs.List.{AllByRecursion as Every, Contains, flat_map}
use Rattle.std.specs.List.Sorted.{IsNonDecreasingBy}
use Rattle.std.specs.Prelude.{nat_le}
use Rattle.image_extents.specs.declared.extent.Extent.{Extent}
use Rattle.image_extents.specs.declared.extent.Extents.{Extents}
use Rattle.image_extents.specs.Apart.{AreApart, Covers}
use Rattle.image_extents.specs.Complete.{Finds, IsPlain, Owning, has_byte, having, owning_line}
use Rattle.image_extents.specs.Lines.{have_owner, line_of, lines_as, lines_by, owners, run_text, starting}
use Rattle.image_extents.specs.Sorted.{start_of}
use Rattle.image_extents.specs.Which.{at_text, is_inside, last_begun, later, lines_after, offset_of, which_text}
use Rattle.image_extents.proofs.Named.{contains_more}
use Rattle.image_extents.proofs.Owners.{lt_is}
use Rattle.image_extents.proofs.Shares.{Inside}

-- ---- members

abbrev pub In : {X : Type 0} → X → List X → Type 0
In x [] = ⊥
In x (y ∷ ys) = (y ≡ x) ⊎ In x ys

pub in_at : {X : Type 0} (x : X) (xs : List X) (k : ℕ) → k < length xs → get_or xs k x ≡ x → In x xs
in_at x [] k l e = absurd (omega (arith, l))
in_at x (y ∷ ys) zero l e = inl e
in_at x (y ∷ ys) (suc k) l e = inr (in_at x ys k (omega (arith, l)) e)

pub to_in : {X : Type 0} (x : X) (xs : List X) → Contains xs x → In x xs
to_in x xs c = in_at x xs c.0 c.1 c.2

pub from_in : {X : Type 0} (x : X) (xs : List X) → In x xs → Contains xs x
from_in x [] h = absurd h
from_in x (y ∷ ys) (inl e) = (0, omega arith, e)
from_in x (y ∷ ys) (inr h) = contains_more x y ys (from_in x ys h)

pub in_left : {X : Type 0} (x : X) (xs ys : List X) → In x xs → In x (xs ++ ys)
in_left x [] ys h = absurd h
in_left x (z ∷ zs) ys (inl e) = inl e
in_left x (z ∷ zs) ys (inr h) = inr (in_left x zs ys h)

pub in_right : {X : Type 0} (x : X) (xs ys : List X) → In x ys → In x (xs ++ ys)
in_right x [] ys h = h
in_right x (z ∷ zs) ys h = inr (in_right x zs ys h)

pub in_parts : {X : Type 0} (x : X) (xs ys : List X) → In x (xs ++ ys) → In x xs ⊎ In x ys
in_parts x [] ys h = inr h
in_parts x (z ∷ zs) ys (inl e) = inl (inl e)
in_parts x (z ∷ zs) ys (inr h) = elim (in_parts x zs ys h) [ inl k ↦ inl (inr k) | inr k ↦ inr k ]

every_in : {X : Type 0} (P : X → Type 0) (xs : List X) → Every P xs → (x : X) → In x xs → P x
every_in P [] h x i = absurd i
every_in P (y ∷ ys) h x (inl e) = subst P e h.0
every_in P (y ∷ ys) h x (inr i) = every_in P ys h.1 x i

-- ---- tests

le_is_true : (a b : ℕ) → a ≤ b → nat_le a b ≡ true
le_is_true a b h = search (rules, tests)

le_is_false : (a b : ℕ) → b < a → nat_le a b ≡ false
le_is_false a b h = search (rules, tests)

lt_is_false : (a b : ℕ) → b ≤ a → nat_lt a b ≡ false
lt_is_false a b h = search (rules, tests)

le_true : (a b : ℕ) → nat_le a b ≡ true → a ≤ b
le_true a b h = elim (cases_lt b a) [ inl l ↦ absurd (true≢false (sym h ∙ le_is_false a b l)) | inr l ↦ l ]

le_false : (a b : ℕ) → nat_le a b ≡ false → b < a
le_false a b h = elim (cases_lt b a) [ inl l ↦ l | inr l ↦ absurd (true≢false (sym (le_is_true a b l) ∙ h)) ]

lt_true : (a b : ℕ) → nat_lt a b ≡ true → a < b
lt_true a b h = elim (cases_lt a b) [ inl l ↦ l | inr l ↦ absurd (true≢false (sym h ∙ lt_is_false a b l)) ]

has_true : (at : ℕ) (x : Extent) → Covers x at → has_byte at x ≡ true
has_true at x c = rw (le_is_true x.start at c.0) (lt_is at (x.start + x.len) c.1)

true_has : (at : ℕ) (x : Extent) → has_byte at x ≡ true → Covers x at
true_has at x h = by (nat_le x.start at) refl h
  where
    by : (v : Bool) → nat_le x.start at ≡ v → (if v then nat_lt at (x.start + x.len) else false) ≡ true → Covers x at
    by true e h = (le_true x.start at e, lt_true at (x.start + x.len) h)
    by false e h = absurd (true≢false (sym h))

-- ---- the last extent that begins at the offset or before it

abbrev IsLast : ℕ → List Extent → Option Extent → Type 0
IsLast at xs None = (y : Extent) → In y xs → at < y.start
IsLast at xs (Some x) = In x xs × (x.start ≤ at) × ((y : Extent) → In y xs → y.start ≤ at → y.start ≤ x.start)

tail_up : (x : Extent) (xs : List Extent) → IsNonDecreasingBy start_of (x ∷ xs) → IsNonDecreasingBy start_of xs
tail_up x xs h = λ i j d le l. h (suc i) (suc j) d (omega (arith, le)) (omega (arith, l))

head_low : (x : Extent) (xs : List Extent) → IsNonDecreasingBy start_of (x ∷ xs) → (y : Extent) → In y xs
    → x.start ≤ y.start
head_low x xs h y i =
    let c = from_in y xs i in
    let l = c.1 in
    let s : x.start ≤ (get_or xs c.0 y).start = h 0 (suc c.0) y (omega arith) (omega (arith, l)) in
    subst (λ (v : Extent). x.start ≤ v.start) c.2 s

last_by : (at : ℕ) (x : Extent) (xs : List Extent) → IsNonDecreasingBy start_of (x ∷ xs) → (v : Bool)
    → nat_le x.start at ≡ v → (o : Option Extent) → IsLast at xs o → IsLast at (x ∷ xs) (if v then later o x else o)
last_by at x xs up true e None h = (inl refl, le_true x.start at e, low)
  where
    low : (y : Extent) → In y (x ∷ xs) → y.start ≤ at → y.start ≤ x.start
    low y (inl i) l = let z = ap start_of i in omega (arith, z)
    low y (inr i) l = let z = h y i in absurd (omega (arith, z, l))
last_by at x xs up true e (Some z) h = (inr h.0, h.1, low)
  where
    low : (y : Extent) → In y (x ∷ xs) → y.start ≤ at → y.start ≤ z.start
    low y (inl i) l = let s = head_low x xs up z h.0 in let k = ap start_of i in omega (arith, s, k)
    low y (inr i) l = h.2 y i l
last_by at x xs up false e None h = low
  where
    low : (y : Extent) → In y (x ∷ xs) → at < y.start
    low y (inl i) = let s = le_false x.start at e in let k = ap start_of i in omega (arith, s, k)
    low y (inr i) = h y i
last_by at x xs up false e (Some z) h = (inr h.0, h.1, low)
  where
    low : (y : Extent) → In y (x ∷ xs) → y.start ≤ at → y.start ≤ z.start
    low y (inl i) l = let s = le_false x.start at e in let k = ap start_of i in absurd (omega (arith, s, k, l))
    low y (inr i) l = h.2 y i l

last_is : (at : ℕ) (xs : List Extent) → IsNonDecreasingBy start_of xs → IsLast at xs (last_begun at xs)
last_is at [] up = λ y h. absurd h
last_is at (x ∷ xs) up =
    last_by at x xs up (nat_le x.start at) refl (last_begun at xs) (last_is at xs (tail_up x xs up))

-- ---- those that begin there, and those that have the byte

same_test : (c d : Bool) → (c ≡ true → d ≡ true) → (d ≡ true → c ≡ true) → c ≡ d
same_test true d f g = sym (f refl)
same_test false true f g = g refl
same_test false false f g = refl

same_parts : (c d : Bool) → c ≡ d → (x : Extent) (xs ys : List Extent) → xs ≡ ys
    → (if c then x ∷ xs else xs) ≡ (if d then x ∷ ys else ys)
same_parts true true e x xs ys h = ap (λ (v : List Extent). x ∷ v) h
same_parts false false e x xs ys h = h
same_parts true false e x xs ys h = absurd (true≢false e)
same_parts false true e x xs ys h = absurd (true≢false (sym e))

same_lists : (s at : ℕ) (xs : List Extent) → ((y : Extent) → In y xs → y.start ≡ s → Covers y at)
    → ((y : Extent) → In y xs → Covers y at → y.start ≡ s) → starting s xs ≡ having at xs
same_lists s at [] f g = refl
same_lists s at (x ∷ xs) f g = same_parts (x.start == s) (has_byte at x)
    (same_test (x.start == s) (has_byte at x) (λ e. has_true at x (f x (inl refl) (eqb-true x.start s e)))
    (λ e. eq-eqb x.start s (g x (inl refl) (true_has at x e))))
    x (starting s xs) (having at xs)
    (same_lists s at xs (λ y i. f y (inr i)) (λ y i. g y (inr i)))

-- what has the byte
having_in : (at : ℕ) (y : Extent) (xs : List Extent) → In y xs → Covers y at → In y (having at xs)
having_in at y [] h c = absurd h
having_in at y (x ∷ xs) (inl e) c =
    let d : has_byte at x ≡ true = has_true at x (subst (λ (v : Extent). Covers v at) (sym e) c) in
    subst (λ v. In y (if v then x ∷ having at xs else having at xs)) (sym d) (inl e)
having_in at y (x ∷ xs) (inr h) c = elim (has_byte at x) as (λ v. In y (if v then x ∷ having at xs else having at xs))
    [ true ↦ inr (having_in at y xs h c) | false ↦ having_in at y xs h c ]

in_having : (at : ℕ) (y : Extent) (xs : List Extent) → In y (having at xs) → In y xs × Covers y at
in_having at y [] h = absurd h
in_having at y (x ∷ xs) h = by (has_byte at x) refl (in_having at y xs) h
  where
    by : (v : Bool) → has_byte at x ≡ v → (In y (having at xs) → In y xs × Covers y at)
        → In y (if v then x ∷ having at xs else having at xs)
        → In y (x ∷ xs) × Covers y at
    by true e f (inl i) = (inl i, subst (λ (v : Extent). Covers v at) i (true_has at x e))
    by true e f (inr i) = let k = f i in (inr k.0, k.1)
    by false e f i = let k = f i in (inr k.0, k.1)

-- the extents of one start have the byte, if the last that begins before it has it
module _ (xs : List Extent) (m : ℕ) (apart : AreApart xs) (in_m : Every (Inside m) xs) where
  some_bytes : (y : Extent) → In y xs → 0 < y.len
  some_bytes y i = (every_in (Inside m) xs in_m y i).0

  same_range : (x y : Extent) (p : ℕ) → In x xs → In y xs → Covers x p → Covers y p
      → (x.start ≡ y.start) × (x.len ≡ y.len)
  same_range x y p i k c d = apart x y p (from_in x xs i) (from_in y xs k) c d

  -- the last one that begins at the byte or before it has the byte, too
  last_has : (at : ℕ) (x z : Extent) → In x xs → In z xs → Covers x at → z.start ≤ at → x.start ≤ z.start
      → Covers z at
  last_has at x z i k c le low =
      let high = c.1 in
      let some = some_bytes z k in
      let same = same_range x z z.start i k (low, omega (arith, high, le)) (omega arith, omega (arith, some)) in
      let s = same.0 in
      let n = same.1 in
      (le, omega (arith, high, s, n))

  starting_having : (at : ℕ) (z : Extent) → In z xs → Covers z at → starting z.start xs ≡ having at xs
  starting_having at z k c = same_lists z.start at xs
      (λ y i e.
      let some = some_bytes y i in
      let other = some_bytes z k in
      let same = same_range y z z.start i k (omega (arith, e), omega (arith, e, some))
      (omega arith, omega (arith, other)) in
      let s = same.0 in
      let n = same.1 in
      let low = c.0 in
      let high = c.1 in
      (omega (arith, s, low), omega (arith, s, n, high)))
      (λ y i d. (same_range y z at i k d c).0)

  pub plain : (base : ℕ) (e : Extents) (at : ℕ) → IsNonDecreasingBy start_of xs → (x : Extent) → In x xs
      → Covers x at → at_text base e at xs ≡ run_text base e (Some at) (having at xs)
  unfolding at_text
  plain base e at up x i c = by (last_begun at xs) (last_is at xs up)
    where
      by : (o : Option Extent) → IsLast at xs o
          → lines_after base e at xs o ≡ run_text base e (Some at) (having at xs)
      by None h = let low = c.0 in let z = h x i in absurd (omega (arith, low, z))
      by (Some z) h =
          let has = last_has at x z i h.0 c h.1 (h.2 x i c.0) in
          rw (lt_is at (z.start + z.len) has.1)
          (ap (run_text base e (Some at)) (starting_having at z h.0 has))

-- ---- the lines of a run

abbrev pub pair : Extent → ℕ → Owning
pair x i = record { extent = x; number = i }

abbrev as_one : List Extent → ℕ → List Owning
as_one [] i = []
as_one (x ∷ xs) i = pair x i ∷ as_one xs i

abbrev by_owner : List Extent → List ℕ → List Owning
by_owner xs [] = []
by_owner xs (i ∷ is) = as_one xs i ++ by_owner xs is

in_one : (x : Extent) (i : ℕ) (xs : List Extent) → In x xs → In (pair x i) (as_one xs i)
in_one x i [] h = absurd h
in_one x i (y ∷ ys) (inl e) = inl (ap (λ (v : Extent). pair v i) e)
in_one x i (y ∷ ys) (inr h) = inr (in_one x i ys h)

one_in : (l : Owning) (i : ℕ) (xs : List Extent) → In l (as_one xs i) → In l.extent xs × (i ≡ l.number)
one_in l i [] h = absurd h
one_in l i (y ∷ ys) (inl e) = (inl (ap (λ (v : Owning). v.extent) e), ap (λ (v : Owning). v.number) e)
one_in l i (y ∷ ys) (inr h) = let k = one_in l i ys h in (inr k.0, k.1)

in_owner : (x : Extent) (i : ℕ) (xs : List Extent) (is : List ℕ) → In x xs → In i is → In (pair x i) (by_owner xs is)
in_owner x i xs [] h k = absurd k
in_owner x i xs (j ∷ js) h (inl e) = in_left (pair x i) (as_one xs j) (by_owner xs js)
    (subst (λ (v : ℕ). In (pair x i) (as_one xs v)) (sym e) (in_one x i xs h))
in_owner x i xs (j ∷ js) h (inr k) =
    in_right (pair x i) (as_one xs j) (by_owner xs js) (in_owner x i xs js h k)

owner_in : (l : Owning) (xs : List Extent) (is : List ℕ) → In l (by_owner xs is) → In l.extent xs × In l.number is
owner_in l xs [] h = absurd h
owner_in l xs (j ∷ js) h = elim (in_parts l (as_one xs j) (by_owner xs js) h) [
  | inl k ↦ let m = one_in l j xs k in (m.0, inl m.1)
  | inr k ↦ let m = owner_in l xs js k in (m.0, inr m.1)
]

module _ (base : ℕ) (e : Extents) (at : Option ℕ) where
  one_is : (xs : List Extent) (i : ℕ) → lines_as base e at xs i ≡ flat_map (owning_line base e at) (as_one xs i)
  one_is [] i = refl
  one_is (x ∷ xs) i = ap (λ (v : List ℕ). line_of base e at x i ++ v) (one_is xs i)

  owner_is : (xs : List Extent) (is : List ℕ)
      → flat_map (lines_as base e at xs) is ≡ flat_map (owning_line base e at) (by_owner xs is)
  owner_is xs [] = refl
  owner_is xs (i ∷ is) =
      ap (λ (v : List ℕ). v ++ flat_map (lines_as base e at xs) is) (one_is xs i)
      ∙ (ap (λ (v : List ℕ). flat_map (owning_line base e at) (as_one xs i) ++ v) (owner_is xs is)
      ∙ sym (flat_map-append (owning_line base e at) (as_one xs i) (by_owner xs is)))

  -- extent by extent
  abbrev singly : List Extent → List Owning
  singly [] = []
  singly (x ∷ xs) = by_owner (x ∷ []) (owners e x) ++ singly xs

  singly_is : (xs : List Extent) → flat_map (λ y. lines_by base e at (y ∷ []) y) xs
      ≡ flat_map (owning_line base e at) (singly xs)
  singly_is [] = refl
  singly_is (x ∷ xs) =
      ap (λ (v : List ℕ). v ++ flat_map (λ y. lines_by base e at (y ∷ []) y) xs) (owner_is (x ∷ []) (owners e x))
      ∙ (ap (λ (v : List ℕ). flat_map (owning_line base e at) (by_owner (x ∷ []) (owners e x)) ++ v) (singly_is xs)
      ∙ sym (flat_map-append (owning_line base e at) (by_owner (x ∷ []) (owners e x)) (singly xs)))

  in_singly : (x : Extent) (i : ℕ) (xs : List Extent) → In x xs → In i (owners e x) → In (pair x i) (singly xs)
  in_singly x i [] h k = absurd h
  in_singly x i (y ∷ ys) (inl z) k = in_left (pair x i) (by_owner (y ∷ []) (owners e y)) (singly ys)
      (in_owner x i (y ∷ []) (owners e y) (inl z) (subst (λ (v : Extent). In i (owners e v)) (sym z) k))
  in_singly x i (y ∷ ys) (inr h) k =
      in_right (pair x i) (by_owner (y ∷ []) (owners e y)) (singly ys) (in_singly x i ys h k)

  singly_in : (l : Owning) (xs : List Extent) → In l (singly xs) → In l.extent xs × In l.number (owners e l.extent)
  singly_in l [] h = absurd h
  singly_in l (y ∷ ys) h = elim (in_parts l (by_owner (y ∷ []) (owners e y)) (singly ys) h) [
    | inl k ↦
        let m = owner_in l (y ∷ []) (owners e y) k in
        elim m.0 [ inl z ↦ (inl z, subst (λ (v : Extent). In l.number (owners e v)) z m.1) | inr z ↦ absurd z ]
    | inr k ↦ let m = singly_in l ys k in (inr m.0, m.1)
  ]

  -- extents of one record
  one_owner : (o : ℕ) (xs : List Extent) → have_owner o xs ≡ true → (y : Extent) → In y xs → y.owner ≡ o
  one_owner o [] h y i = absurd i
  one_owner o (x ∷ xs) h y i = by (x.owner == o) refl (λ k j. one_owner o xs k y j) h i
    where
      by : (v : Bool) → (x.owner == o) ≡ v → (have_owner o xs ≡ true → In y xs → y.owner ≡ o)
          → (if v then have_owner o xs else false) ≡ true → In y (x ∷ xs) → y.owner ≡ o
      by true z f k (inl j) = ap (λ (v : Extent). v.owner) (sym j) ∙ eqb-true x.owner o z
      by true z f k (inr j) = f k j
      by false z f k j = absurd (true≢false (sym k))

  pub record AreRun (xs : List Extent) (text : List ℕ) : Type 0 where
    pub lines : List Owning
    pub is : text ≡ flat_map (owning_line base e at) lines
    pub sound : (l : Owning) → In l lines → In l.extent xs × In l.number (owners e l.extent)
    pub whole : (x : Extent) (i : ℕ) → In x xs → In i (owners e x) → In (pair x i) lines

  same_owners : (x y : Extent) → y.owner ≡ x.owner → owners e y ≡ owners e x
  same_owners x y z = ap (λ (v : ℕ). owners e (record {
    kind = x.kind;
    start = x.start;
    len = x.len;
    offset = x.offset;
    owner = v;
  })) z

  pub run_lines : (xs : List Extent) → AreRun xs (run_text base e at xs)
  unfolding run_text
  run_lines [] = record { lines = []; is = refl; sound = λ l h. absurd h; whole = λ x i h k. absurd h }
  run_lines (x ∷ xs) = by (have_owner x.owner (x ∷ xs)) refl
    where
      ys : List Extent
      ys = x ∷ xs

      by : (v : Bool) → have_owner x.owner ys ≡ v
          → AreRun ys (if v then lines_by base e at ys x else flat_map (λ y. lines_by base e at (y ∷ []) y) ys)
      by true z = record {
        lines = by_owner ys (owners e x);
        is = owner_is ys (owners e x);
        sound = λ l h.
            let m = owner_in l ys (owners e x) h in (
              m.0,
              subst (λ (v : List ℕ). In l.number v)
                  (sym (same_owners x l.extent (one_owner x.owner ys z l.extent m.0))) m.1,
            );
        whole = λ y i h k. in_owner y i ys (owners e x) h
            (subst (λ (v : List ℕ). In i v) (same_owners x y (one_owner x.owner ys z y h)) k);
      }
      by false z = record {
        lines = singly ys;
        is = singly_is ys;
        sound = λ l h. singly_in l ys h;
        whole = λ y i h k. in_singly y i ys h k;
      }

-- ---- `which`

pub plain_which : (base file : ℕ) (e : Extents) → IsNonDecreasingBy start_of e.extents.items
    → AreApart e.extents.items → Every (Inside (length e.bytes.now)) e.extents.items → IsPlain base file e
unfolding which_text
plain_which base file e up apart in_m address x c d =
    let at : ℕ = offset_of base address in
    let n : ℕ = length e.bytes.now in
    let i = to_in x e.extents.items c in
    let within = (every_in (Inside n) e.extents.items in_m x i).1 in
    let high = d.1 in
    let there : at < n = omega (arith, within, high) in
    let inside : is_inside base file e address ≡ true = lt_is at (max n file) (grind (arith, there)) in
    rw (inside, lt_is at n there) (plain e.extents.items n apart in_m base e at up x i d)

pub which_finds : (base file : ℕ) (e : Extents) → IsNonDecreasingBy start_of e.extents.items
    → AreApart e.extents.items → Every (Inside (length e.bytes.now)) e.extents.items → Finds base file e
which_finds base file e up apart in_m address x c d =
    let at : ℕ = offset_of base address in
    let xs : List Extent = having at e.extents.items in
    let r = run_lines base e (Some at) xs in
    record {
      lines = r.lines;
      is = plain_which base file e up apart in_m address x c d ∙ r.is;
      sound = λ l h.
          let s = r.sound l (to_in l r.lines h) in
          let k = in_having at l.extent e.extents.items s.0 in (
            from_in l.extent e.extents.items k.0,
            k.1,
            from_in l.number (owners e l.extent) s.1,
          );
      whole = λ l h k m. from_in l r.lines (r.whole l.extent l.number
          (having_in at l.extent e.extents.items (to_in l.extent e.extents.items h) k)
          (to_in l.number (owners e l.extent) m));
    }
