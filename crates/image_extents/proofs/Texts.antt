-- The texts of extents, piece by piece.
use Rattle.std.proofs.Common.{◌≡◌, ◌≢◌, ◌≤◌, ◌<◌, ℕ, zero, suc, ◌+◌, ◌-◌, List, [], ◌∷◌, ◌++◌, length, take, drop}
use Rattle.std.proofs.Common.{get_or}
use Rattle.std.proofs.Common.{refl, sym, ap, ◌∙◌, arith, rules, tests, true, false, nat_lt, append_assoc, append-nil}
use Rattle.std.proofs.Common.{max}
use Rattle.std.proofs.Common.{Bool, ◌==◌, flat_map, if◌then◌else◌}
use Rattle.std.proofs.lemmas.Bool.{ne_eqb, eq-eqb, eqb-true, true≢false}
use Rattle.std.specs.Prelude.{slice_get, Option, Some, None}
use Rattle.image_extents.specs.declared.extent.Record.{Record}
use Rattle.image_extents.specs.declared.extent.Extent.{Extent}
use Rattle.image_extents.specs.declared.extent.Extents.{Extents}
use Rattle.image_extents.specs.Listed.{path_in, path_of, name_in}
use Rattle.image_extents.specs.Lines.{between, range_text, address_of, rest_word, all_zero, lines_from, reach_after}
use Rattle.image_extents.specs.Lines.{have_owner, lines_as, lines_by, owners, piece, run_text}

lt_is : (a b : ℕ) → a < b → nat_lt a b ≡ true
lt_is a b h = search (rules, tests)

le_is : (a b : ℕ) → b ≤ a → nat_lt a b ≡ false
le_is a b h = search (rules, tests)

pub between_some : (base : ℕ) (b : List ℕ) (from to : ℕ) → from < to → between base b from to
    ≡ range_text (address_of base from) (to - from) (rest_word (take (to - from) (drop from b))) ++ 45 ∷ 10 ∷ []
unfolding between
between_some base b from to h = rw (lt_is from to h) refl

pub between_none : (base : ℕ) (b : List ℕ) (from to : ℕ) → to ≤ from → between base b from to ≡ []
unfolding between
between_none base b from to h = rw (le_is from to h) refl

-- one byte more
zero_next : (xs : List ℕ) (i : ℕ) → i < length xs → get_or xs i 0 ≡ 0
    → all_zero (drop (suc i) xs) ≡ all_zero (drop i xs)
zero_next [] i h e = absurd (omega (arith, h))
zero_next (x ∷ xs) zero h e = rw (eq-eqb x 0 e) refl
zero_next (x ∷ xs) (suc i) h e = zero_next xs i (omega (arith, h)) e

pub zero_more : (xs : List ℕ) (i : ℕ) → i < length xs → get_or xs i 0 ≡ 0
    → all_zero (drop (i + 1) xs) ≡ all_zero (drop i xs)
zero_more xs i h e =
    let n : i + 1 ≡ suc i = omega arith in ap (λ (k : ℕ). all_zero (drop k xs)) n ∙ zero_next xs i h e

pub zero_less : (xs : List ℕ) (i : ℕ) → i < length xs → get_or xs i 0 ≢ 0 → all_zero (drop i xs) ≡ false
zero_less [] i h e = absurd (omega (arith, h))
zero_less (x ∷ xs) zero h e = rw (ne_eqb x 0 e) refl
zero_less (x ∷ xs) (suc i) h e = zero_less xs i (omega (arith, h)) e

pub zero_end : (xs : List ℕ) (i : ℕ) → length xs ≤ i → all_zero (drop i xs) ≡ true
zero_end [] zero h = refl
zero_end [] (suc i) h = refl
zero_end (x ∷ xs) zero h = absurd (omega (arith, h))
zero_end (x ∷ xs) (suc i) h = zero_end xs i (omega (arith, h))

-- where the last of some extents begins
abbrev pub before_after : Option ℕ → List Extent → Option ℕ
before_after before [] = before
before_after before (x ∷ xs) = before_after (Some x.start) xs

-- one extent more
pub lines_push : (base : ℕ) (e : Extents) (reach : ℕ) (before : Option ℕ) (xs : List Extent) (x : Extent)
    → lines_from base e reach before (xs ++ x ∷ []) ≡ lines_from base e reach before xs
    ++ piece base e (reach_after reach xs) (before_after before xs) x
lines_push base e reach before [] x = append-nil _
lines_push base e reach before (y ∷ ys) x =
    ap (λ (v : List ℕ). piece base e reach before y ++ v)
    (lines_push base e (max reach (y.start + y.len)) (Some y.start) ys x)
    ∙ sym (append_assoc (piece base e reach before y)
    (lines_from base e (max reach (y.start + y.len)) (Some y.start) ys)
    (piece base e (reach_after (max reach (y.start + y.len)) ys) (before_after (Some y.start) ys) x))

pub before_push : (before : Option ℕ) (xs : List Extent) (x : Extent)
    → before_after before (xs ++ x ∷ []) ≡ Some x.start
before_push before [] x = refl
before_push before (y ∷ ys) x = before_push (Some y.start) ys x

pub reach_push : (reach : ℕ) (xs : List Extent) (x : Extent)
    → reach_after reach (xs ++ x ∷ []) ≡ max (reach_after reach xs) (x.start + x.len)
reach_push reach [] x = refl
reach_push reach (y ∷ ys) x = reach_push (max reach (y.start + y.len)) ys x

-- paths
pub no_record : (rs : List Record) (i : ℕ) → length rs ≤ i → slice_get rs i ≡ None
no_record [] zero h = refl
no_record [] (suc i) h = refl
no_record (x ∷ xs) zero h = absurd (omega (arith, h))
no_record (x ∷ xs) (suc i) h = no_record xs i (omega (arith, h))

a_record : (rs : List Record) (i : ℕ) (d : Record) → i < length rs → slice_get rs i ≡ Some (get_or rs i d)
a_record [] i d h = absurd (omega (arith, h))
a_record (x ∷ xs) zero d h = refl
a_record (x ∷ xs) (suc i) d h = a_record xs i d (omega (arith, h))

pub path_root : (b : List ℕ) (rs : List Record) (most i : ℕ) → i ≡ 0 → path_in b rs most i ≡ []
path_root b rs zero i e = refl
path_root b rs (suc most) i e = rw (eq-eqb i 0 e) refl

pub path_out : (b : List ℕ) (rs : List Record) (most i : ℕ) → i ≢ 0 → length rs ≤ i → path_in b rs most i ≡ []
path_out b rs zero i n h = refl
path_out b rs (suc most) i n h = rw (ne_eqb i 0 n, no_record rs i h) refl

pub path_more : (b : List ℕ) (rs : List Record) (most i : ℕ) (d : Record) → most ≢ 0 → i ≢ 0 → i < length rs
    → path_in b rs most i ≡ path_in b rs (most - 1) (get_or rs i d).directory ++ 47 ∷ name_in b (get_or rs i d)
path_more b rs zero i d m n h = absurd (m refl)
path_more b rs (suc most) i d m n h =
    let e : most ≡ suc most - 1 = omega arith in
    rw (ne_eqb i 0 n, a_record rs i d h)
    (ap (λ (k : ℕ). path_in b rs k (get_or rs i d).directory ++ 47 ∷ name_in b (get_or rs i d)) e)

pub path_slash : (b : List ℕ) (rs : List Record) (i : ℕ) → i ≡ 0 → path_of b rs i ≡ 47 ∷ []
path_slash b rs i e = rw (eq-eqb i 0 e) refl

pub path_below : (b : List ℕ) (rs : List Record) (i : ℕ) → i ≢ 0 → path_of b rs i ≡ path_in b rs 65 i
path_below b rs i n = rw (ne_eqb i 0 n) refl

-- all of a list, taken
all_of : (xs : List Extent) (i : ℕ) → length xs ≤ i → take i xs ≡ xs
all_of [] zero h = refl
all_of [] (suc i) h = refl
all_of (x ∷ xs) zero h = absurd (omega (arith, h))
all_of (x ∷ xs) (suc i) h = ap (λ (v : List Extent). x ∷ v) (all_of xs i (omega (arith, h)))

pub taken_all : (xs ys : List Extent) (i : ℕ) → ys ≡ xs → length ys ≤ i → take i xs ≡ xs
taken_all xs ys i e h = all_of xs i (let l = ap length e in omega (arith, h, l))

-- one owner more
owner_next : (o : ℕ) (xs : List Extent) (i : ℕ) (d : Extent) → i < length xs → (get_or xs i d).owner ≡ o
    → have_owner o (drop (suc i) xs) ≡ have_owner o (drop i xs)
owner_next o [] i d h e = absurd (omega (arith, h))
owner_next o (x ∷ xs) zero d h e = rw (eq-eqb x.owner o e) refl
owner_next o (x ∷ xs) (suc i) d h e = owner_next o xs i d (omega (arith, h)) e

pub owner_more : (o : ℕ) (xs : List Extent) (i : ℕ) (d : Extent) → i < length xs → (get_or xs i d).owner ≡ o
    → have_owner o (drop (i + 1) xs) ≡ have_owner o (drop i xs)
owner_more o xs i d h e =
    let n : i + 1 ≡ suc i = omega arith in
    ap (λ (k : ℕ). have_owner o (drop k xs)) n ∙ owner_next o xs i d h e

pub owner_less : (o : ℕ) (xs : List Extent) (i : ℕ) (d : Extent) → i < length xs → (get_or xs i d).owner ≢ o
    → have_owner o (drop i xs) ≡ false
owner_less o [] i d h e = absurd (omega (arith, h))
owner_less o (x ∷ xs) zero d h e = rw (ne_eqb x.owner o e) refl
owner_less o (x ∷ xs) (suc i) d h e = owner_less o xs i d (omega (arith, h)) e

pub owner_end : (o : ℕ) (xs : List Extent) (i : ℕ) → length xs ≤ i → have_owner o (drop i xs) ≡ true
owner_end o [] zero h = refl
owner_end o [] (suc i) h = refl
owner_end o (x ∷ xs) zero h = absurd (omega (arith, h))
owner_end o (x ∷ xs) (suc i) h = owner_end o xs i (omega (arith, h))

-- a list of one
pub one_of : (xs : List Extent) (i : ℕ) (d : Extent) → i < length xs → take (i + 1 - i) (drop i xs) ≡ get_or xs i d ∷ []
one_of xs i d h =
    let z : i + 1 - i ≡ 1 = omega arith in
    ap (λ (v : ℕ). take v (drop i xs)) z ∙ one xs i d h
  where
    one : (xs : List Extent) (i : ℕ) (d : Extent) → i < length xs → take 1 (drop i xs) ≡ get_or xs i d ∷ []
    one [] i d h = absurd (omega (arith, h))
    one (x ∷ xs) zero d h = refl
    one (x ∷ xs) (suc i) d h = one xs i d (omega (arith, h))

-- the lines of the extents that begin at one offset: of none, of one record, of several
pub run_none : (base : ℕ) (e : Extents) (at : Option ℕ) (xs : List Extent) → (length xs == 0) ≡ true
    → [] ≡ run_text base e at xs
unfolding run_text
run_none base e at [] h = refl
run_none base e at (x ∷ xs) h = let l = eqb-true (length (x ∷ xs)) 0 h in absurd (omega (arith, l))

pub run_one : (base : ℕ) (e : Extents) (at : Option ℕ) (xs : List Extent) (d : Extent) → (length xs == 0) ≡ false
    → have_owner (get_or xs 0 d).owner xs ≡ true
    → flat_map (lines_as base e at xs) (owners e (get_or xs 0 d)) ≡ run_text base e at xs
unfolding run_text
run_one base e at [] d h o = absurd (true≢false h)
run_one base e at (x ∷ xs) d h o =
    ap (λ (v : Bool). if v then lines_by base e at (x ∷ xs) x
    else flat_map (λ y. lines_by base e at (y ∷ []) y) (x ∷ xs)) (sym o)

pub run_many : (base : ℕ) (e : Extents) (at : Option ℕ) (xs : List Extent) (d : Extent) → (length xs == 0) ≡ false
    → have_owner (get_or xs 0 d).owner xs ≡ false
    → flat_map (λ y. lines_by base e at (y ∷ []) y) xs ≡ run_text base e at xs
unfolding run_text
run_many base e at [] d h o = absurd (true≢false h)
run_many base e at (x ∷ xs) d h o =
    ap (λ (v : Bool). if v then lines_by base e at (x ∷ xs) x
    else flat_map (λ y. lines_by base e at (y ∷ []) y) (x ∷ xs)) (sym o)
