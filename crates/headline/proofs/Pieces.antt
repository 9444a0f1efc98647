-- Places that follow one another are lent as a slice of the image.
use Rattle.std.proofs.Common.{◌≡◌, ◌≢◌, ℕ, zero, suc, ◌+◌, ◌-◌, ◌<◌, ◌≤◌, ◌==◌, nat_lt, Bool, true, false}
use Rattle.std.proofs.Common.{if◌then◌else◌, inl, inr, List, [], ◌∷◌, length, take, drop, map, refl, sym, ap, subst}
use Rattle.std.proofs.Common.{◌∙◌, arith, Option, Ok, Err, length-take, length-drop, min}
use Rattle.std.specs.Prelude.{slice_index}
use Rattle.std.proofs.lemmas.Bool.Decides.{eqb_tells}
use Rattle.std.proofs.lemmas.Bool.{eqb-true}
use Rattle.std.proofs.lemmas.List.{get_or-take, get_or-drop, length-map, take-take, take_all}
use Rattle.rom_tree.specs.Image.{Image, contents_of}
use Rattle.rom_tree.specs.Tree.{Node, IsIn, nodes, places_of, is_directory}
use Rattle.rom_tree.proofs.Rows.{row_bytes}
use Rattle.open_files.specs.declared.error.CallError.{CallError}
use Rattle.open_files.specs.declared.error.CallError.TheVariants.{Einval, Erange}
use Rattle.open_files.specs.Calls.{Lent, Of}
use Rattle.open_files.specs.Lending.{first_place, consecutive_from, consecutive, bytes_of, lent, next_places}
use Rattle.open_files.specs.Machine.{Outcome, file_only, lend_on, map_on, map_within, map_places}
use Rattle.headline.specs.Lent.{IsPieceOf}

-- places that follow one another, from p on
abbrev pub Follow : ℕ → List ℕ → Type 0
Follow p ps = (k : ℕ) → k < length ps → slice_index ps k ≡ p + k

front_is : (p : ℕ) (ps : List ℕ) → consecutive_from p ps ≡ take (length (consecutive_from p ps)) ps
front_is p [] = refl
front_is p (q ∷ qs) =
    elim (q == p) as (λ b. let f = if b then q ∷ consecutive_from (suc p) qs else [] in f ≡ take (length f) (q ∷ qs)) [
      | true ↦ ap (λ (xs : List ℕ). q ∷ xs) (front_is (suc p) qs)
      | false ↦ refl
    ]

follows_next : (p q : ℕ) (ps : List ℕ) → q ≡ p → Follow (suc p) ps → Follow p (q ∷ ps)
follows_next p q ps e f zero l = omega (arith, e)
follows_next p q ps e f (suc k) l = let r = f k (omega arith) in omega (arith, r)

front_follows : (p : ℕ) (ps : List ℕ) → Follow p (consecutive_from p ps)
front_follows p [] = λ k l. absurd (omega arith)
front_follows p (q ∷ qs) = elim (eqb_tells q p) [
  | inl y ↦ rw y.0 (follows_next p q (consecutive_from (suc p) qs) y.1 (front_follows (suc p) qs))
  | inr y ↦ rw y.0 (λ k l. absurd (omega arith))
]

first_is : (p : ℕ) (ps : List ℕ) → Follow p ps → ps ≢ [] → first_place ps ≡ p
first_is p [] f n = absurd (n refl)
first_is p (q ∷ qs) f n = let z = f 0 (omega arith) in omega (arith, z)

map_front : (f : ℕ → ℕ) (k at : ℕ) (xs : List ℕ) → map f (take k (drop at xs)) ≡ take k (drop at (map f xs))
map_front f zero zero xs = refl
map_front f zero (suc at) [] = refl
map_front f zero (suc at) (x ∷ xs) = map_front f zero at xs
map_front f (suc k) zero [] = refl
map_front f (suc k) zero (x ∷ xs) = ap (λ (ys : List ℕ). f x ∷ ys) (map_front f k zero xs)
map_front f (suc k) (suc at) [] = refl
map_front f (suc k) (suc at) (x ∷ xs) = map_front f (suc k) at xs

-- places of a file that follow one another
pub piece : (m : Image) (x : Node) (at p : ℕ) (ps : List ℕ) → IsIn x (nodes m.tree)
    → ps ≡ take (length ps) (drop at (places_of x))
    → Follow p ps → IsPieceOf m x at (lent m.bytes ps)
piece m x at p [] i e f = record { file = i; within = omega arith; of_image = refl; of_file = refl }
piece m x at p (q ∷ qs) i e f =
    let ps = q ∷ qs in
    let n = length ps in
    let first : first_place ps ≡ p = first_is p ps f (λ z. cc) in
    let long : length (bytes_of m.bytes ps) ≡ n = length-map ps (λ p. slice_index m.bytes p) in
    let room : n ≡ min n (length (places_of x) - at) =
    ap length e ∙ length-take n (drop at (places_of x)) ∙ ap (min n) (length-drop at (places_of x)) in
    let last : n - 1 < n = omega arith in
    let at_last : slice_index ps (n - 1) ≡ slice_index (places_of x) (at + (n - 1)) =
    ap (λ (qs : List ℕ). slice_index qs (n - 1)) e ∙ get_or-take n (drop at (places_of x)) (n - 1) 0 last
    ∙ get_or-drop at (places_of x) (n - 1) 0 in
    let placed = m.placed x i (at + (n - 1)) (omega (arith, room)) in
    let row = f (n - 1) last in
    let within : p + n ≤ length m.bytes = omega (arith, at_last, placed, row) in
    let slice = row_bytes m.bytes ps p n refl f within in
    record {
      file = i;
      within = omega (arith, first, long, within);
      of_image = sym (ap (λ (k : ℕ). take k (drop (first_place ps) m.bytes)) long
          ∙ ap (λ (k : ℕ). take n (drop k m.bytes)) first ∙ slice);
      of_file = ap (bytes_of m.bytes) e ∙ map_front (λ p. slice_index m.bytes p) n at (places_of x)
          ∙ ap (λ (k : ℕ). take k (drop at (contents_of m.bytes x))) (sym long);
    }

-- of a file alone
from_file : {R : Type 0} (b : Bool) (o : Outcome R) (a : R × ℕ) → file_only b o ≡ Ok a → o ≡ Ok a
from_file true o a e = absurd (cc)
from_file false o a e = e

abbrev Gives : Type 0
Gives = Outcome (Of Lent)

-- what a call gives is one thing
one_reply : (o : Gives) (a b : Of Lent × ℕ) → o ≡ Ok a → o ≡ Ok b → a ≡ b
one_reply o a b e f = let z = sym e ∙ f in cc

not_refused : (t : Bool) (e : CallError) (o : Gives) (a : Of Lent × ℕ) → (if t then Err e else o) ≡ Ok a → o ≡ Ok a
not_refused true e o a h = absurd (cc)
not_refused false e o a h = h

is_given : (t : Bool) (e : CallError) (v a : Of Lent × ℕ) → (if t then Ok v else Err e) ≡ Ok a → (t ≡ true) × (v ≡ a)
is_given true e v a h = (refl, cc)
is_given false e v a h = absurd (cc)

pub lends : (m : Image) (x : Node) (j i : Option ℕ) (n p q : ℕ) (l : Lent) → IsIn x (nodes m.tree)
    → lend_on j m.bytes n x p ≡ Ok ((i, l), q) → IsPieceOf m x p l × (length l.bytes ≤ n) × (q ≡ p + length l.bytes)
unfolding consecutive
lends m x j i n p q l h e =
    let next = next_places x p n in
    let ps = consecutive next in
    let front : ps ≡ take (length ps) next = front_is (first_place next) next in
    let k : length ps ≤ n = (let z = ap length front
    ∙ length-take (length ps) next in let y = length-take n (drop p (places_of x)) in omega arith) in
    let all : ps ≡ take (length ps) (drop p (places_of x)) = front ∙ take-take (length ps) n (drop p (places_of x)) k in
    let gives : Gives = Ok ((j, lent m.bytes ps), p + length ps) in
    let r = one_reply gives ((j, lent m.bytes ps), p + length ps) ((i, l), q) refl
    (from_file (is_directory x) gives ((i, l), q) e) in
    let is : lent m.bytes ps ≡ l = ap (λ (v : Of Lent × ℕ). v.0.1) r in
    let moved : p + length ps ≡ q = ap (λ (v : Of Lent × ℕ). v.1) r in
    let long : length (bytes_of m.bytes ps) ≡ length ps = length-map ps (λ p. slice_index m.bytes p) in
    let long' : length l.bytes ≡ length ps = ap (λ (v : Lent). length v.bytes) (sym is) ∙ long in (
      subst (λ (v : Lent). IsPieceOf m x p v) is
          (piece m x p (first_place next) ps h all (front_follows (first_place next) next)),
      omega (arith, long', k),
      sym moved ∙ ap (λ (v : ℕ). p + v) (sym long'),
    )

-- a part that lies in one row, and what it is
whole_range : (j : Option ℕ) (b : List ℕ) (p : ℕ) (ps : List ℕ) (off len : ℕ) (a : Of Lent × ℕ)
    → map_within j b p ps off len ≡ Ok a
    → let qs = take len (drop off ps) in (length (consecutive qs) ≡ len) × (((j, lent b qs), p) ≡ a)
whole_range j b p ps off len a e =
    let qs = take len (drop off ps) in
    let gives = map_places j b p qs len in
    let inside = not_refused (nat_lt (length ps) (off + len)) Einval gives a
    (not_refused (len == 0) Einval (if nat_lt (length ps) (off + len) then Err Einval else gives) a e) in
    let r = is_given (length (consecutive qs) == len) Erange ((j, lent b qs), p) a inside in
    (eqb-true (length (consecutive qs)) len r.0, r.1)

pub maps : (m : Image) (x : Node) (j i : Option ℕ) (off len p q : ℕ) (l : Lent) → IsIn x (nodes m.tree)
    → map_on j m.bytes off len x p ≡ Ok ((i, l), q) → IsPieceOf m x off l × (length l.bytes ≡ len)
unfolding consecutive
maps m x j i off len p q l h e =
    let ps = take len (drop off (places_of x)) in
    let r = whole_range j m.bytes p (places_of x) off len ((i, l), q)
    (from_file (is_directory x) (map_within j m.bytes p (places_of x) off len) ((i, l), q) e) in
    let is : lent m.bytes ps ≡ l = ap (λ (v : Of Lent × ℕ). v.0.1) r.1 in
    let front : consecutive ps ≡ take (length (consecutive ps)) ps = front_is (first_place ps) ps in
    let short = length-take len (drop off (places_of x)) in
    let z : length ps ≤ len = omega arith in
    let same : consecutive ps ≡ ps = front ∙ ap (λ (k : ℕ). take k ps) r.0 ∙ take_all len ps z in
    let n : length ps ≡ len = ap length (sym same) ∙ r.0 in
    let follow : Follow (first_place ps) ps =
    subst (Follow (first_place ps)) same (front_follows (first_place ps) ps) in
    let long : length (bytes_of m.bytes ps) ≡ length ps = length-map ps (λ p. slice_index m.bytes p) in (
      subst (λ (v : Lent). IsPieceOf m x off v) is
          (piece m x off (first_place ps) ps h (ap (λ (k : ℕ). take k (drop off (places_of x))) (sym n)) follow),
      ap (λ (v : Lent). length v.bytes) (sym is) ∙ long ∙ n,
    )
