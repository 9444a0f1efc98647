-- The lines of extents that rise share out the bytes of a file.
use Rattle.std.proofs.Common.{◌≡◌, ◌≤◌, ◌<◌, ◌⊎◌, ℕ, zero, suc, ◌+◌, ◌-◌, List, [], ◌∷◌, ◌++◌, length, take, drop}
use Rattle.std.proofs.Common.{Bool, true, false, ◌==◌, length-append, get_or, if◌then◌else◌}
use Rattle.std.proofs.Common.{max, flat_map, refl, sym, ap, subst, ◌∙◌, arith, inl, inr, append_assoc, append-nil}
use Rattle.std.proofs.lemmas.Bool.{cases_lt, eqb-true, eq-eqb, true≢false}
use Rattle.std.specs.List.{AllByRecursion as Every, Contains}
use Rattle.std.proofs.lemmas.Grind.{flat_map-append}
use Rattle.std.proofs.lemmas.List.Elements.{All-from_recursion, recursion_from_All}
use Rattle.record_forest.proofs.Lists.{every_join, every_weaker}
use Rattle.std.specs.List.Sorted.{IsNonDecreasingBy}
use Rattle.std.specs.Prelude.{codes, decimal, Option, None, Some}
use Rattle.image_info.specs.Map.{address_text}
use Rattle.image_extents.specs.declared.extent.Extent.{Extent}
use Rattle.image_extents.specs.declared.extent.Extents.{Extents}
use Rattle.image_extents.specs.Apart.{AreApart}
use Rattle.image_extents.specs.Lines.{address_of, between, beyond, extent_text, extents_text, line_of, lines_from}
use Rattle.image_extents.specs.Lines.{have_owner, is_start, lines_as, lines_by, piece, run_text, starting}
use Rattle.image_extents.specs.Lines.{owned, owner_text, owners, range_text, reach_after, rest_word, word_of}
use Rattle.image_extents.specs.Tables.{led}
use Rattle.image_extents.specs.Ranges.{GoOn, Line, ShareOut, line_text}
use Rattle.image_extents.specs.Sorted.{start_of}
use Rattle.image_extents.proofs.Chain.{any_of}
use Rattle.image_extents.proofs.Owners.{lt_is, le_is}
use Rattle.image_extents.proofs.Sharing.{none_some, some_is}
use Rattle.image_extents.proofs.Texts.{between_some, between_none}

-- ---- extents that rise

-- an extent that has a byte, and ends among the first n bytes
abbrev pub Inside : ℕ → Extent → Type 0
Inside n x = (0 < x.len) × (x.start + x.len ≤ n)

-- y has the range of n bytes from s on, or begins at its end or later
abbrev Next : ℕ → ℕ → Extent → Type 0
Next s n y = ((y.start ≡ s) × (y.len ≡ n)) ⊎ (s + n ≤ y.start)

-- extents after such a range, each next to the one before it
abbrev pub Rise : ℕ → ℕ → List Extent → Type 0
Rise s n [] = Unit {0}
Rise s n (x ∷ xs) = Next s n x × Rise x.start x.len xs

tail_sorted : (x : Extent) (xs : List Extent) → IsNonDecreasingBy start_of (x ∷ xs) → IsNonDecreasingBy start_of xs
tail_sorted x xs h = λ i j d le l. h (suc i) (suc j) d (omega (arith, le)) (omega (arith, l))

tail_apart : (x : Extent) (xs : List Extent) → AreApart (x ∷ xs) → AreApart xs
tail_apart x xs h = λ y z p cy cz. h y z p
    (suc cy.0, (let l = cy.1 in omega (arith, l)), cy.2) (suc cz.0, (let l = cz.1 in omega (arith, l)), cz.2)

next_of : (x y : Extent) (ys : List Extent) (m : ℕ) → IsNonDecreasingBy start_of (x ∷ y ∷ ys) → AreApart (x ∷ y ∷ ys)
    → Inside m y → Next x.start x.len y
next_of x y ys m h a i = elim (cases_lt y.start (x.start + x.len)) [
  | inl l ↦
      let low : x.start ≤ y.start = h 0 1 x (omega arith) (omega arith) in
      let some = i.0 in
      let s = a x y y.start (0, omega arith, refl) (1, omega arith, refl) (low, l) (omega arith, omega (arith, some)) in
      inl (sym s.0, sym s.1)
  | inr l ↦ inr l
]

rise_on : (x : Extent) (xs : List Extent) (m : ℕ) → IsNonDecreasingBy start_of (x ∷ xs) → AreApart (x ∷ xs)
    → Every (Inside m) xs → Rise x.start x.len xs
rise_on x [] m h a i = tt
rise_on x (y ∷ ys) m h a i = (
  next_of x y ys m h a i.0,
  rise_on y ys m (tail_sorted x (y ∷ ys) h) (tail_apart x (y ∷ ys) a) i.1,
)

pub rise : (xs : List Extent) (m : ℕ) → IsNonDecreasingBy start_of xs → AreApart xs → Every (Inside m) xs → Rise 0 0 xs
rise [] m h a i = tt
rise (x ∷ xs) m h a i = (inr (omega arith), rise_on x xs m h a i.1)

-- ---- their lines

module _ (base : ℕ) (e : Extents) where
  abbrev own_line : Extent → ℕ → Line
  own_line x i = record { start = x.start; len = x.len; rest = word_of x.kind ++ 32 ∷ owner_text e (owned x i) }

  own_is : (x : Extent) (i : ℕ) → line_of base e None x i ≡ line_text base (own_line x i)
  unfolding extent_text range_text
  own_is x i =
      let a : List ℕ = address_text (address_of base x.start) in
      let d : List ℕ = decimal x.len in
      let w : List ℕ = word_of x.kind in
      let o : List ℕ = owner_text e (owned x i) in
      append_assoc (a ++ (32 ∷ [] ++ (d ++ (32 ∷ [] ++ (w ++ 32 ∷ []))))) o (10 ∷ [])
      ∙ (append_assoc a (32 ∷ [] ++ (d ++ (32 ∷ [] ++ (w ++ 32 ∷ [])))) (o ++ 10 ∷ [])
      ∙ ap (λ (v : List ℕ). a ++ 32 ∷ v)
      (append_assoc d (32 ∷ [] ++ (w ++ 32 ∷ [])) (o ++ 10 ∷ [])
      ∙ ap (λ (v : List ℕ). d ++ 32 ∷ v)
      (append_assoc w (32 ∷ []) (o ++ 10 ∷ []) ∙ sym (append_assoc w (32 ∷ o) (10 ∷ [])))))

  -- a range of bytes in no extent
  abbrev bare_line : ℕ → ℕ → List ℕ → Line
  bare_line s n word = record { start = s; len = n; rest = word ++ 32 ∷ 45 ∷ [] }

  bare_is : (s n : ℕ) (word : List ℕ) → range_text (address_of base s) n word ++ 45 ∷ 10 ∷ []
      ≡ line_text base (bare_line s n word)
  unfolding range_text
  bare_is s n word =
      let a : List ℕ = address_text (address_of base s) in
      let d : List ℕ = decimal n in
      append_assoc a (32 ∷ [] ++ (d ++ (32 ∷ [] ++ (word ++ 32 ∷ [])))) (45 ∷ 10 ∷ [])
      ∙ ap (λ (v : List ℕ). a ++ 32 ∷ v)
      (append_assoc d (32 ∷ [] ++ (word ++ 32 ∷ [])) (45 ∷ 10 ∷ [])
      ∙ ap (λ (v : List ℕ). d ++ 32 ∷ v)
      (append_assoc word (32 ∷ []) (45 ∷ 10 ∷ []) ∙ sym (append_assoc word (32 ∷ 45 ∷ []) (10 ∷ []))))

  -- a text of lines that come after a range of n bytes from s on, and end at `end`
  record Makes (s n end : ℕ) (text : List ℕ) : Type 0 where
    lines : List Line
    is : text ≡ flat_map (line_text base) lines
    all : GoOn s n lines end

  one_more : (s n end : ℕ) (l : Line) (text rest : List ℕ) → text ≡ line_text base l → 0 < l.len
      → ((l.start ≡ s) × (l.len ≡ n)) ⊎ (l.start ≡ s + n) → Makes l.start l.len end rest → Makes s n end (text ++ rest)
  one_more s n end l text rest t some next m = record {
    lines = l ∷ m.lines;
    is = ap (λ (v : List ℕ). v ++ rest) t ∙ ap (λ (v : List ℕ). line_text base l ++ v) m.is;
    all = (some, next, m.all);
  }

  as_text : (s n end : ℕ) (text rest : List ℕ) → text ≡ rest → Makes s n end rest → Makes s n end text
  as_text s n end text rest t m = subst (Makes s n end) (sym t) m

  -- bytes in no extent, up to `to`
  bare : (s n to end : ℕ) (word text rest : List ℕ) → s + n ≤ to
      → (s + n < to → text ≡ range_text (address_of base (s + n)) (to - (s + n)) word ++ 45 ∷ 10 ∷ [])
      → (to ≤ s + n → text ≡ [])
      → ((u m : ℕ) → u + m ≡ to → Makes u m end rest) → Makes s n end (text ++ rest)
  bare s n to end word text rest le some none m = elim (cases_lt (s + n) to) [
    | inl l ↦
        one_more s n end (bare_line (s + n) (to - (s + n)) word) text rest
        (some l ∙ bare_is (s + n) (to - (s + n)) word) (omega (arith, l)) (inr refl)
        (m (s + n) (to - (s + n)) (omega (arith, le)))
    | inr l ↦
        as_text s n end (text ++ rest) rest (ap (λ (v : List ℕ). v ++ rest) (none l))
        (m s n (omega (arith, le, l)))
  ]

  between_made : (s n to end : ℕ) (rest : List ℕ) → s + n ≤ to → ((u m : ℕ) → u + m ≡ to → Makes u m end rest)
      → Makes s n end (between base e.bytes.now (s + n) to ++ rest)
  between_made s n to end rest le m =
      bare s n to end (rest_word (take (to - (s + n)) (drop (s + n) e.bytes.now))) (between base e.bytes.now (s + n) to)
      rest le (between_some base e.bytes.now (s + n) to) (between_none base e.bytes.now (s + n) to) m

  -- the bytes after the accessible ones
  beyond_some : (size file : ℕ) → size < file
      → beyond base size file ≡ range_text (address_of base size) (file - size) (codes "beyond") ++ 45 ∷ 10 ∷ []
  unfolding beyond
  beyond_some size file h = rw (lt_is size file h) refl

  beyond_none : (size file : ℕ) → file ≤ size → beyond base size file ≡ []
  unfolding beyond
  beyond_none size file h = rw (le_is size file h) refl

  nothing : (s n end : ℕ) → s + n ≡ end → Makes s n end []
  nothing s n end h = record { lines = []; is = refl; all = h }

  beyond_made : (s n size file : ℕ) → s + n ≡ size → Makes s n (max size file) (beyond base size file)
  beyond_made s n size file h = elim (cases_lt size file) [
    | inl l ↦
        let m : max size file ≡ file = omega (arith, l) in
        as_text s n (max size file) (beyond base size file) (beyond base size file ++ []) (sym (append-nil _))
        (one_more s n (max size file) (bare_line size (file - size) (codes "beyond")) (beyond base size file) []
        (beyond_some size file l ∙ bare_is size (file - size) (codes "beyond")) (omega (arith, l)) (inr (sym h))
        (nothing size (file - size) (max size file) (omega (arith, l))))
    | inr l ↦
        as_text s n (max size file) (beyond base size file) [] (beyond_none size file l)
        (nothing s n (max size file) (omega (arith, h, l)))
  ]

  -- a text of lines that all have the range of n bytes from s on
  record Repeats (s n : ℕ) (text : List ℕ) : Type 0 where
    lines : List Line
    is : text ≡ flat_map (line_text base) lines
    all : Every (λ l. (l.start ≡ s) × (l.len ≡ n)) lines

  rep_join : (s n : ℕ) (a c : List ℕ) → Repeats s n a → Repeats s n c → Repeats s n (a ++ c)
  rep_join s n a c x y = record {
    lines = x.lines ++ y.lines;
    is = ap (λ (v : List ℕ). v ++ c) x.is ∙ ap (λ (v : List ℕ). flat_map (line_text base) x.lines ++ v) y.is
        ∙ sym (flat_map-append (line_text base) x.lines y.lines);
    all = every_join (λ l. (l.start ≡ s) × (l.len ≡ n)) x.lines y.lines x.all y.all;
  }

  rep_flat : {X : Type 0} (s n : ℕ) (f : X → List ℕ) (xs : List X) → Every (λ x. Repeats s n (f x)) xs
      → Repeats s n (flat_map f xs)
  rep_flat s n f [] h = record { lines = []; is = refl; all = tt }
  rep_flat s n f (x ∷ xs) h = rep_join s n (f x) (flat_map f xs) h.0 (rep_flat s n f xs h.1)

  abbrev HasRange : ℕ → ℕ → Extent → Type 0
  HasRange s n x = (x.start ≡ s) × (x.len ≡ n)

  rep_line : (s n : ℕ) (x : Extent) (i : ℕ) → HasRange s n x → Repeats s n (line_of base e None x i)
  rep_line s n x i h =
      record {
        lines = own_line x i ∷ [];
        is = own_is x i ∙ sym (append-nil (line_text base (own_line x i)));
        all = (h, tt);
      }

  rep_as : (s n : ℕ) (xs : List Extent) (i : ℕ) → Every (HasRange s n) xs → Repeats s n (lines_as base e None xs i)
  rep_as s n xs i h = rep_flat s n (λ x. line_of base e None x i) xs
      (every_weaker (HasRange s n) (λ x. Repeats s n (line_of base e None x i)) (λ x k. rep_line s n x i k) xs h)

  every_one : {X : Type 0} (P : X → Type 0) → ((x : X) → P x) → (xs : List X) → Every P xs
  every_one P f [] = tt
  every_one P f (x ∷ xs) = (f x, every_one P f xs)

  rep_by : (s n : ℕ) (xs : List Extent) (x : Extent) → Every (HasRange s n) xs
      → Repeats s n (lines_by base e None xs x)
  rep_by s n xs x h = rep_flat s n (lines_as base e None xs) (owners e x)
      (every_one (λ i. Repeats s n (lines_as base e None xs i)) (λ i. rep_as s n xs i h) (owners e x))

  rep_run : (s n : ℕ) (xs : List Extent) → Every (HasRange s n) xs → Repeats s n (run_text base e None xs)
  unfolding run_text
  rep_run s n [] h = record { lines = []; is = refl; all = tt }
  rep_run s n (x ∷ xs) h = elim (have_owner x.owner (x ∷ xs)) as
      (λ v. Repeats s n (if v then lines_by base e None (x ∷ xs) x
      else flat_map (λ y. lines_by base e None (y ∷ []) y) (x ∷ xs))) [
        | true ↦ rep_by s n (x ∷ xs) x h
        | false ↦ rep_flat s n (λ y. lines_by base e None (y ∷ []) y) (x ∷ xs)
            (every_weaker (HasRange s n) (λ y. Repeats s n (lines_by base e None (y ∷ []) y))
            (λ y k. rep_by s n (y ∷ []) y (k, tt)) (x ∷ xs) h)
      ]

  -- such a text is not empty
  abbrev IsSome : List ℕ → Type 0
  IsSome text = 0 < length text

  some_left : (a c : List ℕ) → IsSome a → IsSome (a ++ c)
  some_left a c h = let l = length-append a c in omega (arith, l, h)

  some_line : (x : Extent) (i : ℕ) → IsSome (line_of base e None x i)
  some_line x i = let l = length-append (extent_text base e (owned x i)) (10 ∷ []) in omega (arith, l)

  some_as : (x : Extent) (xs : List Extent) (i : ℕ) → IsSome (lines_as base e None (x ∷ xs) i)
  some_as x xs i = some_left (line_of base e None x i) (lines_as base e None xs i) (some_line x i)

  some_by : (x y : Extent) (xs : List Extent) → 0 < length e.records.items → IsSome (lines_by base e None (x ∷ xs) y)
  some_by x y xs h = elim (length e.records.items) as
      (λ n. 0 < n → IsSome (flat_map (lines_as base e None (x ∷ xs)) (led e.next.items n (Some y.owner)))) [
        | zero ↦ λ z. absurd (omega (arith, z))
        | suc n ↦ λ z. some_left (lines_as base e None (x ∷ xs) y.owner) _ (some_as x xs y.owner)
      ] h

  some_run : (x : Extent) (xs : List Extent) → 0 < length e.records.items → IsSome (run_text base e None (x ∷ xs))
  unfolding run_text
  some_run x xs h = elim (have_owner x.owner (x ∷ xs)) as
      (λ v. IsSome (if v then lines_by base e None (x ∷ xs) x
      else flat_map (λ y. lines_by base e None (y ∷ []) y) (x ∷ xs))) [
        | true ↦ some_by x x xs h
        | false ↦ some_left (lines_by base e None (x ∷ []) x) _ (some_by x x [] h)
      ]

  -- further lines of one range
  more_made : (s n end : ℕ) (ls : List Line) (rest : List ℕ) → Every (λ l. (l.start ≡ s) × (l.len ≡ n)) ls → 0 < n
      → Makes s n end rest → Makes s n end (flat_map (line_text base) ls ++ rest)
  more_made s n end [] rest h some m = m
  more_made s n end (l ∷ ls) rest h some m =
      let after : List ℕ = flat_map (line_text base) ls in
      let a = h.0.0 in
      let c = h.0.1 in
      as_text s n end _ (line_text base l ++ (after ++ rest)) (append_assoc (line_text base l) after rest)
      (one_more s n end l (line_text base l) (after ++ rest) refl (omega (arith, c, some)) (inl (a, c))
      (subst (λ (v : ℕ). Makes v l.len end (after ++ rest)) (sym a)
      (subst (λ (v : ℕ). Makes s v end (after ++ rest)) (sym c) (more_made s n end ls rest h.1 some m))))

  -- lines of one range behind another one
  lines_made : (s n u m end : ℕ) (text rest : List ℕ) → Repeats u m text → IsSome text → 0 < m
      → ((u ≡ s) × (m ≡ n)) ⊎ (u ≡ s + n) → Makes u m end rest → Makes s n end (text ++ rest)
  lines_made s n u m end text rest r some long next k = by r.lines r.is r.all
    where
      by : (ls : List Line) → text ≡ flat_map (line_text base) ls → Every (λ l. (l.start ≡ u) × (l.len ≡ m)) ls
          → Makes s n end (text ++ rest)
      by [] is all = absurd (let l = ap length is in omega (arith, l, some))
      by (l ∷ ls) is all =
          let after : List ℕ = flat_map (line_text base) ls in
          let a = all.0.0 in
          let c = all.0.1 in
          as_text s n end _ (line_text base l ++ (after ++ rest))
          (ap (λ (v : List ℕ). v ++ rest) is ∙ append_assoc (line_text base l) after rest)
          (one_more s n end l (line_text base l) (after ++ rest) refl (omega (arith, c, long)) (turn l a c next)
          (subst (λ (v : ℕ). Makes v l.len end (after ++ rest)) (sym a)
          (subst (λ (v : ℕ). Makes u v end (after ++ rest)) (sym c) (more_made u m end ls rest all.1 long k))))
        where
          turn : (l : Line) → l.start ≡ u → l.len ≡ m → ((u ≡ s) × (m ≡ n)) ⊎ (u ≡ s + n)
              → ((l.start ≡ s) × (l.len ≡ n)) ⊎ (l.start ≡ s + n)
          turn l a c (inl k) = inl (a ∙ k.0, c ∙ k.1)
          turn l a c (inr k) = inr (a ∙ k)

  -- ---- the extents that begin at an offset

  -- those that are in the list have what holds of each that begins there
  every_start : (P : Extent → Type 0) (s : ℕ) (xs : List Extent) → Every (λ x. x.start ≡ s → P x) xs
      → Every P (starting s xs)
  every_start P s [] h = tt
  every_start P s (x ∷ xs) h = elim (x.start == s) as
      (λ v. (x.start == s) ≡ v → Every P (if v then x ∷ starting s xs else starting s xs)) [
        | true ↦ λ t. (h.0 (eqb-true x.start s t), every_start P s xs h.1)
        | false ↦ λ t. every_start P s xs h.1
      ] refl

  -- it is not empty if one begins there
  record IsFull (xs : List Extent) : Type 0 where
    first : Extent
    rest : List Extent
    is : xs ≡ first ∷ rest

  full_at : (s : ℕ) (xs : List Extent) (k : ℕ) (x : Extent) → k < length xs → get_or xs k x ≡ x → x.start ≡ s
      → IsFull (starting s xs)
  full_at s [] k x h e t = absurd (omega (arith, h))
  full_at s (y ∷ ys) zero x h e t =
      let same : y.start ≡ s = ap start_of e ∙ t in
      record { first = y; rest = starting s ys; is = rw (eq-eqb y.start s same) refl }
  full_at s (y ∷ ys) (suc k) x h e t = elim (y.start == s) as
      (λ v. IsFull (if v then y ∷ starting s ys else starting s ys)) [
        | true ↦ record { first = y; rest = starting s ys; is = refl }
        | false ↦ full_at s ys k x (omega (arith, h)) e t
      ]

  abbrev all : List Extent
  all = e.extents.items

  -- what begins with an extent has its range
  abbrev AllSome : Type 0
  AllSome = Every (λ (y : Extent). 0 < y.len) all

  same_ranges : AreApart all → AllSome → (x : Extent) → Contains all x → 0 < x.len
      → Every (HasRange x.start x.len) (starting x.start all)
  same_ranges apart some x c long =
      every_start (HasRange x.start x.len) x.start all
      (recursion_from_All (λ (y : Extent). y.start ≡ x.start → HasRange x.start x.len y) all (λ k d l t.
      let y : Extent = get_or all k d in
      let has = All-from_recursion (λ (y : Extent). 0 < y.len) all some k d l in
      let r = apart y x x.start (k, l, any_of all k y d l) c (omega (arith, t), omega (arith, t, has))
      (omega arith, omega (arith, long)) in
      r))

  piece_made : (s n reach end : ℕ) (before : Option ℕ) (x : Extent) (rest : List ℕ) → 0 < length e.records.items
      → AreApart all → AllSome → Contains all x → s + n ≡ reach → 0 < x.len → Next s n x
      → ((b : ℕ) → before ≡ Some b → (b ≡ s) × (0 < n)) → Makes x.start x.len end rest
      → Makes s n end (piece base e reach before x ++ rest)
  piece_made s n reach end before x rest any apart some c is long next old m =
      by (is_start before x.start) refl
    where
      text : List ℕ
      text = run_text base e None (starting x.start all)

      full : IsFull (starting x.start all)
      full = full_at x.start all c.0 x c.1 c.2 refl

      rep : Repeats x.start x.len text
      rep = rep_run x.start x.len (starting x.start all) (same_ranges apart some x c long)

      has : IsSome text
      has = subst (λ (v : List Extent). IsSome (run_text base e None v)) (sym full.is)
          (some_run full.first full.rest any)

      began : (b : Option ℕ) → is_start b x.start ≡ true → b ≡ Some x.start
      began None h = absurd (true≢false (sym h))
      began (Some b) h = ap (λ (v : ℕ). Some v) (eqb-true b x.start h)

      again : Next s n x → (x.start ≡ s) × (0 < n) → (x.start ≡ s) × (x.len ≡ n)
      again (inl same) o = same
      again (inr later) o = let a = o.0 in let q = o.1 in absurd (omega (arith, later, a, q))

      new : Next s n x → Makes s n end ((between base e.bytes.now reach x.start ++ text) ++ rest)
      new (inl same) =
          let a = same.0 in
          let none : between base e.bytes.now reach x.start ≡ [] =
          between_none base e.bytes.now reach x.start (omega (arith, is, a)) in
          as_text s n end _ (text ++ rest) (ap (λ (v : List ℕ). (v ++ text) ++ rest) none)
          (lines_made s n x.start x.len end text rest rep has long (inl same) m)
      new (inr later) =
          as_text s n end _ (between base e.bytes.now (s + n) x.start ++ (text ++ rest))
          (append_assoc (between base e.bytes.now reach x.start) text rest
          ∙ ap (λ (v : ℕ). between base e.bytes.now v x.start ++ (text ++ rest)) (sym is))
          (between_made s n x.start end (text ++ rest) later
          (λ u k t. lines_made u k x.start x.len end text rest rep has long (inr (sym t)) m))

      by : (v : Bool) → is_start before x.start ≡ v → Makes s n end (piece base e reach before x ++ rest)
      by true t =
          let r = again next (old x.start (began before t)) in
          as_text s n end _ rest
          (ap (λ (v : Bool). (if v then [] else between base e.bytes.now reach x.start ++ text) ++ rest) t)
          (subst (λ (v : ℕ). Makes v n end rest) r.0 (subst (λ (v : ℕ). Makes x.start v end rest) r.1 m))
      by false t =
          as_text s n end _ ((between base e.bytes.now reach x.start ++ text) ++ rest)
          (ap (λ (v : Bool). (if v then [] else between base e.bytes.now reach x.start ++ text) ++ rest) t)
          (new next)

  reach_is : (s n reach : ℕ) (x : Extent) → s + n ≡ reach → Next s n x → x.start + x.len ≡ max reach (x.start + x.len)
  reach_is s n reach x is (inl same) = let a = same.0 in let b = same.1 in omega (arith, is, a, b)
  reach_is s n reach x is (inr later) = omega (arith, is, later)

  all_made : (s n reach file : ℕ) (before : Option ℕ) (xs : List Extent) → 0 < length e.records.items
      → AreApart all → AllSome → Every (Contains all) xs → s + n ≡ reach → reach ≤ length e.bytes.now → Rise s n xs
      → Every (Inside (length e.bytes.now)) xs → ((b : ℕ) → before ≡ Some b → (b ≡ s) × (0 < n))
      → Makes s n (max (length e.bytes.now) file) (lines_from base e reach before xs
      ++ (between base e.bytes.now (reach_after reach xs) (length e.bytes.now)
      ++ beyond base (length e.bytes.now) file))
  all_made s n reach file before [] any apart some c is le r i old =
      let size = length e.bytes.now in
      as_text s n (max size file) _ (between base e.bytes.now (s + n) size ++ beyond base size file)
      (ap (λ (v : ℕ). between base e.bytes.now v size ++ beyond base size file) (sym is))
      (between_made s n size (max size file) (beyond base size file) (omega (arith, is, le))
      (λ u m t. beyond_made u m size file t))
  all_made s n reach file before (x ∷ xs) any apart some c is le r i old =
      let size = length e.bytes.now in
      let inside = i.0.1 in
      let next = reach_is s n reach x is r.0 in
      let last : List ℕ = between base e.bytes.now (reach_after (max reach (x.start + x.len)) xs) size
      ++ beyond base size file in
      let first : List ℕ = piece base e reach before x in
      as_text s n (max size file) _
      (first ++ (lines_from base e (max reach (x.start + x.len)) (Some x.start) xs ++ last))
      (append_assoc first (lines_from base e (max reach (x.start + x.len)) (Some x.start) xs) last)
      (piece_made s n reach (max size file) before x _ any apart some c.0 is i.0.0 r.0 old
      (all_made x.start x.len (max reach (x.start + x.len)) file (Some x.start) xs any apart some c.1 next
      (omega (arith, le, inside)) r.1 i.1 (λ b t. (some_is b x.start (sym t), i.0.0))))

  pub shared : (file : ℕ) → 0 < length e.records.items → IsNonDecreasingBy start_of e.extents.items
      → AreApart e.extents.items
      → Every (Inside (length e.bytes.now)) e.extents.items
      → ShareOut base (max (length e.bytes.now) file) (extents_text base file e)
  unfolding extents_text
  shared file any h a i =
      let some = every_weaker (Inside (length e.bytes.now)) (λ (y : Extent). 0 < y.len) (λ y k. k.0) all i in
      let there = recursion_from_All (Contains all) all (λ k d l. (k, l, any_of all k _ d l)) in
      let m = all_made 0 0 0 file None e.extents.items any a some there refl (omega arith)
      (rise e.extents.items (length e.bytes.now) h a i) i (λ b t. absurd (none_some b t)) in
      record { lines = m.lines; is = m.is; all = m.all }
