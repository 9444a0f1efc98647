-- Each extent has its lines among all lines of an image.
use Rattle.std.proofs.Common.{◌≡◌, ℕ, ◌+◌, ◌-◌, ◌==◌, ◌⊎◌, true, false, List, [], ◌∷◌, ◌++◌, length, max, nat_lt}
use Rattle.std.proofs.Common.{refl, sym, ap, subst, ◌∙◌, inl, inr, append_assoc, if◌then◌else◌, take, drop}
use Rattle.std.proofs.Common.{eqb-true, Option, None, Some}
use Rattle.std.proofs.lemmas.Bool.{eq-eqb, true≢false}
use Rattle.std.proofs.lemmas.Grind.{flat_map-append}
use Rattle.std.specs.List.{Contains, flat_map}
use Rattle.std.specs.Prelude.{codes}
use Rattle.image_extents.specs.declared.extent.Extent.{Extent}
use Rattle.image_extents.specs.declared.extent.Extents.{Extents}
use Rattle.image_extents.specs.Complete.{HasLine, IsLine, Owning, owning_line}
use Rattle.image_extents.specs.Lines.{address_of, between, beyond, byte_text, extent_text, extents_text, is_start}
use Rattle.image_extents.specs.Lines.{line_of}
use Rattle.image_extents.specs.Lines.{lines_from, owned, owners, piece, range_text, reach_after, rest_word, run_text}
use Rattle.image_extents.specs.Lines.{starting}
use Rattle.image_extents.proofs.Having.{In, from_in, in_left, in_parts, in_right, pair, run_lines, to_in}

-- a text of whole lines
record AreLines (text : List ℕ) : Type 0 where
  lines : List (List ℕ)
  is : text ≡ flat_map (λ l. l) lines
  each : (l : List ℕ) → In l lines → IsLine l

-- one of which is this one
record Has (text line : List ℕ) : Type 0 where
  all : AreLines text
  among : In line all.lines

no_line : AreLines []
no_line = record { lines = []; is = refl; each = λ l h. absurd h }

one_line : (l : List ℕ) → IsLine l → (text : List ℕ) → text ≡ l → AreLines text
one_line l k text e = record {
  lines = l ∷ [];
  is = e ∙ sym (append_nothing l);
  each = one;
}
  where
    append_nothing : (l : List ℕ) → l ++ [] ≡ l
    append_nothing [] = refl
    append_nothing (x ∷ xs) = ap (λ (v : List ℕ). x ∷ v) (append_nothing xs)

    one : (m : List ℕ) → In m (l ∷ []) → IsLine m
    one m (inl i) = subst IsLine i k
    one m (inr i) = absurd i

joined : (a c : List ℕ) → AreLines a → AreLines c → AreLines (a ++ c)
joined a c x y = record {
  lines = x.lines ++ y.lines;
  is = ap (λ (v : List ℕ). v ++ c) x.is ∙ (ap (λ (v : List ℕ). flat_map (λ l. l) x.lines ++ v) y.is
      ∙ sym (flat_map-append (λ (l : List ℕ). l) x.lines y.lines));
  each = λ l h. elim (in_parts l x.lines y.lines h) [ inl i ↦ x.each l i | inr i ↦ y.each l i ];
}

has_left : (a c l : List ℕ) → Has a l → AreLines c → Has (a ++ c) l
unfolding joined
has_left a c l x y = record { all = joined a c x.all y; among = in_left l x.all.lines y.lines x.among }

has_right : (a c l : List ℕ) → AreLines a → Has c l → Has (a ++ c) l
unfolding joined
has_right a c l x y = record { all = joined a c x y.all; among = in_right l x.lines y.all.lines y.among }

-- ---- the lines of ranges

rest_line : (r : List ℕ) → IsLine (r ++ 45 ∷ 10 ∷ [])
rest_line r = record { front = r ++ 45 ∷ []; is = sym (append_assoc r (45 ∷ []) (10 ∷ [])) }

between_lines : (base : ℕ) (b : List ℕ) (from to : ℕ) → AreLines (between base b from to)
unfolding between
between_lines base b from to =
    let r : List ℕ = range_text (address_of base from) (to - from) (rest_word (take (to - from) (drop from b))) in
    elim (nat_lt from to) as (λ v. AreLines (if v then r ++ 45 ∷ 10 ∷ [] else []))
    [ true ↦ one_line (r ++ 45 ∷ 10 ∷ []) (rest_line r) (r ++ 45 ∷ 10 ∷ []) refl | false ↦ no_line ]

beyond_lines : (base size file : ℕ) → AreLines (beyond base size file)
unfolding beyond
beyond_lines base size file =
    let r : List ℕ = range_text (address_of base size) (file - size) (codes "beyond") in
    elim (nat_lt size file) as (λ v. AreLines (if v then r ++ 45 ∷ 10 ∷ [] else []))
    [ true ↦ one_line (r ++ 45 ∷ 10 ∷ []) (rest_line r) (r ++ 45 ∷ 10 ∷ []) refl | false ↦ no_line ]

-- ---- the lines of extents

module _ (base : ℕ) (e : Extents) (at : Option ℕ) where
  owning_is : (l : Owning) → IsLine (owning_line base e at l)
  owning_is l =
      let x : Extent = l.extent in
      record {
        front = extent_text base e (owned x l.number) ++ byte_text at x;
        is = sym (append_assoc (extent_text base e (owned x l.number)) (byte_text at x) (10 ∷ []));
      }

  abbrev all_owning : List Owning → List (List ℕ)
  all_owning [] = []
  all_owning (l ∷ ls) = owning_line base e at l ∷ all_owning ls

  owning_text : (ls : List Owning) → flat_map (owning_line base e at) ls ≡ flat_map (λ l. l) (all_owning ls)
  owning_text [] = refl
  owning_text (l ∷ ls) = ap (λ (v : List ℕ). owning_line base e at l ++ v) (owning_text ls)

  owning_each : (ls : List Owning) (l : List ℕ) → In l (all_owning ls) → IsLine l
  owning_each [] l h = absurd h
  owning_each (k ∷ ks) l (inl z) = subst IsLine z (owning_is k)
  owning_each (k ∷ ks) l (inr h) = owning_each ks l h

  owning_in : (ls : List Owning) (l : Owning) → In l ls → In (owning_line base e at l) (all_owning ls)
  owning_in [] l h = absurd h
  owning_in (k ∷ ks) l (inl z) = inl (ap (owning_line base e at) z)
  owning_in (k ∷ ks) l (inr h) = inr (owning_in ks l h)

  run_are : (xs : List Extent) → AreLines (run_text base e at xs)
  run_are xs =
      let r = run_lines base e at xs in
      record {
        lines = all_owning r.lines;
        is = r.is ∙ owning_text r.lines;
        each = owning_each r.lines;
      }

  run_has : (xs : List Extent) (x : Extent) (i : ℕ) → In x xs → In i (owners e x)
      → Has (run_text base e at xs) (line_of base e at x i)
  unfolding run_are
  run_has xs x i h k =
      let r = run_lines base e at xs in
      record { all = run_are xs; among = owning_in r.lines (pair x i) (r.whole x i h k) }

-- ---- all lines

starting_in : (s : ℕ) (x : Extent) (xs : List Extent) → In x xs → x.start ≡ s → In x (starting s xs)
starting_in s x [] h e = absurd h
starting_in s x (y ∷ ys) (inl z) e =
    let k : (y.start == s) ≡ true = eq-eqb y.start s (ap (λ (v : Extent). v.start) z ∙ e) in
    subst (λ v. In x (if v then y ∷ starting s ys else starting s ys)) (sym k) (inl z)
starting_in s x (y ∷ ys) (inr h) e = elim (y.start == s) as
    (λ v. In x (if v then y ∷ starting s ys else starting s ys))
    [ true ↦ inr (starting_in s x ys h e) | false ↦ starting_in s x ys h e ]

module _ (base : ℕ) (e : Extents) where
  -- the bytes before an extent, and the extents that begin with it
  abbrev part : ℕ → Extent → List ℕ
  part reach y = between base e.bytes.now reach y.start ++ run_text base e None (starting y.start e.extents.items)

  part_lines : (reach : ℕ) (y : Extent) → AreLines (part reach y)
  part_lines reach y = joined (between base e.bytes.now reach y.start)
      (run_text base e None (starting y.start e.extents.items)) (between_lines base e.bytes.now reach y.start)
      (run_are base e None (starting y.start e.extents.items))

  piece_lines : (reach : ℕ) (before : Option ℕ) (y : Extent) → AreLines (piece base e reach before y)
  piece_lines reach before y = elim (is_start before y.start) as (λ v. AreLines (if v then [] else part reach y))
      [ true ↦ no_line | false ↦ part_lines reach y ]

  from_lines : (reach : ℕ) (before : Option ℕ) (xs : List Extent) → AreLines (lines_from base e reach before xs)
  from_lines reach before [] = no_line
  from_lines reach before (y ∷ ys) =
      joined (piece base e reach before y) (lines_from base e (max reach (y.start + y.len)) (Some y.start) ys)
      (piece_lines reach before y) (from_lines (max reach (y.start + y.len)) (Some y.start) ys)

  module _ (x : Extent) (i : ℕ) (there : In x e.extents.items) (owner : In i (owners e x)) where
    abbrev line : List ℕ
    line = line_of base e None x i

    part_has : (reach : ℕ) (y : Extent) → x.start ≡ y.start → Has (part reach y) line
    part_has reach y z = has_right (between base e.bytes.now reach y.start)
        (run_text base e None (starting y.start e.extents.items)) line (between_lines base e.bytes.now reach y.start)
        (run_has base e None (starting y.start e.extents.items) x i
        (starting_in y.start x e.extents.items there z) owner)

    -- the line is in the piece of the first extent that begins there
    piece_has : (reach : ℕ) (before : Option ℕ) (y : Extent) → x.start ≡ y.start
        → Has (piece base e reach before y) line ⊎ (is_start before x.start ≡ true)
    piece_has reach before y z = elim (is_start before y.start) as
        (λ v. is_start before y.start ≡ v
        → Has (if v then [] else part reach y) line ⊎ (is_start before x.start ≡ true)) [
          | true ↦ λ k. inr (ap (is_start before) z ∙ k)
          | false ↦ λ k. inl (part_has reach y z)
        ] refl

    from_has : (reach : ℕ) (before : Option ℕ) (xs : List Extent) → In x xs
        → Has (lines_from base e reach before xs) line ⊎ (is_start before x.start ≡ true)
    from_has reach before [] h = absurd h
    from_has reach before (y ∷ ys) (inl z) =
        let more : ℕ = max reach (y.start + y.len) in
        elim (piece_has reach before y (sym (ap (λ (v : Extent). v.start) z))) [
          | inl k ↦ inl (has_left (piece base e reach before y) (lines_from base e more (Some y.start) ys) line k
              (from_lines more (Some y.start) ys))
          | inr k ↦ inr k
        ]
    from_has reach before (y ∷ ys) (inr h) =
        let more : ℕ = max reach (y.start + y.len) in
        elim (from_has more (Some y.start) ys h) [
          | inl k ↦ inl (has_right (piece base e reach before y) (lines_from base e more (Some y.start) ys) line
              (piece_lines reach before y) k)
          | inr k ↦ elim (piece_has reach before y (sym (eqb-true y.start x.start k))) [
            | inl m ↦ inl (has_left (piece base e reach before y) (lines_from base e more (Some y.start) ys) line m
                (from_lines more (Some y.start) ys))
            | inr m ↦ inr m
          ]
        ]

pub line_among : (base file : ℕ) (e : Extents) (x : Extent) (i : ℕ) → Contains e.extents.items x
    → Contains (owners e x) i → HasLine (extents_text base file e) (line_of base e None x i)
unfolding extents_text
line_among base file e x i c d =
    let h = to_in x e.extents.items c in
    let l : List ℕ = line_of base e None x i in
    let text : List ℕ = lines_from base e 0 None e.extents.items in
    let rest : List ℕ = between base e.bytes.now (reach_after 0 e.extents.items) (length e.bytes.now)
    ++ beyond base (length e.bytes.now) file in
    let more : AreLines rest = joined (between base e.bytes.now (reach_after 0 e.extents.items) (length e.bytes.now))
    (beyond base (length e.bytes.now) file)
    (between_lines base e.bytes.now (reach_after 0 e.extents.items) (length e.bytes.now))
    (beyond_lines base (length e.bytes.now) file) in
    let found : Has (text ++ rest) l = elim (from_has base e x i h (to_in i (owners e x) d) 0 None e.extents.items h) [
      | inl k ↦ has_left text rest l k more
      | inr k ↦ absurd (true≢false (sym k))
    ] in
    record {
      lines = found.all.lines;
      is = found.all.is;
      each = λ m k. found.all.each m (to_in m found.all.lines k);
      among = from_in l found.all.lines found.among;
    }
