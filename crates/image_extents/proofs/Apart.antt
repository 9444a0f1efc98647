-- Extents that have a byte in common.
use Rattle.std.proofs.Common.{◌≡◌, ◌≢◌, ◌≤◌, ◌<◌, ◌^◌, ℕ, zero, suc, ◌+◌, ◌-◌, List, [], ◌∷◌, ◌++◌, length, map, get_or}
use Rattle.std.proofs.Common.{refl, sym, ap}
use Rattle.std.proofs.Common.{subst, ◌∙◌, arith, inl, inr, max, true, false, if◌then◌else◌, flat_map}
use Rattle.std.proofs.lemmas.Bool.{cases_eq}
use Rattle.std.proofs.lemmas.List.{map-append}
use Rattle.std.proofs.lemmas.Grind.{flat_map-append}
use Rattle.std.proofs.lemmas.List.Sorted.{Contains-permutation, IsPermutation-sym}
use Rattle.rom_fields.specs.declared.span.Extent as span_kind
use Rattle.rom_fields.specs.declared.span.Extent.TheVariants as span
use Rattle.rom_fields.specs.declared.span.Span.{Span}
use Rattle.rom_fields.specs.Extents.{AreShared, Overlap, MeetsAt, OverlapsAt, added, Covers as SpanCovers}
use Rattle.record_forest.specs.declared.reference.Reference.{Reference}
use Rattle.record_forest.specs.Forest.{Forest, none, at, rows, all_rows, count}
use Rattle.romfs_format.specs.Record.{end_of, size_of, type_of, has_data}
use Rattle.romfs_format.specs.Refers.{references}
use Rattle.romfs_format.specs.Tree.{row_extents, IsTree}
use Rattle.image_info.specs.Gaps.{romfs_forest, romfs_extents}
use Rattle.image_info.proofs.Forests.{romfs_is}
use Rattle.image_extents.specs.declared.extent.Record.{Record}
use Rattle.image_extents.specs.declared.extent.Extent.{Extent}
use Rattle.image_extents.specs.declared.extent.Kind.{Kind}
use Rattle.image_extents.specs.declared.extent.Kind.TheVariants.{Super, Header, List as ListOf, Table, Data}
use Rattle.image_extents.specs.Listed.{listed, all_listed, romfs_entry, romfs_listed}
use Rattle.image_extents.specs.Found.{found, romfs_found, found_from, romfs_all_found}
use Rattle.image_extents.specs.Sorted.{IsInOrder}
use Rattle.image_extents.specs.Apart.{AreApart}

abbrev pub kind_of : Kind → span_kind.Extent
kind_of Super = span.Super
kind_of Header = span.Record
kind_of ListOf = span.List
kind_of Table = span.Table
kind_of Data = span.Data

abbrev pub span_of : Extent → Span
span_of x = record { kind = kind_of x.kind; start = x.start; len = x.len }

-- spans of a list that do not overlap

meets : (z : Span) (zs : List Span) (y : Span) (k : ℕ) → k < length zs → get_or zs k y ≡ y → Overlap z y
    → MeetsAt z zs (max z.start y.start)
meets z [] y k h e o = absurd (omega (arith, h))
meets z (w ∷ ws) y zero h e o =
    inl (subst (λ (v : Span). Overlap z v) (sym e) o, ap (λ (v : Span). max z.start v.start) (sym e))
meets z (w ∷ ws) y (suc k) h e o = inr (meets z ws y k (omega (arith, h)) e o)

abbrev SameRange : Span → Span → Type 0
SameRange x y = (x.start ≡ y.start) × (x.len ≡ y.len)

same_range : (x y : Span) → ((AreShared x y → ⊥) → ⊥) → SameRange x y
same_range x y h = elim (cases_eq x.start y.start) [
  | inl s ↦ elim (cases_eq x.len y.len) [
    | inl l ↦ (s, l)
    | inr n ↦ absurd (h (λ a. n a.len))
  ]
  | inr n ↦ absurd (h (λ a. n a.start))
]

turned : (x y : Span) → SameRange x y → SameRange y x
turned x y s = (sym s.0, sym s.1)

apart_at : (xs : List Span) → ((q : ℕ) → OverlapsAt xs q → ⊥) → (x y : Span) (p k m : ℕ) → SpanCovers x p
    → SpanCovers y p
    → k < length xs → get_or xs k x ≡ x → m < length xs → get_or xs m y ≡ y → SameRange x y
apart_at [] h x y p k m cx cy l e n f = absurd (omega (arith, l))
apart_at (z ∷ zs) h x y p zero zero cx cy l e n f =
    (ap (λ (v : Span). v.start) (sym e ∙ f), ap (λ (v : Span). v.len) (sym e ∙ f))
apart_at (z ∷ zs) h x y p zero (suc m) cx cy l e n f =
    let c : SpanCovers z p = subst (λ (v : Span). SpanCovers v p) (sym e) cx in
    let s = same_range z y (λ w. h (max z.start y.start) (inl (meets z zs y m (omega (arith, n)) f ((p, c, cy), w)))) in
    subst (λ (v : Span). SameRange v y) e s
apart_at (z ∷ zs) h x y p (suc k) zero cx cy l e n f =
    let c : SpanCovers z p = subst (λ (v : Span). SpanCovers v p) (sym f) cy in
    let s = same_range z x (λ w. h (max z.start x.start) (inl (meets z zs x k (omega (arith, l)) e ((p, c, cx), w)))) in
    turned y x (subst (λ (v : Span). SameRange v x) f s)
apart_at (z ∷ zs) h x y p (suc k) (suc m) cx cy l e n f =
    apart_at zs (λ q o. h q (inr o)) x y p k m cx cy (omega (arith, l)) e (omega (arith, n)) f

mapped_at : (xs : List Extent) (x : Extent) (k : ℕ) → k < length xs → get_or xs k x ≡ x
    → (k < length (map span_of xs)) × (get_or (map span_of xs) k (span_of x) ≡ span_of x)
mapped_at [] x k l e = absurd (omega (arith, l))
mapped_at (z ∷ zs) x zero l e = (omega arith, ap span_of e)
mapped_at (z ∷ zs) x (suc k) l e =
    let t = mapped_at zs x k (omega (arith, l)) e in let u = t.0 in (omega (arith, u), t.1)

pub apart_of : (xs : List Extent) → ((q : ℕ) → OverlapsAt (map span_of xs) q → ⊥) → AreApart xs
apart_of xs h x y p cx cy vx vy =
    let s = mapped_at xs x cx.0 cx.1 cx.2 in
    let t = mapped_at xs y cy.0 cy.1 cy.2 in
    apart_at (map span_of xs) h (span_of x) (span_of y) p cx.0 cy.0 vx vy s.0 s.1 t.0 t.1

-- the extents of romfs are those of which a check finds that no two overlap

pub span_found : (kind : Kind) (start len offset i : ℕ)
    → map span_of (found kind start len offset i) ≡ added (kind_of kind) start len
span_found kind start zero offset i = refl
span_found kind start (suc n) offset i = refl

-- those of the record at an offset, and of the records of a forest
abbrev romfs_record : List ℕ → ℕ → List Span
romfs_record b p =
    added span.Record p (end_of b p - p)
    ++ (if has_data (type_of b p) then added span.Data (end_of b p) (size_of b p) else [])

abbrev taken : List ℕ → Forest → List Span
taken b none = []
taken b (at p own after) = romfs_record b p ++ (taken b own ++ taken b after)

record_spans : (b : List ℕ) (p i : ℕ) → map span_of (romfs_found b p i) ≡ romfs_record b p
record_spans b p i =
    map-append span_of (found Header p (end_of b p - p) 0 i)
    (if has_data (type_of b p) then found Data (end_of b p) (size_of b p) 0 i else [])
    ∙ ap (λ (v : List Span). v ++ map span_of
    (if has_data (type_of b p) then found Data (end_of b p) (size_of b p) 0 i else []))
    (span_found Header p (end_of b p - p) 0 i)
    ∙ ap (λ (v : List Span). added span.Record p (end_of b p - p) ++ v)
    (elim (has_data (type_of b p)) as
    (λ v. map span_of (if v then found Data (end_of b p) (size_of b p) 0 i else [])
    ≡ (if v then added span.Data (end_of b p) (size_of b p) else []))
    [ true ↦ span_found Data (end_of b p) (size_of b p) 0 i | false ↦ refl ])

abbrev spans_at : List ℕ → Record → List Span
spans_at b x = romfs_record b x.offset

all_spans : (b : List ℕ) (n : ℕ) (rs : List Record)
    → map span_of (found_from (romfs_found b) n rs) ≡ flat_map (spans_at b) rs
all_spans b n [] = refl
all_spans b n (x ∷ xs) =
    map-append span_of (romfs_found b x.offset n) (found_from (romfs_found b) (suc n) xs)
    ∙ ap (λ (v : List Span). v ++ map span_of (found_from (romfs_found b) (suc n) xs)) (record_spans b x.offset n)
    ∙ ap (λ (v : List Span). romfs_record b x.offset ++ v) (all_spans b (suc n) xs)

listed_spans : (b : List ℕ) (n d : ℕ) (f : Forest) → flat_map (spans_at b) (listed (romfs_entry b) n d f) ≡ taken b f
listed_spans b n d none = refl
listed_spans b n d (at p own after) =
    ap (λ (v : List Span). romfs_record b p ++ v)
    (flat_map-append (spans_at b) (listed (romfs_entry b) (suc n) n own)
    (listed (romfs_entry b) (suc n + count own) d after)
    ∙ ap (λ (v : List Span). v ++ flat_map (spans_at b) (listed (romfs_entry b) (suc n + count own) d after))
    (listed_spans b (suc n) n own)
    ∙ ap (λ (v : List Span). taken b own ++ v) (listed_spans b (suc n + count own) d after))

rows_take : (b : List ℕ) (r : ℕ) (x : Reference) (directory parent deep : ℕ) (f : Forest)
    → flat_map (row_extents b) (rows (references b r) x directory parent deep f) ≡ taken b f
rows_take b r x directory parent deep none = refl
rows_take b r x directory parent deep (at p own after) =
    let g = references b r in
    let e = flat_map-append (row_extents b) (rows g (g.own x) p directory (deep + 1) own)
    (rows g (g.after x) directory parent deep after) in
    let l = rows_take b r (g.own x) p directory (deep + 1) own in
    let m = rows_take b r (g.after x) directory parent deep after in
    ap (λ (v : List Span). romfs_record b p ++ v)
    (e ∙ ap (λ (v : List Span). v ++ flat_map (row_extents b) (rows g (g.after x) directory parent deep after)) l
    ∙ ap (λ (v : List Span). taken b own ++ v) m)

whole_listed : (b : List ℕ) (f : Forest) → flat_map (spans_at b) (all_listed (romfs_entry b) f) ≡ taken b f
whole_listed b none = refl
whole_listed b (at r own after) =
    ap (λ (v : List Span). romfs_record b r ++ v)
    (flat_map-append (spans_at b) (listed (romfs_entry b) 1 0 own) (listed (romfs_entry b) (suc (count own)) 0 after)
    ∙ ap (λ (v : List Span). v ++ flat_map (spans_at b) (listed (romfs_entry b) (suc (count own)) 0 after))
    (listed_spans b 1 0 own)
    ∙ ap (λ (v : List Span). taken b own ++ v) (listed_spans b (suc (count own)) 0 after))

whole_rows : (b : List ℕ) (r : ℕ) (f : Forest) → flat_map (row_extents b) (all_rows (references b r) f) ≡ taken b f
whole_rows b r none = refl
whole_rows b r (at q own after) =
    let g = references b r in
    ap (λ (v : List Span). romfs_record b q ++ v)
    (flat_map-append (row_extents b) (rows g (g.own g.top) q q 1 own) (rows g (g.after g.top) q q 1 after)
    ∙ ap (λ (v : List Span). v ++ flat_map (row_extents b) (rows g (g.after g.top) q q 1 after))
    (rows_take b r (g.own g.top) q q 1 own)
    ∙ ap (λ (v : List Span). taken b own ++ v) (rows_take b r (g.after g.top) q q 1 after))

romfs_spans : (b : List ℕ) (r : ℕ) → map span_of (romfs_all_found b r) ≡ romfs_extents b r
unfolding romfs_all_found romfs_listed romfs_extents
romfs_spans b r =
    map-append span_of (found Super 0 r 0 0) (found_from (romfs_found b) 0 (romfs_listed b r))
    ∙ ap (λ (v : List Span). v ++ map span_of (found_from (romfs_found b) 0 (romfs_listed b r)))
    (span_found Super 0 r 0 0)
    ∙ ap (λ (v : List Span). added span.Super 0 r ++ v)
    (all_spans b 0 (romfs_listed b r) ∙ whole_listed b (romfs_forest b r) ∙ sym (whole_rows b r (romfs_forest b r)))

pub romfs_apart : (b : List ℕ) (r most deepest : ℕ) (f : Forest) (xs : List Extent) → r ≢ 0 → IsTree b r most deepest f
    → length (all_rows (references b r) f) ≤ 2 ^ 32 → IsInOrder (romfs_all_found b r) xs → AreApart xs
unfolding romfs_extents
romfs_apart b r most deepest f xs live t few a =
    let same : romfs_forest b r ≡ f = romfs_is b r most deepest f live t few in
    let none_at : (q : ℕ) → OverlapsAt (romfs_extents b r) q → ⊥ =
    λ q o. t.apart q (subst (λ (v : Forest). OverlapsAt
    (added span.Super 0 r ++ flat_map (row_extents b) (all_rows (references b r) v)) q) same o) in
    let apart : AreApart (romfs_all_found b r) =
    apart_of (romfs_all_found b r) (λ q o. none_at q (subst (λ (v : List Span). OverlapsAt v q) (romfs_spans b r) o)) in
    λ x y p cx cy vx vy. apart x y p
    (Contains-permutation xs (romfs_all_found b r) x (IsPermutation-sym _ _ a.same) cx)
    (Contains-permutation xs (romfs_all_found b r) y (IsPermutation-sym _ _ a.same) cy) vx vy
