-- Extents that members of a list give, each two of them apart, and their overlaps.
use Rattle.std.proofs.Common.{◌≡◌, ◌≢◌, ℕ, zero, suc, ◌<◌, max, true, List, [], ◌∷◌, ◌++◌, inl, inr, refl, sym, ap}
use Rattle.std.proofs.Common.{subst, ◌∙◌, arith}
use Rattle.std.proofs.Math.Nat.{max_comm}
use Rattle.std.specs.List.{flat_map, AllByRecursion as Every}
use Rattle.rom_fields.specs.declared.span.Extent.{Extent}
use Rattle.rom_fields.specs.declared.span.Span.{Span}
use Rattle.rom_fields.specs.Extents.{is_shareable, Overlap, MeetsAt, OverlapsAt, added}
use Rattle.record_forest.specs.declared.reference.Row.{Row}
use Rattle.record_forest.specs.Members.{Has, Pairs}
use Rattle.record_forest.proofs.Lists.{every_join, every_weaker, every_both, has_left, has_right, pairs_join, every_all}

-- two extents that are one are shareable
abbrev pub NotTwin : Span → Span → Type 0
NotTwin x y = x ≡ y → is_shareable x.kind ≡ true

-- an overlap is of two different ones
pub overlap_differs : (x y : Span) → NotTwin x y → Overlap x y → x ≢ y
overlap_differs x y n o e = o.1 (record {
  kind = ap (λ (z : Span). z.kind) e;
  shareable = n e;
  start = ap (λ (z : Span). z.start) e;
  len = ap (λ (z : Span). z.len) e;
})

-- two members of a list that overlap at p
pub record OverlapIn (xs : List Span) (p : ℕ) : Type 0 where
  pub one : Span
  pub other : Span
  pub differ : one ≢ other
  pub one_in : Has (λ z. z ≡ one) xs
  pub other_in : Has (λ z. z ≡ other) xs
  pub overlap : Overlap one other
  pub place : p ≡ max one.start other.start

meets_in : (x : Span) (xs : List Span) (p : ℕ) → Every (NotTwin x) xs → MeetsAt x xs p
    → (y : Span) × (x ≢ y) × Has (λ z. z ≡ y) xs × Overlap x y × (p ≡ max x.start y.start)
meets_in x [] p e h = absurd h
meets_in x (y ∷ ys) p e (inl h) = (y, overlap_differs x y e.0 h.0, inl refl, h.0, h.1)
meets_in x (y ∷ ys) p e (inr h) = let m = meets_in x ys p e.1 h in (m.0, m.1, inr m.2, m.3, m.4)

pub overlaps_in : (xs : List Span) (p : ℕ) → Pairs NotTwin xs → OverlapsAt xs p → OverlapIn xs p
overlaps_in [] p e h = absurd h
overlaps_in (x ∷ xs) p e (inl h) =
    let m = meets_in x xs p e.0 h in
    record { one = x; other = m.0; differ = m.1; one_in = inl refl; other_in = inr m.2; overlap = m.3; place = m.4 }
overlaps_in (x ∷ xs) p e (inr h) =
    let o = overlaps_in xs p e.1 h in
    record {
      one = o.one;
      other = o.other;
      differ = o.differ;
      one_in = inr o.one_in;
      other_in = inr o.other_in;
      overlap = o.overlap;
      place = o.place;
    }

overlap_swaps : (x y : Span) → Overlap x y → Overlap y x
overlap_swaps x y o = (
  (o.0.0, o.0.2, o.0.1),
  λ s. o.1 (record {
    kind = sym s.kind;
    shareable = subst (λ (k : Extent). is_shareable k ≡ true) s.kind s.shareable;
    start = sym s.start;
    len = sym s.len;
  }),
)

meets_of : (x y : Span) (xs : List Span) → Has (λ z. z ≡ y) xs → Overlap x y → MeetsAt x xs (max x.start y.start)
meets_of x y [] h o = absurd h
meets_of x y (z ∷ zs) (inl e) o = inl (subst (Overlap x) (sym e) o, ap (λ (v : Span). max x.start v.start) (sym e))
meets_of x y (z ∷ zs) (inr h) o = inr (meets_of x y zs h o)

pub overlaps_of : (x y : Span) (xs : List Span) → Has (λ z. z ≡ x) xs → Has (λ z. z ≡ y) xs → x ≢ y → Overlap x y
    → OverlapsAt xs (max x.start y.start)
overlaps_of x y [] h k n o = absurd h
overlaps_of x y (z ∷ zs) (inl h) (inl k) n o = absurd (n (sym h ∙ k))
overlaps_of x y (z ∷ zs) (inl h) (inr k) n o =
    inl (subst (λ (v : Span). MeetsAt v zs (max x.start y.start)) (sym h) (meets_of x y zs k o))
overlaps_of x y (z ∷ zs) (inr h) (inl k) n o =
    let m = meets_of y x zs h (overlap_swaps x y o) in
    inl (subst (λ (v : Span). MeetsAt v zs (max x.start y.start)) (sym k)
    (subst (MeetsAt y zs) (max_comm y.start x.start) m))
overlaps_of x y (z ∷ zs) (inr h) (inr k) n o = inr (overlaps_of x y zs h k n o)

-- each of us is in the relation R to all that a function gives of the members
pub every_cross : (R : Span → Span → Type 0) (g : Row → List Span) (us : List Span) (ys : List Row)
    → Every (λ y. Every (λ u. Every (R u) (g y)) us) ys → Every (λ u. Every (R u) (flat_map g ys)) us
every_cross R g us [] h = every_all (λ u. Every (R u) []) (λ u. tt) us
every_cross R g us (y ∷ ys) h =
    every_weaker (λ u. Every (R u) (g y) × Every (R u) (flat_map g ys)) (λ u. Every (R u) (g y ++ flat_map g ys))
    (λ u k. every_join (R u) (g y) (flat_map g ys) k.0 k.1) us
    (every_both (λ u. Every (R u) (g y)) (λ u. Every (R u) (flat_map g ys)) us h.0 (every_cross R g us ys h.1))

-- pairs of what a function gives of each member
pub pairs_flat : (R : Span → Span → Type 0) (S : Row → Row → Type 0) (g : Row → List Span) → ((x : Row) → Pairs R (g x))
    → ((x y : Row) → S x y → Every (λ u. Every (R u) (g y)) (g x))
    → (xs : List Row) → Pairs S xs → Pairs R (flat_map g xs)
pairs_flat R S g own cross [] p = tt
pairs_flat R S g own cross (x ∷ xs) p =
    pairs_join R (g x) (flat_map g xs) (own x) (pairs_flat R S g own cross xs p.1)
    (every_cross R g (g x) xs (every_weaker (S x) (λ y. Every (λ u. Every (R u) (g y)) (g x)) (cross x) xs p.0))

-- what holds of an extent that is added
pub every_added : (P : Span → Type 0) (k : Extent) (s n : ℕ) → (0 < n → P (record { kind = k; start = s; len = n }))
    → Every P (added k s n)
every_added P k s zero h = tt
every_added P k s (suc n) h = (h (omega arith), tt)

pub pairs_added : (R : Span → Span → Type 0) (k : Extent) (s n : ℕ) → Pairs R (added k s n)
pairs_added R k s zero = tt
pairs_added R k s (suc n) = (tt, tt)

pub has_added : (k : Extent) (s n : ℕ) → 0 < n → Has (λ z. z ≡ record { kind = k; start = s; len = n }) (added k s n)
has_added k s zero h = absurd (omega arith)
has_added k s (suc n) h = inl refl

pub has_flat : (P : Span → Type 0) (Q : Row → Type 0) (g : Row → List Span) → ((y : Row) → Q y → Has P (g y))
    → (xs : List Row) → Has Q xs → Has P (flat_map g xs)
has_flat P Q g f [] h = absurd h
has_flat P Q g f (x ∷ xs) (inl h) = has_left P (g x) (flat_map g xs) (f x h)
has_flat P Q g f (x ∷ xs) (inr h) = has_right P (g x) (flat_map g xs) (has_flat P Q g f xs h)

pub every_flat : (P : Span → Type 0) (Q : Row → Type 0) (g : Row → List Span) → ((y : Row) → Q y → Every P (g y))
    → (xs : List Row) → Every Q xs → Every P (flat_map g xs)
every_flat P Q g f [] h = tt
every_flat P Q g f (x ∷ xs) h = every_join P (g x) (flat_map g xs) (f x h.0) (every_flat P Q g f xs h.1)
