-- Sections that rise, and sections that are put in order.
use Rattle.std.proofs.Common.{◌≡◌, ℕ, ◌+◌, ◌<◌, ◌≤◌, nat_lt, true, false, cond, ◌⊎◌, inl, inr, List, [], ◌∷◌, refl}
use Rattle.std.proofs.Common.{arith}
use Rattle.std.proofs.lemmas.Bool.{ltb-true, ltb-false}
use Rattle.std.specs.List.{AllByRecursion as Every}
use Rattle.record_forest.specs.Members.{Pairs}
use Rattle.manifest_tree.specs.Items.{Section, put_section, in_order, SectionsRise}

pub rise_later : (from up end : ℕ) (ss : List Section) → from ≤ up → SectionsRise up end ss → SectionsRise from end ss
rise_later from up end [] h k = omega arith
rise_later from up end (s ∷ ss) h k = let l = k.0 in (omega arith, k.1, k.2)

pub rise_wider : (from end top : ℕ) (ss : List Section) → end ≤ top → SectionsRise from end ss
    → SectionsRise from top ss
rise_wider from end top [] h k = omega arith
rise_wider from end top (s ∷ ss) h k = (k.0, k.1, rise_wider (s.place + s.len) end top ss h k.2)

-- one ends before the other begins
abbrev pub AreApart : Section → Section → Type 0
AreApart x y = (x.place + x.len ≤ y.place) ⊎ (y.place + y.len ≤ x.place)

-- not empty, and within a range
abbrev pub LiesIn : ℕ → ℕ → Section → Type 0
LiesIn from end s = (from ≤ s.place) × (0 < s.len) × (s.place + s.len ≤ end)

put_rises : (s : Section) (ts : List Section) (from end : ℕ) → LiesIn from end s → Every (AreApart s) ts
    → SectionsRise from end ts → SectionsRise from end (put_section s ts)
put_rises s [] from end l a r = (l.0, l.1, l.2)
put_rises s (t ∷ ts) from end l a r =
    elim (nat_lt s.place t.place) as (λ b. nat_lt s.place t.place ≡ b
    → SectionsRise from end (cond b (s ∷ t ∷ ts) (t ∷ put_section s ts))) [
      | true ↦ λ e.
          let p = ltb-true s.place t.place e in
          let n = r.1 in
          let m = l.1 in
          (l.0, l.1, (elim a.0 [ inl u ↦ u | inr u ↦ absurd (omega arith) ], r.1, r.2))
      | false ↦ λ e.
          let p = ltb-false s.place t.place e in
          let n = r.1 in
          let m = l.1 in (
            r.0,
            r.1,
            put_rises s ts (t.place + t.len) end
                (elim a.0 [ inl u ↦ absurd (omega arith) | inr u ↦ u ], l.1, l.2) a.1 r.2,
          )
    ] refl

put_every : (P : Section → Type 0) (s : Section) (ts : List Section) → P s → Every P ts → Every P (put_section s ts)
put_every P s [] p h = (p, tt)
put_every P s (t ∷ ts) p h =
    elim (nat_lt s.place t.place) as (λ b. Every P (cond b (s ∷ t ∷ ts) (t ∷ put_section s ts))) [
      | true ↦ (p, h)
      | false ↦ (h.0, put_every P s ts p h.1)
    ]

pub order_every : (P : Section → Type 0) (ss : List Section) → Every P ss → Every P (in_order ss)
order_every P [] h = tt
order_every P (s ∷ ss) h = put_every P s (in_order ss) h.0 (order_every P ss h.1)

-- sections that are apart rise if they are in order
pub order_rises : (from end : ℕ) (ss : List Section) → from ≤ end → Every (LiesIn from end) ss → Pairs AreApart ss
    → SectionsRise from end (in_order ss)
order_rises from end [] l h a = l
order_rises from end (s ∷ ss) l h a =
    put_rises s (in_order ss) from end h.0 (order_every (AreApart s) ss a.0) (order_rises from end ss l h.1 a.1)

put_back : (P : Section → Type 0) (s : Section) (ts : List Section) → Every P (put_section s ts) → P s × Every P ts
put_back P s [] h = (h.0, tt)
put_back P s (t ∷ ts) h = elim (nat_lt s.place t.place) as
    (λ b. Every P (cond b (s ∷ t ∷ ts) (t ∷ put_section s ts)) → P s × Every P (t ∷ ts)) [
      | true ↦ λ k. (k.0, k.1)
      | false ↦ λ k. let r = put_back P s ts k.1 in (r.0, (k.0, r.1))
    ] h

-- what holds of all in order holds of all
pub order_back : (P : Section → Type 0) (ss : List Section) → Every P (in_order ss) → Every P ss
order_back P [] h = tt
order_back P (s ∷ ss) h = let r = put_back P s (in_order ss) h in (r.0, order_back P ss r.1)
