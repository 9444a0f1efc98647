-- Extents that are one after the other do not overlap.
use Rattle.std.proofs.Common.{ℕ, zero, suc, ◌+◌, ◌≤◌, List, [], ◌∷◌, ◌++◌, arith, inl, inr}
use Rattle.rom_fields.specs.declared.span.Extent.{Extent}
use Rattle.rom_fields.specs.declared.span.Span.{Span}
use Rattle.rom_fields.specs.Extents.{MeetsAt, OverlapsAt, added}

-- one after the other, none before `from`, and all end before `to`
abbrev pub Climbs : ℕ → ℕ → List Span → Type 0
Climbs from to [] = from ≤ to
Climbs from to (s ∷ ss) = (from ≤ s.start) × Climbs (s.start + s.len) to ss

pub climbs_later : (from up to : ℕ) (ss : List Span) → from ≤ up → Climbs up to ss → Climbs from to ss
climbs_later from up to [] h k = omega arith
climbs_later from up to (s ∷ ss) h k = let l = k.0 in (omega arith, k.1)

pub climbs_added : (k : Extent) (from s n to : ℕ) (ss : List Span) → from ≤ s → Climbs (s + n) to ss
    → Climbs from to (added k s n ++ ss)
climbs_added k from s zero to ss h c = climbs_later from (s + 0) to ss (omega arith) c
climbs_added k from s (suc n) to ss h c = (h, c)

no_meeting : (x : Span) (from to : ℕ) (ss : List Span) (p : ℕ) → x.start + x.len ≤ from → Climbs from to ss
    → MeetsAt x ss p → ⊥
no_meeting x from to [] p l c m = m
no_meeting x from to (s ∷ ss) p l c (inl o) = let a = c.0 in let u = o.0.0.1.1 in let v = o.0.0.2.0 in omega arith
no_meeting x from to (s ∷ ss) p l c (inr m) = let a = c.0 in no_meeting x (s.start + s.len) to ss p (omega arith) c.1 m

pub no_overlap : (from to : ℕ) (ss : List Span) (p : ℕ) → Climbs from to ss → OverlapsAt ss p → ⊥
no_overlap from to [] p c o = o
no_overlap from to (s ∷ ss) p c (inl m) = no_meeting s (s.start + s.len) to ss p (omega arith) c.1 m
no_overlap from to (s ∷ ss) p c (inr o) = no_overlap (s.start + s.len) to ss p c.1 o
