-- The section of an index.
use Rattle.std.proofs.Common.{◌≡◌, ◌<◌, ◌≤◌, ℕ, zero, suc, List, [], ◌∷◌, map, length, get_or, Some, None, refl, arith}
use Rattle.manifest_layout.specs.declared.section.Section.{Section}
use Rattle.manifest_layout.specs.Views.{section_view}
use Rattle.manifest_layout.specs.Plans.{section_at}

pub section_some : (ss : List Section) (i : ℕ) (d : Section) → i < length ss
    → Some (section_view (get_or ss i d)) ≡ section_at (map section_view ss) i
section_some [] i d h = absurd (omega (arith, h))
section_some (s ∷ ss) zero d h = refl
section_some (s ∷ ss) (suc i) d h = section_some ss i d (omega (arith, h))

pub section_none : (ss : List Section) (i : ℕ) → length ss ≤ i → None ≡ section_at (map section_view ss) i
section_none [] i h = refl
section_none (s ∷ ss) zero h = absurd (omega (arith, h))
section_none (s ∷ ss) (suc i) h = section_none ss i (omega (arith, h))
