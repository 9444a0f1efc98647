-- Extents of which no two overlap, except those of one range. (This project's own.)
use Rattle.std.specs.Prelude.{◌≡◌, ℕ, ◌+◌, ◌<◌, ◌≤◌, ◌⊎◌, List}
use Rattle.std.specs.List.{Contains}
use Rattle.image_extents.specs.declared.extent.Extent.{Extent}

-- the byte at p is in the extent
abbrev pub Covers : Extent → ℕ → Type 0
Covers x p = (x.start ≤ p) × (p < x.start + x.len)

-- two extents that have a byte in common have the same range
abbrev pub AreApart : List Extent → Type 0
AreApart xs =
    (x y : Extent) (p : ℕ) → Contains xs x → Contains xs y → Covers x p → Covers y p
    → (x.start ≡ y.start) × (x.len ≡ y.len)

-- y has the range of x, or begins where x ends or after it
abbrev pub Follows : Extent → Extent → Type 0
Follows x y = ((y.start ≡ x.start) × (y.len ≡ x.len)) ⊎ (x.start + x.len ≤ y.start)
