-- `Overlap`: two extents share a byte. Two tables, or two runs of data, do not overlap if they have
-- the same start and length. `OverlapsAt`: two extents of a list overlap at an offset. `IsLeastOf`:
-- the least such offset, or none. (This project's own.)
use Rattle.std.specs.Prelude.{◌≡◌, ℕ, zero, suc, ◌+◌, ◌<◌, ◌≤◌, ◌⊎◌, max, Bool, true, false, List}
use Rattle.std.specs.Prelude.{[], ◌∷◌, Option, IfSome, IsSomeAnd}
use Rattle.rom_fields.specs.declared.span.Extent.{Extent}
use Rattle.rom_fields.specs.declared.span.Extent.TheVariants.{Super, Record, List as ListOf, Table}
use Rattle.rom_fields.specs.declared.span.Extent.TheVariants.{Data}
use Rattle.rom_fields.specs.declared.span.Span.{Span}

-- tables and data may be shared whole
abbrev pub is_shareable : Extent → Bool
is_shareable Super = false
is_shareable Record = false
is_shareable ListOf = false
is_shareable Table = true
is_shareable Data = true

-- both are tables or both data, with equal start and length
pub record AreShared (x y : Span) : Type 0 where
  pub kind : x.kind ≡ y.kind
  pub shareable : is_shareable x.kind ≡ true
  pub start : x.start ≡ y.start
  pub len : x.len ≡ y.len

-- the byte at p is in the extent
abbrev pub Covers : Span → ℕ → Type 0
Covers x p = (x.start ≤ p) × (p < x.start + x.len)

-- a byte is in both
abbrev pub HaveCommonByte : Span → Span → Type 0
HaveCommonByte x y = (p : ℕ) × Covers x p × Covers y p

-- a byte is in both, and they are not shared
abbrev pub Overlap : Span → Span → Type 0
Overlap x y = HaveCommonByte x y × (AreShared x y → ⊥)

-- x overlaps one of the others, at the greater of the two starts
abbrev pub MeetsAt : Span → List Span → ℕ → Type 0
MeetsAt x [] p = ⊥
MeetsAt x (y ∷ ys) p = (Overlap x y × (p ≡ max x.start y.start)) ⊎ MeetsAt x ys p

-- two of the extents overlap at p
abbrev pub OverlapsAt : List Span → ℕ → Type 0
OverlapsAt [] p = ⊥
OverlapsAt (x ∷ xs) p = MeetsAt x xs p ⊎ OverlapsAt xs p

-- the least number for which P holds, or none if there is none
pub record IsLeastOf (P : ℕ → Type 0) (o : Option ℕ) : Type 0 where
  pub here : IfSome o P
  pub least : (p : ℕ) → P p → IsSomeAnd o (λ q. q ≤ p)

-- the members that an extent adds to the list: none if it has no byte
abbrev pub added : Extent → ℕ → ℕ → List Span
added kind start zero = []
added kind start (suc n) = record { kind = kind; start = start; len = suc n } ∷ []
