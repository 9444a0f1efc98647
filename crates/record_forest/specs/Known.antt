-- `AreKnown`: something holds for each number in each of the ranges that are kept. (This project's
-- own.)
use Rattle.std.specs.Prelude.{◌≡◌, ℕ, ◌≤◌, ◌<◌, Option, Some}
use Rattle.std.specs.BTreeMap.{get}
use Rattle.std.specs.Ordering.{nat_cmp}
use Rattle.record_forest.specs.declared.known.VerifiedRanges.{VerifiedRanges}

-- the end of the range that begins at `start`
abbrev pub end_of : VerifiedRanges → ℕ → Option ℕ
end_of k start = get nat_cmp k.ends start

-- each range of k is one of l
abbrev pub IsPartOf : VerifiedRanges → VerifiedRanges → Type 0
IsPartOf k l = (start end : ℕ) → end_of k start ≡ Some end → end_of l start ≡ Some end

-- P holds for each number in a range
abbrev pub AreKnown : (ℕ → Type 0) → VerifiedRanges → Type 0
AreKnown P k = (start end : ℕ) → end_of k start ≡ Some end → (n : ℕ) → start ≤ n → n < end → P n
