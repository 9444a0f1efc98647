-- `pad`: a number, rounded up to a multiple of another. (This project's own.)
use Rattle.std.specs.Prelude.{ℕ, ◌+◌, ◌-◌, ◌*◌, ◌/◌}

-- the least multiple of k that is at least n
abbrev pub pad : ℕ → ℕ → ℕ
pad n k = (n + (k - 1)) / k * k
