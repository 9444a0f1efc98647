-- Changes of the counts that a reader or writer keeps. `after_read`, `after_write`: the count of
-- failures after one call. `after_flush`, `after_flushes`: the count of successful flushes after
-- one call, and after several successful ones. `Rose`: a count rose, or was at its maximum, 2^64 -
-- 1. (This project's own.)
use Rattle.std.specs.Prelude.{ℕ, zero, suc, ◌+◌, ◌-◌, ◌^◌, ◌<◌, ◌≤◌, ◌≡◌, ◌⊎◌, min, if◌then◌else◌}
use Rattle.std.specs.Prelude.{◌==◌, ◌&&◌, nat_lt, Result, Ok, Err, MatchResult}

-- one more failure, or one more flush
abbrev pub one_more : ℕ → ℕ
one_more n = min (n + 1) (2 ^ 64 - 1)

-- a read or a flush fails at `Err`
abbrev pub after_read : {A E : Type 0} → ℕ → Result A E → ℕ
after_read n (Ok k) = n
after_read n (Err e) = one_more n

-- a write of `len` bytes fails at `Err`, and if it accepts none of some bytes
abbrev pub after_write : {E : Type 0} → ℕ → ℕ → Result ℕ E → ℕ
after_write n len (Ok k) = if k == 0 && nat_lt 0 len then one_more n else n
after_write n len (Err e) = one_more n

-- a flush is counted if it is `Ok`
abbrev pub after_flush : {A E : Type 0} → ℕ → Result A E → ℕ
after_flush n (Ok k) = one_more n
after_flush n (Err e) = n

-- the count of flushes after k flushes, one after the other
abbrev pub after_flushes : ℕ → ℕ → ℕ
after_flushes n zero = n
after_flushes n (suc k) = one_more (after_flushes n k)

-- the count rose, or was at its maximum
abbrev pub Rose : ℕ → ℕ → Type 0
Rose old new = (old < new) ⊎ (2 ^ 64 - 1 ≤ old)

-- failures were counted if there is an error, and none if there is none
abbrev pub Counts : {T E : Type 0} → ℕ → ℕ → Result T E → Type 0
Counts old new r = MatchResult r (λ _. new ≡ old) (λ _. Rose old new)
