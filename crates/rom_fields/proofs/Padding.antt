-- A padded number is no less.
use Rattle.std.proofs.Common.{ℕ, ◌+◌, ◌-◌, ◌<◌, ◌≤◌, arith}
use Rattle.std.proofs.lemmas.Nat.{div-add-mod', mod_below}
use Rattle.rom_fields.specs.Padding.{pad}

pub pad-after : (n k : ℕ) → 0 < k → n ≤ pad n k
pad-after n k h = omega (arith, div-add-mod' (n + (k - 1)) k, mod_below (n + (k - 1)) k h)
