-- The numbers of a device. Linux packs them into one of 64 bits, as makedev(3) says: bits 0 to 7
-- and 20 to 43 are the minor number, bits 8 to 19 and 44 to 63 the major one.
use Rattle.std.specs.Prelude.{ℕ, ◌+◌, ◌*◌, ◌/◌, ◌%◌, ◌^◌}

abbrev pub major_of : ℕ → ℕ
major_of n = n / 2 ^ 44 * 2 ^ 12 + n / 2 ^ 8 % 2 ^ 12

abbrev pub minor_of : ℕ → ℕ
minor_of n = n / 2 ^ 20 % 2 ^ 24 * 2 ^ 8 + n % 2 ^ 8
