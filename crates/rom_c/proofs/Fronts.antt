-- The bytes before the first zero.
use Rattle.std.proofs.Common.{◌+◌, ◌≤◌, ◌==◌, ℕ, suc, Bool, true, false, cond, List, [], ◌∷◌, length, take, drop, arith}
use Rattle.std.proofs.Common.{length-drop}
use Rattle.std.proofs.lemmas.List.{length-take-le}
use Rattle.romfs_format.specs.Record.{before_zero}
use Rattle.romfs_image.specs.declared.image.Parts.{Parts as RomfsParts}
use Rattle.romfs_image.specs.Parts.{AreParts as AreRomfsParts}
use Rattle.cramfs_image.specs.declared.image.Parts.{Parts as CramfsParts}
use Rattle.cramfs_image.specs.Parts.{AreParts as AreCramfsParts}
use Rattle.image_info.specs.Volumes.{romfs_volume, cramfs_volume}

front : (xs : List ℕ) → length (before_zero xs) ≤ length xs
front [] = omega arith
front (x ∷ xs) =
    let r = front xs in
    elim (x == 0) as (λ (b : Bool). length (cond b [] (x ∷ before_zero xs)) ≤ suc (length xs)) [
      | true ↦ omega arith
      | false ↦ omega (arith, r)
    ]

pub romfs_within : (b : List ℕ) → 16 ≤ length b → 16 + length (romfs_volume b) ≤ length b
romfs_within b h =
    let f = front (drop 16 b) in
    let l = length-drop 16 b in
    omega (arith, f, l, h)

pub cramfs_within : (b : List ℕ) → 64 ≤ length b → 48 + length (cramfs_volume b) ≤ length b
unfolding cramfs_volume
cramfs_within b h =
    let f = front (take 16 (drop 48 b)) in
    let l = length-drop 48 b in
    let t = length-take-le 16 (drop 48 b) in
    omega (arith, f, l, t, h)

-- the bytes of a checked image have a superblock
pub long_romfs : (all : List ℕ) (n : RomfsParts) → AreRomfsParts all n → 16 ≤ length all
long_romfs all n h = let a = h.within in let b = h.header in omega (arith, a, b)

pub long_cramfs : (all : List ℕ) (n : CramfsParts) → AreCramfsParts all n → 64 ≤ length all
long_cramfs all n h =
    let a = h.sound.long in
    let t = length-take-le n.accessible all in
    let w = h.within in
    omega (arith, a, t, w)
