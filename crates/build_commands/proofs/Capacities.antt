-- What a format can hold are the nearest attributes.
use Rattle.std.proofs.Common.{◌≡◌, ℕ, min, refl, arith}
use Rattle.manifest.specs.declared.line.Line.{Line}
use Rattle.formats.specs.Capacity.{capacity_of}
use Rattle.formats.specs.declared.format.Format.{Format}
use Rattle.formats.specs.declared.format.Format.TheVariants.{Romfs, Cramfs, CramfsBig}
use Rattle.build_commands.specs.Nearest.{nearest_in, within}

min_zero : (n : ℕ) → min n 0 ≡ 0
min_zero n = omega arith

pub within_is : (f : Format) (l : Line) → within (capacity_of f) l ≡ nearest_in f l
within_is Romfs l = rw (min_zero l.uid, min_zero l.gid) refl
within_is Cramfs l = refl
within_is CramfsBig l = refl
