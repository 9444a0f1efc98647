use Rattle.std.proofs.Common.{◌≡◌, map, length, take}
use Rattle.image_build.proofs.build.sizes_of.Given as goal

abbrev pub invariant-loop-file : goal.invariant-loop-file
invariant-loop-file l = l.sizes.items ≡ map length (take l.file l.contents)
