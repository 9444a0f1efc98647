use Rattle.std.proofs.Common.{◌≡◌, ℕ, List, take}
use Rattle.build_commands.specs.Fitting.{has_directory, holds}
use Rattle.build_commands.proofs.fits.directories.Given as goal

abbrev pub invariant-loop-file : goal.invariant-loop-file
invariant-loop-file l = (path : List ℕ) → holds l.set path ≡ has_directory (take l.file-index l.listed) path
