use Rattle.std.proofs.Common.{◌≡◌, ℕ, ◌+◌, ◌<◌, false, get_or}
use Rattle.std.specs.Str.{bytes_eq}
use Rattle.build_commands.specs.Inventory.{path_of}
use Rattle.build_commands.specs.declared.inventory.NamedFile.{NamedFile}
use Rattle.build_commands.proofs.overlay.have_repeats.Given as goal

abbrev pub invariant-loop-i : goal.invariant-loop-i
invariant-loop-i l =
    (k : ℕ) (d : NamedFile) → k + 1 < l.i
    → bytes_eq (path_of (get_or l.found k d)) (path_of (get_or l.found (k + 1) d)) ≡ false
