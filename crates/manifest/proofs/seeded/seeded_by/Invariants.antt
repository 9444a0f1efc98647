use Rattle.std.proofs.Common.{◌≡◌, take}
use Rattle.manifest.specs.Seeds.{behind}
use Rattle.manifest.proofs.seeded.seeded_by.Given as goal

abbrev pub invariant-loop-line : goal.invariant-loop-line
invariant-loop-line l = l.seeded.begun ≡ behind (take l.line-index l.lines)
