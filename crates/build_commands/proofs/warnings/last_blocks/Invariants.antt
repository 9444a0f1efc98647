use Rattle.std.proofs.Common.{◌≡◌, ℕ, List, filter, map, take}
use Rattle.plan_rows.specs.Files.{IsOf}
use Rattle.build_commands.specs.Foreseen.{cramfs_is}
use Rattle.build_commands.specs.Planned.{AreFirst}
use Rattle.build_commands.proofs.warnings.last_blocks.Given as goal

abbrev pub invariant-loop-line : goal.invariant-loop-line
invariant-loop-line l =
    (l.all ≡ l.manifest.lines)
    × ((sizes : List ℕ) → IsOf l.manifest.lines sizes l.files → AreFirst l.manifest.lines sizes l.first
    → map (λ k. k.now) l.found.items
    ≡ filter (cramfs_is (λ x. x.last_block) l.manifest.lines sizes) (take l.line-index l.manifest.lines))
