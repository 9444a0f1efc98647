use Rattle.std.proofs.Common.{take, ◌≡◌, ◌≤◌}
use Rattle.std.specs.Prelude.{◌⊎◌}
use Rattle.std.specs.List.{All, Any}
use Rattle.cramfs_image.proofs.depth.greatest_depth.Given as goal

abbrev pub invariant-rows : goal.invariant-rows
invariant-rows l = record {
  bound : All (λ x. x.depth ≤ l.deepest) (take l.row-index l.rows);
  reached : (l.deepest ≡ 0) ⊎ Any (λ x. x.depth ≡ l.deepest) (take l.row-index l.rows);
}
