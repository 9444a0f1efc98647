use Rattle.std.proofs.Common.{◌≡◌}
use Rattle.plan_rows.specs.Files.{IsOf}
use Rattle.build_commands.specs.Foreseen.{cramfs_is, told}
use Rattle.build_commands.specs.Planned.{AreFirst}
use Rattle.build_commands.proofs.Told.{IsCounted}
use Rattle.build_commands.proofs.warnings.cramfs_warnings.Given as goal

abbrev pub invariant-loop-line : goal.invariant-loop-line
invariant-loop-line l = record {
  all : l.all ≡ l.manifest.lines;
  block : IsCounted l.manifest.lines (λ s. IsOf l.manifest.lines s l.files × AreFirst l.manifest.lines s l.first)
      (cramfs_is (λ x. x.last_block) l.manifest.lines)
      l.line-index (told l.block);
  table : IsCounted l.manifest.lines (λ s. IsOf l.manifest.lines s l.files × AreFirst l.manifest.lines s l.first)
      (cramfs_is (λ x. x.shared_table) l.manifest.lines)
      l.line-index (told l.table);
  device : IsCounted l.manifest.lines (λ s. IsOf l.manifest.lines s l.files × AreFirst l.manifest.lines s l.first)
      (cramfs_is (λ x. x.device) l.manifest.lines)
      l.line-index (told l.device);
  padded : IsCounted l.manifest.lines (λ s. IsOf l.manifest.lines s l.files × AreFirst l.manifest.lines s l.first)
      (cramfs_is (λ x. x.name_padded) l.manifest.lines)
      l.line-index (told l.padded);
  link : IsCounted l.manifest.lines (λ s. IsOf l.manifest.lines s l.files × AreFirst l.manifest.lines s l.first)
      (cramfs_is (λ x. x.link_cut) l.manifest.lines)
      l.line-index (told l.link);
  mode : IsCounted l.manifest.lines (λ s. IsOf l.manifest.lines s l.files × AreFirst l.manifest.lines s l.first)
      (cramfs_is (λ x. x.root_mode) l.manifest.lines)
      l.line-index (told l.mode);
}
