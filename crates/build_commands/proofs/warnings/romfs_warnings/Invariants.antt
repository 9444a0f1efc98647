use Rattle.std.proofs.Common.{◌≡◌}
use Rattle.plan_rows.specs.Files.{IsOf}
use Rattle.build_commands.specs.Foreseen.{romfs_is, told}
use Rattle.build_commands.proofs.Told.{IsCounted}
use Rattle.build_commands.proofs.warnings.romfs_warnings.Given as goal

abbrev pub invariant-loop-line : goal.invariant-loop-line
invariant-loop-line l = record {
  all : l.all ≡ l.manifest.lines;
  cut : IsCounted l.manifest.lines (λ s. IsOf l.manifest.lines s l.files) (romfs_is (λ x. x.name_cut) l.manifest.lines)
      l.line-index (told l.cut);
  long : IsCounted l.manifest.lines (λ s. IsOf l.manifest.lines s l.files)
      (romfs_is (λ x. x.name_too_long) l.manifest.lines)
      l.line-index (told l.long);
  device : IsCounted l.manifest.lines (λ s. IsOf l.manifest.lines s l.files) (romfs_is (λ x. x.device) l.manifest.lines)
      l.line-index (told l.device);
  link : IsCounted l.manifest.lines (λ s. IsOf l.manifest.lines s l.files) (romfs_is (λ x. x.link_cut) l.manifest.lines)
      l.line-index (told l.link);
  place : IsCounted l.manifest.lines (λ s. IsOf l.manifest.lines s l.files)
      (romfs_is (λ x. x.other_place) l.manifest.lines)
      l.line-index (told l.place);
}
