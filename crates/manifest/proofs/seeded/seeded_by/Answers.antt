use Rattle.std.proofs.Common.{◌≡◌, arith}
use Rattle.std.proofs.lemmas.Grind.{common_steps}
use Rattle.manifest.proofs.seeded.seeded_by.Goals as goal

pub loop-line-preserved : goal.loop-line-preserved
loop-line-preserved c =
    let path : c.as_bytes.result.now ≡ c.line-item.result.path = c.as_bytes.ensures in grind (arith, common_steps)
