use Rattle.std.proofs.Common.{◌≡◌, arith}
use Rattle.std.proofs.lemmas.Grind.{common_steps}
use Rattle.manifest.proofs.reader.Reader.read_volume.Goals as goal

pub returns-clause-reads : goal.returns-clause-reads
returns-clause-reads c = let first : c.args.self.now.volume_line ≡ 0 = omega arith in grind (arith, common_steps)
