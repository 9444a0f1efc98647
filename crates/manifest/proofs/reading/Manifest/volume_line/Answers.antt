use Rattle.std.proofs.Common.{ap}
use Rattle.manifest.specs.Lines.{ManifestLines}
use Rattle.manifest.proofs.reading.Manifest.volume_line.Goals as goal

pub returns : goal.returns
returns c = ap (λ (m : ManifestLines). m.volume_line) c.self.view_is
