use Rattle.std.proofs.Common.{ap, ◌∙◌}
use Rattle.manifest.specs.Lines.{ManifestLines}
use Rattle.manifest.proofs.reading.Manifest.volume.Goals as goal

pub returns : goal.returns
returns c = c.as_bytes.ensures ∙ ap (λ (m : ManifestLines). m.volume) c.self.view_is
