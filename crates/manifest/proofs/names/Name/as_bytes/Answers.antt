use Rattle.std.proofs.Common.{◌∙◌}
use Rattle.manifest.proofs.names.Name.as_bytes.Goals as goal

pub returns : goal.returns
returns c = c.as_slice.ensures.value ∙ c.self.view_is
