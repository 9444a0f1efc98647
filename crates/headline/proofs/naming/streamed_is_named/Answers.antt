use Rattle.image_build.specs.Streamed.{image_with}
use Rattle.headline.proofs.Volumes.{volume_by}
use Rattle.headline.proofs.naming.streamed_is_named.Goals as goal

pub returns : goal.returns
returns c = λ limits text p known old new v is w shows format.
    let law = c.streamed_is_placed.ensures in
    let tree = law.holds text p known old new is w in
    volume_by p.format (image_with p w.rest) is.lines.volume limits tree.0 v tree.1
    (law.named text p known old new is w) shows format
