use Rattle.headline.proofs.Volumes.{volume_by}
use Rattle.headline.proofs.naming.built_is_named.Goals as goal

pub returns : goal.returns
returns c = λ limits f text contents bytes m v b e shows format.
    volume_by f bytes m.volume limits b.3.tree v b.3.holds
    (c.built_is_placed.ensures.named f text contents bytes m b e) shows format
