use Rattle.lookups.proofs.index.IndexedTreeImage.is_node.Goals as goal

pub returns : goal.returns
returns g c = c.is_node.ensures
