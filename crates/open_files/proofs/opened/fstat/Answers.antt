use Rattle.open_files.proofs.OneNode.{node_here}
use Rattle.open_files.proofs.opened.fstat.Goals as goal

pub returns : goal.returns
returns g c = λ o e. c.stat.ensures o.place (node_here (g.T.Viewed.image c.args.image.now) c.args.opened o e)
