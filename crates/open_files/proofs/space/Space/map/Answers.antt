use Rattle.std.proofs.Common.{Some}
use Rattle.open_files.specs.Calls.{viewed}
use Rattle.open_files.specs.Slots.{calls_of, labelled, lent_by}
use Rattle.open_files.proofs.OneSession.{looks}
use Rattle.open_files.proofs.space.Space.map.Goals as goal

pub returns : goal.returns
returns g c =
    looks c.args.self.now c.args.session c.requires.session c.new-images.ensures.images c.new-images.ensures.mounts
    c.index-self-session.result (λ v t. (calls_of g.row.N v).map_piece t c.args.fd.0 c.args.off c.args.len)
    (viewed (labelled Some lent_by) c.map.result) c.map.ensures
