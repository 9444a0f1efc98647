use Rattle.std.proofs.Common.{Some}
use Rattle.open_files.specs.Calls.{viewed}
use Rattle.open_files.specs.Slots.{calls_of, labelled}
use Rattle.open_files.proofs.OneSession.{looks}
use Rattle.open_files.proofs.space.Space.fstat.Goals as goal

pub returns : goal.returns
returns g c =
    looks c.args.self.now c.args.session c.requires.session c.new-images.ensures.images c.new-images.ensures.mounts
    c.index-self-session.result (λ v t. (calls_of g.row.N v).fstat t c.args.fd.0)
    (viewed (labelled Some (λ s. s)) c.fstat.result) c.fstat.ensures
