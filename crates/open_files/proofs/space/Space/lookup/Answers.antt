use Rattle.std.proofs.Common.{true}
use Rattle.path_walk.specs.Graft.{graft}
use Rattle.path_walk.specs.Resolution.{resolution}
use Rattle.open_files.specs.SeenSpace.{images_in, state}
use Rattle.open_files.proofs.Sessions.{looked_up}
use Rattle.open_files.proofs.OneSession.{is_walked, stays}
use Rattle.open_files.proofs.space.Space.lookup.Goals as goal

pub returns-clause-reply : goal.returns-clause-reply
returns-clause-reply g c =
    let s = c.args.self.now in
    let w = is_walked s c.walk.new.self c.walk.ensures.images c.walk.ensures.mounts c.walk.ensures.tables in
    let a = resolution (graft (images_in s) s.mounts.items) c.args.path.now true in
    stays w c.args.session (looked_up (images_in s) s.mounts.items ((state s).own c.args.session) a c.walk.result
    c.walk.ensures.leads)
