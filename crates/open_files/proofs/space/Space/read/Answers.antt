use Rattle.std.proofs.Common.{length}
use Rattle.std.specs.Prelude.{take}
use Rattle.open_files.specs.Calls.{viewed}
use Rattle.open_files.specs.Slots.{calls_of}
use Rattle.open_files.proofs.OneSession.{still_sound, answers}
use Rattle.open_files.proofs.space.Space.read.Goals as goal

pub invariant_of-self-clause-sound : goal.invariant_of-self-clause-sound
invariant_of-self-clause-sound g c =
    still_sound c.args.self.now c.args.session c.requires.session c.new-images.ensures.images
    c.new-images.ensures.mounts c.read.new.slots c.read.ensures.sound

pub returns-clause-reply : goal.returns-clause-reply
returns-clause-reply g c =
    answers c.args.self.now c.args.session c.requires.session c.new-images.ensures.images c.new-images.ensures.mounts
    c.index-tables-session.result c.read.new.slots
    (λ v t. (calls_of g.row.N v).read_bytes t c.args.fd.0 (length c.args.buf.now))
    (viewed (λ x. take x c.read.new.buf) c.read.result) c.read.ensures.reply
