use Rattle.std.proofs.Common.{Some}
use Rattle.open_files.specs.Calls.{viewed}
use Rattle.open_files.specs.Slots.{calls_of, labelled, lent_by}
use Rattle.open_files.proofs.OneSession.{still_sound, answers}
use Rattle.open_files.proofs.space.Space.lend.Goals as goal

pub invariant_of-self-clause-sound : goal.invariant_of-self-clause-sound
invariant_of-self-clause-sound g c =
    still_sound c.args.self.now c.args.session c.requires.session c.new-images.ensures.images
    c.new-images.ensures.mounts c.lend.new.slots c.lend.ensures.sound

pub returns-clause-reply : goal.returns-clause-reply
returns-clause-reply g c =
    answers c.args.self.now c.args.session c.requires.session c.new-images.ensures.images c.new-images.ensures.mounts
    c.index-tables-session.result c.lend.new.slots (λ v t. (calls_of g.row.N v).lend_piece t c.args.fd.0 c.args.max)
    (viewed (labelled Some lent_by) c.lend.result) c.lend.ensures.reply
