use Rattle.open_files.specs.Slots.{calls_of}
use Rattle.open_files.proofs.OneSession.{still_sound, answers}
use Rattle.open_files.proofs.space.Space.seek.Goals as goal

pub invariant_of-self-clause-sound : goal.invariant_of-self-clause-sound
invariant_of-self-clause-sound g c =
    still_sound c.args.self.now c.args.session c.requires.session c.new-images.ensures.images
    c.new-images.ensures.mounts c.seek.new.slots c.seek.ensures.sound

pub returns-clause-reply : goal.returns-clause-reply
returns-clause-reply g c =
    answers c.args.self.now c.args.session c.requires.session c.new-images.ensures.images c.new-images.ensures.mounts
    c.index-tables-session.result c.seek.new.slots (λ v t. (calls_of g.row.N v).seek_to t c.args.fd.0 c.args.position)
    c.seek.result c.seek.ensures.reply
