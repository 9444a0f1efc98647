use Rattle.std.proofs.Common.{refl}
use Rattle.std.specs.Prelude.{take, length}
use Rattle.open_files.specs.Calls.{viewed}
use Rattle.open_files.specs.Machine.{read_on}
use Rattle.open_files.proofs.OneCall.{is_held, nothing_open, refuses, gives, gives_sound}
use Rattle.open_files.proofs.calls.read.Goals as goal

pub returns-in_err-opened-clause-reply : goal.returns-in_err-opened-clause-reply
returns-in_err-opened-clause-reply g c =
    nothing_open (λ i b x p. read_on b (length c.args.buf.now) x p) (g.I.Served.view c.args.images.now)
    c.args.slots.now.slots c.args.fd.0
    (viewed (λ n. take n c.args.buf.now)) (λ e. refl) c.in_err-opened.ensures.slot c.from_residual.ensures.1

pub returns-in_err-count-clause-reply : goal.returns-in_err-count-clause-reply
returns-in_err-count-clause-reply g c =
    let v = g.I.Served.view c.args.images.now in
    let k = is_held v c.requires c.in_ok-opened.ensures.slot c.image.ensures in
    refuses (λ i b x p. read_on b (length c.args.buf.now) x p) v k (viewed (λ n. take n c.read.new.buf)) (λ e. refl)
    c.in_err-count.field-0.0 c.read.new.opened c.in_err-count.ensures.moves c.from_residual-in_err-count.ensures.1

pub returns-clause-reply : goal.returns-clause-reply
returns-clause-reply g c =
    let v = g.I.Served.view c.args.images.now in
    let k = is_held v c.requires c.in_ok-opened.ensures.slot c.image.ensures in
    gives (λ i b x p. read_on b (length c.args.buf.now) x p) v k c.read.new.opened c.set.ensures
    (take c.in_ok-count.count c.read.new.buf) c.in_ok-count.ensures.moves

pub returns-clause-sound : goal.returns-clause-sound
returns-clause-sound g c =
    let v = g.I.Served.view c.args.images.now in
    let k = is_held v c.requires c.in_ok-opened.ensures.slot c.image.ensures in
    gives_sound (λ i b x p. read_on b (length c.args.buf.now) x p) v k c.read.new.opened c.set.ensures
    (take c.in_ok-count.count c.read.new.buf) c.in_ok-count.ensures.moves
