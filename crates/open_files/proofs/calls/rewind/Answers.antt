use Rattle.std.proofs.Common.{refl}
use Rattle.open_files.specs.Machine.{rewind_on}
use Rattle.open_files.proofs.OneCall.{is_held, nothing_open, refuses, gives, gives_sound}
use Rattle.open_files.proofs.calls.rewind.Goals as goal

pub returns-in_err-opened-clause-reply : goal.returns-in_err-opened-clause-reply
returns-in_err-opened-clause-reply g c =
    nothing_open (λ i b x p. rewind_on x p) (g.I.Served.view c.args.images.now) c.args.slots.now.slots c.args.fd.0
    (λ r. r) (λ e. refl) c.in_err-opened.ensures.slot c.from_residual.ensures.1

pub returns-in_err-rewind-clause-reply : goal.returns-in_err-rewind-clause-reply
returns-in_err-rewind-clause-reply g c =
    let v = g.I.Served.view c.args.images.now in
    let k = is_held v c.requires c.in_ok-opened.ensures.slot c.image.ensures in
    refuses (λ i b x p. rewind_on x p) v k (λ r. r) (λ e. refl) c.in_err-rewind.field-0.0 c.rewind.new.opened
    c.in_err-rewind.ensures c.from_residual-in_err-rewind.ensures.1

pub returns-in_err-rewind-clause-sound : goal.returns-in_err-rewind-clause-sound
returns-in_err-rewind-clause-sound g c = c.requires

pub returns-clause-reply : goal.returns-clause-reply
returns-clause-reply g c =
    let v = g.I.Served.view c.args.images.now in
    let k = is_held v c.requires c.in_ok-opened.ensures.slot c.image.ensures in
    gives (λ i b x p. rewind_on x p) v k c.rewind.new.opened c.set.ensures tt c.in_ok-rewind.ensures

pub returns-clause-sound : goal.returns-clause-sound
returns-clause-sound g c =
    let v = g.I.Served.view c.args.images.now in
    let k = is_held v c.requires c.in_ok-opened.ensures.slot c.image.ensures in
    gives_sound (λ i b x p. rewind_on x p) v k c.rewind.new.opened c.set.ensures tt c.in_ok-rewind.ensures
