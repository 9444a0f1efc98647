use Rattle.std.proofs.Common.{refl}
use Rattle.open_files.specs.Calls.{viewed}
use Rattle.open_files.specs.Machine.{lend_on}
use Rattle.open_files.specs.Slots.{labelled, lent_by}
use Rattle.open_files.proofs.OneCall.{is_held, nothing_open, refuses, gives_of, gives_sound}
use Rattle.open_files.proofs.calls.lend.Goals as goal

pub returns-in_err-opened-clause-reply : goal.returns-in_err-opened-clause-reply
returns-in_err-opened-clause-reply g c =
    let v = g.I.Served.view c.args.images.now in
    nothing_open (λ i b x p. lend_on i b c.args.max x p) v c.args.slots.now.slots c.args.fd.0
    (viewed (labelled v.label lent_by)) (λ e. refl)
    c.in_err-opened.ensures.slot c.from_residual.ensures.1

pub returns-in_err-piece-clause-reply : goal.returns-in_err-piece-clause-reply
returns-in_err-piece-clause-reply g c =
    let v = g.I.Served.view c.args.images.now in
    let k = is_held v c.requires c.in_ok-opened.ensures.slot c.image.ensures in
    refuses (λ i b x p. lend_on i b c.args.max x p) v k (viewed (labelled v.label lent_by)) (λ e. refl)
    c.in_err-piece.field-0.0 c.lend.new.opened
    (λ o t. c.in_err-piece.ensures o (v.label c.in_ok-opened.opened.image) t) c.from_residual-in_err-piece.ensures.1

pub returns-clause-reply : goal.returns-clause-reply
returns-clause-reply g c =
    let v = g.I.Served.view c.args.images.now in
    let k = is_held v c.requires c.in_ok-opened.ensures.slot c.image.ensures in
    let label = v.label c.in_ok-opened.opened.image in
    let piece = lent_by c.in_ok-piece.piece in
    gives_of (λ i b x p. lend_on i b c.args.max x p) v k c.lend.new.opened c.set.ensures (label, piece)
    (λ o t. c.in_ok-piece.ensures o label t) (λ i. (v.label i, piece)) refl

pub returns-clause-sound : goal.returns-clause-sound
returns-clause-sound g c =
    let v = g.I.Served.view c.args.images.now in
    let k = is_held v c.requires c.in_ok-opened.ensures.slot c.image.ensures in
    let label = v.label c.in_ok-opened.opened.image in
    gives_sound (λ i b x p. lend_on i b c.args.max x p) v k c.lend.new.opened c.set.ensures
    (label, lent_by c.in_ok-piece.piece) (λ o t. c.in_ok-piece.ensures o label t)
