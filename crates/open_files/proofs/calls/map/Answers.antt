use Rattle.std.proofs.Common.{refl}
use Rattle.open_files.specs.Calls.{viewed}
use Rattle.open_files.specs.Machine.{map_on}
use Rattle.open_files.specs.Slots.{labelled, lent_by}
use Rattle.open_files.proofs.OneCall.{is_held, nothing_open, looks_refused, looks_at}
use Rattle.open_files.proofs.calls.map.Goals as goal

pub returns-in_err-opened : goal.returns-in_err-opened
returns-in_err-opened g c =
    let v = g.I.Served.view c.args.images.now in
    nothing_open (λ i b x p. map_on i b c.args.off c.args.len x p) v c.args.slots.now.slots c.args.fd.0
    (viewed (labelled v.label lent_by)) (λ e. refl)
    c.in_err-opened.ensures.slot c.from_residual.ensures.1

pub returns-in_err-piece : goal.returns-in_err-piece
returns-in_err-piece g c =
    let v = g.I.Served.view c.args.images.now in
    let k = is_held v c.requires c.in_ok-opened.ensures.slot c.image.ensures in
    looks_refused (λ i b x p. map_on i b c.args.off c.args.len x p) v k (viewed (labelled v.label lent_by)) (λ e. refl)
    c.in_err-piece.field-0.0 (λ o t. c.in_err-piece.ensures o (v.label c.in_ok-opened.opened.image) t)
    c.from_residual-in_err-piece.ensures.1

pub returns : goal.returns
returns g c =
    let v = g.I.Served.view c.args.images.now in
    let k = is_held v c.requires c.in_ok-opened.ensures.slot c.image.ensures in
    let label = v.label c.in_ok-opened.opened.image in
    looks_at (λ i b x p. map_on i b c.args.off c.args.len x p) v k (label, lent_by c.in_ok-piece.piece)
    (λ o t. c.in_ok-piece.ensures o label t)
