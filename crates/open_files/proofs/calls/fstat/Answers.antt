use Rattle.std.proofs.Common.{refl, Ok, ap, sym}
use Rattle.rom_tree.specs.declared.types.Stat.{Stat}
use Rattle.open_files.specs.Calls.{Of, viewed}
use Rattle.open_files.specs.Machine.{Outcome, fstat_on}
use Rattle.open_files.specs.Slots.{labelled}
use Rattle.open_files.proofs.OneCall.{is_held, nothing_open, looks_at}
use Rattle.open_files.proofs.calls.fstat.Goals as goal

pub returns-in_err-opened : goal.returns-in_err-opened
returns-in_err-opened g c =
    let v = g.I.Served.view c.args.images.now in
    nothing_open (λ i b x p. fstat_on i x p) v c.args.slots.now.slots c.args.fd.0 (viewed (labelled v.label (λ s. s)))
    (λ e. refl)
    c.in_err-opened.ensures.slot c.from_residual.ensures.1

pub returns : goal.returns
returns g c =
    let v = g.I.Served.view c.args.images.now in
    let k = is_held v c.requires c.in_ok-opened.ensures.slot c.image.ensures in
    looks_at (λ i b x p. fstat_on i x p) v k (v.label c.in_ok-opened.opened.image, c.fstat-stat.result)
    (λ o t. let ok : Stat → Outcome (Of Stat) = λ w. Ok ((v.label c.in_ok-opened.opened.image, w), o.position) in
    ap ok (sym (c.fstat-stat.ensures o t)))
