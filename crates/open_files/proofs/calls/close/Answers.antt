use Rattle.std.proofs.Common.{List, Option, Err, ap, ◌∙◌}
use Rattle.open_files.specs.declared.error.CallError.{CallError}
use Rattle.open_files.specs.declared.slot.OpenNode.{OpenNode}
use Rattle.open_files.specs.Slots.{View}
use Rattle.open_files.proofs.Tables.{has_open, refused, close_none, close_some, close_sound}
use Rattle.open_files.proofs.calls.close.Goals as goal

pub returns-in_err-get-clause-reply : goal.returns-in_err-get-clause-reply
returns-in_err-get-clause-reply g c =
    let v : View g.I.Served.Place = g.I.Served.view c.args.images.now in
    let slots : List (Option OpenNode) = c.args.slots.now.slots in
    let r = refused c.from_residual.result c.in_err-get.field-0.0 c.from_residual.ensures.1 in
    close_none v slots c.args.fd.0 c.from_residual.result c.in_err-get.ensures.slot.0
    (r ∙ ap (λ (w : CallError). Err w) c.in_err-get.ensures.slot.1)

pub returns-clause-reply : goal.returns-clause-reply
returns-clause-reply g c =
    let v : View g.I.Served.Place = g.I.Served.view c.args.images.now in
    let slots : List (Option OpenNode) = c.args.slots.now.slots in
    close_some v slots c.set.new.self.slots c.args.fd.0 c.in_ok-get.field-0
    (has_open v slots c.args.fd.0 c.in_ok-get.field-0 c.requires c.in_ok-get.ensures.slot) c.set.ensures

pub returns-clause-sound : goal.returns-clause-sound
returns-clause-sound g c =
    let v : View g.I.Served.Place = g.I.Served.view c.args.images.now in
    close_sound v c.args.slots.now.slots c.set.new.self.slots c.args.fd.0 c.set.ensures c.requires
