use Rattle.std.proofs.Common.{Some, Ok, ap, sym}
use Rattle.rom_tree.specs.declared.types.Stat.{Stat}
use Rattle.rom_tree.specs.Image.{stat_of}
use Rattle.open_files.specs.Calls.{Of, answer, give}
use Rattle.open_files.specs.Slots.{labelled}
use Rattle.open_files.specs.SeenSpace.{state}
use Rattle.open_files.proofs.OneSession.{is_walked, walk_refused, walk_led, place_still}
use Rattle.open_files.proofs.space.Space.stat.Goals as goal

pub returns-in_err-image-clause-reply : goal.returns-in_err-image-clause-reply
returns-in_err-image-clause-reply g c =
    let w = is_walked c.args.self.now c.walk.new.self c.in_err-image.ensures.images c.in_err-image.ensures.mounts
    c.in_err-image.ensures.tables in
    walk_refused w c.args.session (λ t x. give {R = Of Stat} (Some x.image, stat_of x.node) t)
    (labelled Some (λ s. s)) c.from_residual.result c.in_err-image.ensures.leads c.from_residual.ensures.1

pub returns-clause-reply : goal.returns-clause-reply
returns-clause-reply g c =
    let w = is_walked c.args.self.now c.walk.new.self c.in_ok-image.ensures.images c.in_ok-image.ensures.mounts
    c.in_ok-image.ensures.tables in
    let p = c.in_ok-image.ensures.leads in
    walk_led w c.args.session (λ t x. give {R = Of Stat} (Some x.image, stat_of x.node) t)
    (Ok (labelled Some (λ s. s) c.stat.result)) p.0 p.1
    (ap (λ (z : Of Stat). answer (Ok z) ((state c.args.self.now).own c.args.session))
    (sym (c.stat.ensures p.0 (place_still w c.new-images.ensures.images c.new-images.result.mounts.now.items
    c.in_ok-image.image c.in_ok-image.node.0 p.0 p.2))))
