use Rattle.std.proofs.Common.{Some, ap, sym, ◌∙◌}
use Rattle.rom_tree.specs.Tree.{is_link}
use Rattle.path_walk.specs.Graft.{bytes_in}
use Rattle.open_files.specs.Calls.{viewed}
use Rattle.open_files.specs.Machine.{read_link}
use Rattle.open_files.specs.Slots.{labelled, lent_by}
use Rattle.open_files.specs.SeenSpace.{images_in, state}
use Rattle.open_files.proofs.OneSession.{is_walked, walk_refused, walk_led, lent_images, place_still}
use Rattle.open_files.proofs.space.Space.readlink.Goals as goal

pub returns-in_err-image-clause-reply : goal.returns-in_err-image-clause-reply
returns-in_err-image-clause-reply g c =
    let w = is_walked c.args.self.now c.walk.new.self c.in_err-image.ensures.images c.in_err-image.ensures.mounts
    c.in_err-image.ensures.tables in
    walk_refused w c.args.session
    (λ t x. read_link (Some x.image) (bytes_in (images_in c.args.self.now) x.image) t x.node (is_link x.node))
    (labelled Some lent_by) c.from_residual.result c.in_err-image.ensures.leads c.from_residual.ensures.1

pub returns-clause-reply : goal.returns-clause-reply
returns-clause-reply g c =
    let w = is_walked c.args.self.now c.walk.new.self c.in_ok-image.ensures.images c.in_ok-image.ensures.mounts
    c.in_ok-image.ensures.tables in
    let p = c.in_ok-image.ensures.leads in
    let t = (state c.args.self.now).own c.args.session in
    walk_led w c.args.session
    (λ t x. read_link (Some x.image) (bytes_in (images_in c.args.self.now) x.image) t x.node (is_link x.node))
    (viewed (labelled Some lent_by) c.readlink.result) p.0 p.1
    (ap (λ z. read_link (Some p.0.image) (bytes_in z p.0.image) t p.0.node (is_link p.0.node))
    (sym (lent_images w c.new-images.ensures.images))
    ∙ c.readlink.ensures p.0 t (place_still w c.new-images.ensures.images c.new-images.result.mounts.now.items
    c.in_ok-image.image c.in_ok-image.node.0 p.0 p.2))
