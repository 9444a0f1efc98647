use Rattle.image_check.specs.Any.{any_view}
use Rattle.library_tests.proofs.Mountable.{mount_of}
use Rattle.library_tests.proofs.mounted.is_one_mount.Goals as goal

pub returns : goal.returns
returns c = λ t.
    let r = c.is_below_root.ensures t in
    mount_of any_view c.args.images.now c.args.mount c.index-images-on.result r.0 c.index-images-on.is
    c.if-mount-eq0.false c.if-mount-images.false c.if-on-images.false r.1 r.2 r.3
