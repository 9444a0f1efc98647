use Rattle.std.proofs.Common.{arith}
use Rattle.cramfs_format.proofs.Trees.{known}
use Rattle.linux_misreads.proofs.files.number_of.Goals as goal

pub overflow_add-result : goal.overflow_add-result
overflow_add-result c =
    let h = (known c.args.image.now.sound c.args.n.0 c.requires).header in
    let s = c.args.image.now.accessible.small in
    omega (arith, h, s)

pub overflow_add-result-2 : goal.overflow_add-result-2
overflow_add-result-2 c =
    let h = (known c.args.image.now.sound c.args.n.0 c.requires).header in
    let s = c.args.image.now.accessible.small in
    omega (arith, h, s)
