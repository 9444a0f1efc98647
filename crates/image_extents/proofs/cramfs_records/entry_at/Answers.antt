use Rattle.std.proofs.Common.{◌+◌, ℕ, ap, arith, length, take, drop, length-take}
use Rattle.cramfs_format.specs.Inode.{name_of, name_room, end_of}
use Rattle.cramfs_image.proofs.Zeros.{zeros_shorter}
use Rattle.image_extents.proofs.cramfs_records.entry_at.Goals as goal

pub overflow_cast-result : goal.overflow_cast-result
unfolding name_of end_of
overflow_cast-result c =
    let room = name_room c.args.order c.args.b.now c.args.at in
    let e = ap length c.name_at-name.ensures in
    let a = zeros_shorter (take room (drop (c.args.at + 12) c.args.b.now)) in
    let l = length-take room (drop (c.args.at + 12) c.args.b.now) in
    let w = c.requires.within in
    let s = c.requires.small in
    omega (arith, e, a, l, w, s)

pub returns : goal.returns
returns c =
    ap (λ (n : ℕ). record { offset = c.args.at; name = c.args.at + 12; length = n; directory = c.args.directory })
    (ap length c.name_at-name.ensures)
