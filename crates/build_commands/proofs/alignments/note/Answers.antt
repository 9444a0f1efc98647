use Rattle.std.proofs.Common.{ap, ap₂, ◌∙◌, max}
use Rattle.std.specs.BTreeMap.{get}
use Rattle.std.specs.Ordering.{nat_cmp, ordering_then}
use Rattle.build_commands.specs.Alignments.{aligned_at}
use Rattle.build_commands.proofs.Aligned.{first_equal, noted_more, second_equal}
use Rattle.build_commands.proofs.alignments.note.Goals as goal

pub returns-in_ok-insert : goal.returns-in_ok-insert
returns-in_ok-insert c = λ device number.
    let f = c.args.file.now in
    noted_more f c.max-align.result device number
    (get (λ x y. ordering_then (nat_cmp x.0 y.0) (nat_cmp x.1 y.1)) c.args.largest.now (device, number))
    (get (λ x y. ordering_then (nat_cmp x.0 y.0) (nat_cmp x.1 y.1)) c.insert.new.self (device, number))
    c.if-file.true
    (λ e. c.max-align.ensures ∙ ap (max f.align) (c.aligned_at.ensures
    ∙ ap₂ (aligned_at c.args.largest.now) (first_equal f.inode.device f.inode.number device number e)
    (second_equal f.inode.device f.inode.number device number e)))
    (c.in_ok-insert.ensures.updates.0 (device, number))
