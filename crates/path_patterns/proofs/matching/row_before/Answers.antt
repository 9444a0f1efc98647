use Rattle.std.proofs.Common.{sym}
use Rattle.path_patterns.specs.Patterns.{fits}
use Rattle.path_patterns.proofs.Rows.{star_row, one_row}
use Rattle.path_patterns.proofs.matching.row_before.Goals as goal

pub returns-in-Star : goal.returns-in-Star
returns-in-Star c = λ ps h.
    rw (c.in-Star.is, sym (star_row ps c.args.path.now)) (c.row_of_star.ensures (fits ps) h)

pub returns-in-One : goal.returns-in-One
returns-in-One c = λ ps h.
    rw (c.in-One.is, sym (one_row c.in-One.set ps c.args.path.now)) (c.row_of_one.ensures (fits ps) h)
