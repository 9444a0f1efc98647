use Rattle.std.proofs.Common.{sym, take}
use Rattle.image_check.proofs.Both.{turned, tree_over, fault_over, faultless_over, shows_over, shown_over}
use Rattle.image_check.proofs.Reached.{alike}
use Rattle.image_check.proofs.laws.no_further.Goals as goal

pub returns-clause-tree : goal.returns-clause-tree
returns-clause-tree c = λ all r n limits t h far. let a =
    alike all r n h far in (tree_over (take n all) all limits t (turned a), tree_over all (take n all) limits t a)

pub returns-clause-fault : goal.returns-clause-fault
returns-clause-fault c = λ all r n limits e h far. let a =
    alike all r n h far in (fault_over (take n all) all limits e (turned a), fault_over all (take n all) limits e a)

pub returns-clause-faultless : goal.returns-clause-faultless
returns-clause-faultless c = λ all r n limits h far. let a =
    alike all r n h far in (faultless_over (take n all) all limits (turned a), faultless_over all (take n all) limits a)

pub returns-clause-romfs : goal.returns-clause-romfs
returns-clause-romfs c = λ all r n h far. let a = alike all r n h far in (a.begins_romfs.1, a.begins_romfs.0)

pub returns-clause-cramfs : goal.returns-clause-cramfs
returns-clause-cramfs c = λ all r n h far. let a = alike all r n h far in (a.begins_cramfs.1, a.begins_cramfs.0)

pub returns-clause-order : goal.returns-clause-order
returns-clause-order c = λ all r n h far. sym (alike all r n h far).order

pub returns-clause-shown : goal.returns-clause-shown
returns-clause-shown c =
    λ all r n limits m report h far. shown_over all n limits m report (turned (alike all r n h far))

pub returns-clause-report : goal.returns-clause-report
returns-clause-report c = λ all r n limits m w report h far over whole same.
    let a = alike all r n h far in (
      shows_over (take n all) all limits m w report (turned a) whole same,
      shows_over all (take n all) limits w m report a over (sym same),
    )
