use Rattle.record_forest.proofs.least.lesser_of_both.Goals as goal

pub returns-in-Some : goal.returns-in-Some
returns-in-Some c = rw c.in-Some.is c.lesser_fault.ensures
