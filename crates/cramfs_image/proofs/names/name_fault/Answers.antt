use Rattle.std.proofs.Common.{sym, ◌∙◌}
use Rattle.std.proofs.lemmas.Bool.{false≢true}
use Rattle.cramfs_image.proofs.Naming.{least_repeated, least_dot, least_unsorted}
use Rattle.cramfs_image.proofs.names.name_fault.Goals as goal

pub returns-then-repeated-clause-fault : goal.returns-then-repeated-clause-fault
returns-then-repeated-clause-fault c = λ before t. least_repeated (t.old c.if-repeated.true)

pub returns-then-not-is_other-clause-fault : goal.returns-then-not-is_other-clause-fault
returns-then-not-is_other-clause-fault c =
    λ before t. least_dot (t.new c.if-repeated.false)
    (λ h. false≢true (sym c.if-not-is_other.true ∙ c.is_other.ensures.1 h))

pub returns-then-is_unsorted-clause-fault : goal.returns-then-is_unsorted-clause-fault
returns-then-is_unsorted-clause-fault c =
    λ before t. least_unsorted (t.new c.if-repeated.false) (c.is_other.ensures.0 c.if-not-is_other.false)
    (c.if-is_unsorted.ensures.unsorted before t.last_is)

pub returns-then-is_unsorted-clause-well : goal.returns-then-is_unsorted-clause-well
returns-then-is_unsorted-clause-well c = λ before t. record {}
