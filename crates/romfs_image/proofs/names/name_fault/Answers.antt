use Rattle.romfs_image.proofs.Naming.{least_repeated, least_astray, least_link}
use Rattle.romfs_image.proofs.names.name_fault.Goals as goal

pub returns-then-repeated-clause-fault : goal.returns-then-repeated-clause-fault
returns-then-repeated-clause-fault c = λ before t. least_repeated (t.old c.if-repeated.true)

pub returns-then-is_astray-clause-fault : goal.returns-then-is_astray-clause-fault
returns-then-is_astray-clause-fault c =
    λ before t. least_astray (t.new c.if-repeated.false) (c.if-is_astray.ensures.astray before)

pub returns-then-is_link_astray-clause-fault : goal.returns-then-is_link_astray-clause-fault
returns-then-is_link_astray-clause-fault c = λ before t.
    least_link (t.new c.if-repeated.false) c.if-is_astray.ensures.here c.if-is_astray.ensures.above
    c.if-is_astray.ensures.root (c.if-is_link_astray.ensures.astray before)
