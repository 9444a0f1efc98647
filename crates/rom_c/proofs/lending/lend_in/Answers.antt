use Rattle.std.proofs.Common.{None, refl, ap, ◌∙◌}
use Rattle.std.specs.Prelude.{is_some}
use Rattle.open_files.specs.declared.slot.OpenNode.{OpenNode}
use Rattle.open_files.specs.Slots.{stands, image_view}
use Rattle.image_check.specs.Any.{any_view}
use Rattle.rom_c.proofs.lending.lend_in.Goals as goal

pub returns-in-Ok-clause-lent : goal.returns-in-Ok-clause-lent
returns-in-Ok-clause-lent c = λ o h. let m = c.in-Ok.ensures o None h in rw m.1 (refl, m.2)

pub returns-in-Ok-clause-stands : goal.returns-in-Ok-clause-stands
returns-in-Ok-clause-stands c = let m = c.in-Ok.ensures c.requires.0 None c.requires.1 in ap is_some m.2

pub returns-in-Ok-clause-node : goal.returns-in-Ok-clause-node
returns-in-Ok-clause-node c = let m = c.in-Ok.ensures c.requires.0 None c.requires.1 in ap (λ n. n.0) m.4

pub returns-in-Err-clause-stands : goal.returns-in-Err-clause-stands
returns-in-Err-clause-stands c =
    let m = c.in-Err.ensures c.requires.0 None c.requires.1 in
    ap (λ (z : OpenNode). is_some (stands (image_view (any_view c.args.image.now)) z)) m.1 ∙ ap is_some c.requires.1

pub returns-in-Err-clause-node : goal.returns-in-Err-clause-node
returns-in-Err-clause-node c =
    let m = c.in-Err.ensures c.requires.0 None c.requires.1 in ap (λ (z : OpenNode). z.node.0) m.1
