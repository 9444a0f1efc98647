use Rattle.rom_fields.proofs.Joins.{chain}
use Rattle.image_compare.proofs.Printed.{puts_as, puts_none, printed_none, printed_some, attributes_same}
use Rattle.image_compare.proofs.Printed.{attributes_differ}
use Rattle.image_compare.proofs.lines.put_changed.Goals as goal

pub returns-then-have_same_attributes-clause-puts : goal.returns-then-have_same_attributes-clause-puts
returns-then-have_same_attributes-clause-puts g c =
    puts_none _ _ (attributes_same c.args.path.now c.args.old c.args.new c.if-have_same_attributes.ensures)

pub returns-then-have_same_attributes-clause-printed : goal.returns-then-have_same_attributes-clause-printed
returns-then-have_same_attributes-clause-printed g c =
    printed_none _ (attributes_same c.args.path.now c.args.old c.args.new c.if-have_same_attributes.ensures)

pub returns-clause-puts : goal.returns-clause-puts
returns-clause-puts g c =
    puts_as _ _ _ _ (attributes_differ c.args.path.now c.args.old c.args.new c.if-have_same_attributes.ensures)
    (chain c.put.ensures (chain c.put_escaped.ensures (chain c.put-2.ensures (chain c.put_attributes.ensures
    (chain c.put-3.ensures (chain c.put_attributes-2.ensures c.put-4.ensures))))))

pub returns-clause-printed : goal.returns-clause-printed
returns-clause-printed g c =
    printed_some _ _ _ (attributes_differ c.args.path.now c.args.old c.args.new c.if-have_same_attributes.ensures)
