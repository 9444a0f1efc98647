use Rattle.std.proofs.Common.{sym, ap, ◌∙◌}
use Rattle.rom_fields.proofs.Joins.{chain}
use Rattle.image_check.specs.Any.{any_view}
use Rattle.image_compare.specs.Diff.{is_printed}
use Rattle.image_compare.proofs.Printed.{puts_as, nodes_alike, nodes_differ, same_kinds, other_kinds, other_printed}
use Rattle.image_compare.proofs.lines.put_nodes.Goals as goal

pub returns-then-letter_of-clause-puts : goal.returns-then-letter_of-clause-puts
returns-then-letter_of-clause-puts g c = λ p q d e.
    let k = same_kinds p q _ _ _ _ (c.stat.ensures p d) (c.stat-2.ensures q e) c.letter_of.ensures
    c.letter_of-2.ensures
    c.if-letter_of.true in
    puts_as _ _ _ _ (nodes_alike c.args.places (any_view c.args.old.now).bytes
    (any_view c.args.new.now).bytes c.args.path.now p q k) (c.put_alike.ensures.puts p q d e)

pub returns-then-letter_of-clause-printed : goal.returns-then-letter_of-clause-printed
returns-then-letter_of-clause-printed g c = λ p q d e.
    let k = same_kinds p q _ _ _ _ (c.stat.ensures p d) (c.stat-2.ensures q e) c.letter_of.ensures
    c.letter_of-2.ensures
    c.if-letter_of.true in
    c.put_alike.ensures.printed p q d e ∙ sym (ap is_printed (nodes_alike c.args.places
    (any_view c.args.old.now).bytes (any_view c.args.new.now).bytes c.args.path.now p q k))

pub returns-clause-puts : goal.returns-clause-puts
returns-clause-puts g c = λ p q d e.
    let k = other_kinds p q _ _ _ _ (c.stat.ensures p d) (c.stat-2.ensures q e) c.letter_of.ensures
    c.letter_of-2.ensures
    c.if-letter_of.false in
    puts_as _ _ _ _ (nodes_differ c.args.places (any_view c.args.old.now).bytes
    (any_view c.args.new.now).bytes c.args.path.now p q k) (chain c.put_removed.ensures c.put_added.ensures)

pub returns-clause-printed : goal.returns-clause-printed
returns-clause-printed g c = λ p q d e.
    let k = other_kinds p q _ _ _ _ (c.stat.ensures p d) (c.stat-2.ensures q e) c.letter_of.ensures
    c.letter_of-2.ensures
    c.if-letter_of.false in
    other_printed c.args.places (any_view c.args.old.now).bytes (any_view c.args.new.now).bytes
    c.args.path.now p q k
