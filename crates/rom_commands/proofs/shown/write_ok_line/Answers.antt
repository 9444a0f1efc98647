use Rattle.rom_fields.proofs.Joins.{chain, said_ok, said_front, said_rose, said_quiet}
use Rattle.rom_commands.specs.Lines.{ok_line}
use Rattle.rom_commands.proofs.shown.write_ok_line.Goals as goal

pub returns-then-failed-clause-text : goal.returns-then-failed-clause-text
unfolding ok_line
returns-then-failed-clause-text g c =
    said_front _ _ _ _ c.if-failed.true
    (chain c.put.ensures (chain c.put-2.ensures
    (chain c.put-3.ensures (chain c.put_decimal.ensures
    (chain c.put-4.ensures (chain c.put_decimal-2.ensures c.put-5.ensures))))))

pub returns-then-failed-clause-count : goal.returns-then-failed-clause-count
unfolding ok_line
returns-then-failed-clause-count g c =
    said_rose _ _ _ _ c.if-failed.true
    (chain c.put.ensures (chain c.put-2.ensures
    (chain c.put-3.ensures (chain c.put_decimal.ensures
    (chain c.put-4.ensures (chain c.put_decimal-2.ensures c.put-5.ensures))))))

pub returns-else-failed-clause-text : goal.returns-else-failed-clause-text
unfolding ok_line
returns-else-failed-clause-text g c =
    said_ok _ _ _ _ c.if-failed.false (chain c.put.ensures
    (chain c.put-2.ensures (chain c.put-3.ensures
    (chain c.put_decimal.ensures (chain c.put-4.ensures (chain c.put_decimal-2.ensures c.put-5.ensures))))))

pub returns-else-failed-clause-count : goal.returns-else-failed-clause-count
unfolding ok_line
returns-else-failed-clause-count g c =
    said_quiet _ _ _ _ c.if-failed.false
    (chain c.put.ensures (chain c.put-2.ensures
    (chain c.put-3.ensures (chain c.put_decimal.ensures
    (chain c.put-4.ensures (chain c.put_decimal-2.ensures c.put-5.ensures))))))
