use Rattle.rom_fields.proofs.Joins.{puts_to_failed, puts_ok, puts_err}
use Rattle.rom_fields.proofs.sink.put.Goals as goal

pub returns-then-failed : goal.returns-then-failed
returns-then-failed g c = rw c.if-failed.true (puts_to_failed _ _)

pub returns-in-Ok : goal.returns-in-Ok
returns-in-Ok g c =
    rw c.if-failed.false (puts_ok _ _ _ c.in-Ok.ensures.text c.in-Ok.ensures.count c.write_whole.ensures.unflushed)

pub returns-in-Err : goal.returns-in-Err
returns-in-Err g c =
    rw c.if-failed.false (puts_err _ _ _ c.in-Err.ensures.text c.in-Err.ensures.count c.write_whole.ensures.unflushed)
