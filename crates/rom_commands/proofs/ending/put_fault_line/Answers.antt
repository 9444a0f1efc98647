use Rattle.rom_fields.proofs.Joins.{chain}
use Rattle.rom_commands.specs.Lines.{fault_line, fault_in_line}
use Rattle.rom_commands.proofs.ending.put_fault_line.Goals as goal

pub returns-in-None : goal.returns-in-None
unfolding fault_line
returns-in-None g c = rw c.in-None.is (chain c.put_fault.ensures c.put.ensures)

pub returns-in-Some : goal.returns-in-Some
unfolding fault_in_line
returns-in-Some g c = rw c.in-Some.is (chain c.put_fault.ensures
    (chain c.put-in-Some.ensures (chain c.put_decimal.ensures c.put-in-Some-2.ensures)))
