use Rattle.std.proofs.Common.{rules}
use Rattle.command_line.specs.Numbers.{another_device}
use Rattle.command_line.proofs.building.note_device.Goals as goal

pub returns-in-Ok : goal.returns-in-Ok
returns-in-Ok c = another_device c.in-Some.device c.in-Some.ensures (search rules)
