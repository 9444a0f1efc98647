use Rattle.std.proofs.Common.{map, take}
use Rattle.command_line.specs.Numbers.{AreDevices}
use Rattle.command_line.proofs.building.added_of.Given as goal

abbrev pub invariant-loop-word : goal.invariant-loop-word
invariant-loop-word l = AreDevices (map (λ v. v.now) (take l.word-index l.word-items)) l.devices.items
