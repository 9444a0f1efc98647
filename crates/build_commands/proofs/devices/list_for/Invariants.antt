use Rattle.std.proofs.Common.{◌≡◌, take}
use Rattle.build_commands.specs.Devices.{nod_lines}
use Rattle.build_commands.proofs.devices.list_for.Given as goal

abbrev pub invariant-loop-words : goal.invariant-loop-words
invariant-loop-words l = l.text.items ≡ nod_lines (take l.words-index l.devices)
