use Rattle.std.proofs.Common.{map, take}
use Rattle.command_line.specs.Numbers.{AreAddresses}
use Rattle.command_line.proofs.asking.addresses_of.Given as goal

abbrev pub invariant-loop-word : goal.invariant-loop-word
invariant-loop-word l = AreAddresses (map (λ v. v.now) (take l.word-index l.word-items)) l.addresses.items
