use Rattle.std.proofs.Common.{map, take}
use Rattle.command_line.specs.Numbers.{AreAligns}
use Rattle.command_line.proofs.building.aligns_of.Given as goal

abbrev pub invariant-loop-word : goal.invariant-loop-word
invariant-loop-word l =
    AreAligns (map (λ v. v.now) (take l.word-index l.word-items)) (l.aligns.usual, l.aligns.rules.items)
