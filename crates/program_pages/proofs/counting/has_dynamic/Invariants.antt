use Rattle.std.proofs.Common.{◌≡◌, false}
use Rattle.program_pages.specs.Counted.{dynamic_among}
use Rattle.program_pages.proofs.counting.has_dynamic.Given as goal

abbrev pub invariant-loop-number : goal.invariant-loop-number
invariant-loop-number l = dynamic_among l.b l.header l.number ≡ false
