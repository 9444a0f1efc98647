use Rattle.std.proofs.Common.{◌≡◌, ◌-◌, length, drop}
use Rattle.program_pages.specs.Physmem.{begins_with_zeros}
use Rattle.program_pages.proofs.mapping.are_zeros.Given as goal

abbrev pub invariant-loop-x : goal.invariant-loop-x
invariant-loop-x l =
    begins_with_zeros (length l.b - l.x-index) (drop l.x-index l.b) ≡ begins_with_zeros (length l.b) l.b
