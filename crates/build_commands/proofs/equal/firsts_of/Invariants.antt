use Rattle.std.proofs.Common.{◌≡◌, map, take}
use Rattle.std.specs.Ordering.{eq_by_cmp}
use Rattle.build_commands.specs.Equal.{first_of}
use Rattle.build_commands.proofs.equal.firsts_of.Given as goal

abbrev pub invariant-loop-key : goal.invariant-loop-key
invariant-loop-key g l =
    l.firsts.items ≡ map (first_of (eq_by_cmp g.K.Ord.cmp) l.keys) (take l.key-index l.keys)
