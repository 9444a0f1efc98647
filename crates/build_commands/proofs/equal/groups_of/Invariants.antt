use Rattle.std.proofs.Common.{◌≡◌, None, drop}
use Rattle.std.specs.BTreeMap.{get}
use Rattle.std.specs.Ordering.{eq_by_cmp}
use Rattle.build_commands.proofs.Grouped.{grouped}
use Rattle.build_commands.proofs.equal.groups_of.Given as goal

abbrev pub invariant-loop-index : goal.invariant-loop-index
invariant-loop-index g l =
    (q : _) → grouped (eq_by_cmp g.K.Ord.cmp) q l.index (get g.K.Ord.cmp l.groups q) (drop l.index l.keys)
    ≡ grouped (eq_by_cmp g.K.Ord.cmp) q 0 None l.keys
