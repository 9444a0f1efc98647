use Rattle.std.proofs.Common.{◌-◌, ◌≡◌, ◌+◌, ◌≤◌, drop}
use Rattle.build_commands.specs.Changed.{count_by, has_other_group, has_other_mode, has_other_owner}
use Rattle.build_commands.proofs.changes.count_changes.Given as goal

abbrev pub invariant-loop-i : goal.invariant-loop-i
invariant-loop-i l = record {
  within : l.i ≤ l.count;
  owners_bound : l.counts.owners ≤ l.i;
  groups_bound : l.counts.groups ≤ l.i;
  modes_bound : l.counts.modes ≤ l.i;
  owners :
      l.counts.owners + count_by has_other_owner (drop l.i l.lines) (drop l.i l.found)
      ≡ count_by has_other_owner l.lines l.found;
  groups :
      l.counts.groups + count_by has_other_group (drop l.i l.lines) (drop l.i l.found)
      ≡ count_by has_other_group l.lines l.found;
  modes :
      l.counts.modes + count_by has_other_mode (drop l.i l.lines) (drop l.i l.found)
      ≡ count_by has_other_mode l.lines l.found;
}

abbrev pub decreases-loop-i : goal.decreases-loop-i
decreases-loop-i l = l.count - l.i
