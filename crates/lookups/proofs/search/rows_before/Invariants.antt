use Rattle.std.proofs.Common.{◌-◌, ◌≡◌, ◌≤◌, length, true, false}
use Rattle.std.specs.List.{AllWithin}
use Rattle.std.specs.List.Sorted.{IsSorted}
use Rattle.lookups.specs.Indices.{by_name, is_below}
use Rattle.lookups.proofs.search.rows_before.Given as goal

-- what is before `low` comes before the name, and what is from `high` on does not
abbrev pub invariant-loop-low : goal.invariant-loop-low
invariant-loop-low l = record {
  some : l.low ≤ l.high;
  within : l.high ≤ length l.rows;
  parts : IsSorted by_name l.rows → AllWithin (λ x. is_below l.name x ≡ true) l.rows 0 l.low
      × AllWithin (λ x. is_below l.name x ≡ false) l.rows l.high (length l.rows);
}

abbrev pub decreases-loop-low : goal.decreases-loop-low
decreases-loop-low l = l.high - l.low
