use Rattle.std.proofs.Common.{◌≡◌, ◌≤◌, ◌<◌, ℕ, None, drop, get_or, length}
use Rattle.std.specs.BTreeMap.{get}
use Rattle.image_extents.specs.Found.{table_in}
use Rattle.image_extents.specs.Tables.{first_with, nexts, pair_cmp}
use Rattle.image_extents.proofs.tables.tables.Given as goal

-- the records from `number` on are known
abbrev pub invariant-loop-number : goal.invariant-loop-number
invariant-loop-number l = record {
  low : l.number ≤ length l.records;
  first : (t : ℕ × ℕ) → get pair_cmp l.first t
      ≡ first_with (table_in l.order l.b) t l.number (drop l.number l.records);
  next : drop l.number l.next.items ≡ nexts (table_in l.order l.b) l.number (drop l.number l.records);
  len : length l.next.items ≡ length l.records;
  none : (i : ℕ) → i < l.number → get_or l.next.items i None ≡ None;
}

abbrev pub decreases-loop-number : goal.decreases-loop-number
decreases-loop-number l = l.number
