use Rattle.std.proofs.Common.{◌≡◌, ℕ, drop, map}
use Rattle.std.specs.BTreeMap.{get}
use Rattle.std.specs.Ordering.{nat_cmp}
use Rattle.linux_misreads.specs.Tables.{either}
use Rattle.plan_rows.specs.Rows.{inode_view}
use Rattle.build_commands.specs.Planned.{first_with}
use Rattle.build_commands.proofs.kept.first_files.Given as goal

-- what the map has, and otherwise what the rows to come have, is what the first of all rows has
abbrev pub invariant-loop-row : goal.invariant-loop-row
invariant-loop-row l =
    (k : ℕ) → either (get nat_cmp l.first k) (first_with k (map (λ r. inode_view r.inode) (drop l.row-index l.all)))
    ≡ first_with k (map (λ r. inode_view r.inode) l.all)
