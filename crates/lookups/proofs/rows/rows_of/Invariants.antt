use Rattle.rom_tree.specs.Tree.{entry_count}
use Rattle.lookups.proofs.Lists.{left, Knows}
use Rattle.lookups.proofs.rows.rows_of.Given as goal

-- the rows so far answer as the entries before the cursor
abbrev pub invariant-loop-entry : goal.invariant-loop-entry
invariant-loop-entry g l = Knows (g.T.Viewed.image l.image) l.d.0 l.cursor.0 l.rows.items

abbrev pub decreases-loop-entry : goal.decreases-loop-entry
decreases-loop-entry g l = entry_count (left (g.T.Viewed.image l.image) l.d.0 l.cursor.0)
