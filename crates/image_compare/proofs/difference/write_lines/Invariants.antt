use Rattle.std.proofs.Common.{◌+◌, ◌-◌, ◌≤◌, List, length, false}
use Rattle.rom_fields.specs.Written.{sink}
use Rattle.rom_tree.specs.Image.{Image}
use Rattle.rom_tree.specs.Names.{Name}
use Rattle.image_check.specs.Any.{any_view}
use Rattle.image_compare.specs.Rows.{HasNames}
use Rattle.image_compare.specs.Same.{AreSame}
use Rattle.image_compare.proofs.Reached.{IsReached}
use Rattle.image_compare.proofs.difference.write_lines.Given as goal

-- the lines so far, and those of what is left, are the lines of all
abbrev pub invariant-loop-failed : goal.invariant-loop-failed
invariant-loop-failed g l = record {
  same : AreSame (any_view l.old) (any_view l.new) l.same;
  within_old : l.i ≤ length l.xs.names.items;
  within_new : l.j ≤ length l.ys.names.items;
  reached : (ps qs : List Name) → HasNames (any_view l.old) l.xs ps → HasNames (any_view l.new) l.ys qs
      → IsReached (sink (g.W.ByteWrite.output l.fn.w) false) (sink (g.W.ByteWrite.output l.w) l.failed) l.places
      (Image.bytes (any_view l.old)) (Image.bytes (any_view l.new)) ps qs l.i l.j l.printed;
}

abbrev pub decreases-loop-failed : goal.decreases-loop-failed
decreases-loop-failed g l = (length l.xs.names.items - l.i) + (length l.ys.names.items - l.j)
