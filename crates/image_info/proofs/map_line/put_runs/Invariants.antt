use Rattle.std.proofs.Common.{◌≡◌, ◌-◌, ◌^◌, Some}
use Rattle.rom_fields.specs.Written.{sink}
use Rattle.rom_tree.specs.Tree.{Node, places_of}
use Rattle.rom_tree.specs.Image.{image_node}
use Rattle.rom_fields.specs.Texts.{escaped}
use Rattle.rom_tree.specs.Walks.{given_path}
use Rattle.image_info.proofs.Known.{IsKnown}
use Rattle.image_info.proofs.map_line.put_runs.Given as goal

-- the lines of the runs so far, and those that are left, are the file's
abbrev pub invariant-loop-run : goal.invariant-loop-run
invariant-loop-run g l = (x : Node) → image_node (g.T.Viewed.image l.image) l.n.0 ≡ Some x
    → IsKnown (sink (g.W.ByteWrite.output l.fn.w) l.fn.failed) (sink (g.W.ByteWrite.output l.w) l.failed) l.base
    (escaped (given_path l.walk)) (places_of x) l.at

abbrev pub decreases-loop-run : goal.decreases-loop-run
decreases-loop-run g l = 2 ^ 32 - l.at
