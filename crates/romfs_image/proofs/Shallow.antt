-- A checked image is shallow enough to be listed.
use Rattle.std.proofs.Common.{◌≤◌, ℕ, List, ap, arith}
use Rattle.rom_tree.proofs.Nodes.{levels_depth}
use Rattle.rom_tree.specs.Image.{Image}
use Rattle.rom_tree.specs.Tree.{depth, levels}
use Rattle.rom_tree.specs.declared.types.Limits.{Limits}
use Rattle.rom_tree.specs.declared.types.Report.{Report}
use Rattle.romfs_image.specs.Checked.{Shows}

pub shallow : {all : List ℕ} {limits : Limits} {m : Image} {report : Report} → Shows all limits m report
    → levels m.tree ≤ 65
shallow {m = m} s =
    let e = ap depth s.tree.same in let h = s.tree.whole.shallow in let l = levels_depth m.tree in omega arith
