use Rattle.std.proofs.Common.{◌≡◌, ◌++◌, [], take}
use Rattle.rom_tree.specs.Frames.{path_text}
use Rattle.rom_tree.proofs.path.append_frames.Given as goal

abbrev pub invariant-loop-frame : goal.invariant-loop-frame
invariant-loop-frame g l = l.path.items ≡ l.fn.path.items ++ path_text [] (take l.frame-index l.frames)
