use Rattle.std.proofs.Common.{◌≡◌}
use Rattle.romfs_format.specs.Tree.{led}
use Rattle.romfs_image.proofs.accessible.Accessible.led_at.Given as goal

abbrev pub invariant-loop-i : goal.invariant-loop-i
invariant-loop-i l = l.p ≡ led l.i l.self.bytes.now l.at
