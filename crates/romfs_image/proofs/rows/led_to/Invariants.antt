use Rattle.std.proofs.Common.{◌≡◌, ◌-◌}
use Rattle.romfs_format.specs.Record.{IsSound}
use Rattle.romfs_format.specs.Tree.{follow}
use Rattle.romfs_image.proofs.rows.led_to.Given as goal

abbrev pub invariant-links : goal.invariant-links
invariant-links l = record {
  same : follow l.b.bytes.now l.rows (8 - l.i) l.p ≡ follow l.b.bytes.now l.rows 8 l.at;
  sound : IsSound l.b.bytes.now l.b.root l.p;
}
