use Rattle.std.proofs.Common.{take, ◌≡◌, ◌≤◌, false}
use Rattle.std.specs.Prelude.{◌⊎◌}
use Rattle.std.specs.List.{All, Any}
use Rattle.romfs_format.specs.Record.{name_of}
use Rattle.rom_tree.specs.Dots.{is_dots}
use Rattle.romfs_image.proofs.depth.greatest_depth.Given as goal

abbrev pub invariant-rows : goal.invariant-rows
invariant-rows l = record {
  bound : All (λ x. is_dots (name_of l.b.bytes.now x.offset) ≡ false → x.depth ≤ l.deepest) (take l.row-index l.rows);
  reached : (l.deepest ≡ 0) ⊎ Any (λ x. (is_dots (name_of l.b.bytes.now x.offset) ≡ false) × (x.depth ≡ l.deepest))
      (take l.row-index l.rows);
}
