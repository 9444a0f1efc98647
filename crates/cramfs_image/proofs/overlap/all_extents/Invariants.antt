use Rattle.std.proofs.Common.{◌≡◌, ◌++◌, [], take}
use Rattle.std.specs.List.{flat_map, AllByRecursion as Every}
use Rattle.rom_fields.specs.declared.span.Extent.TheVariants.{Super}
use Rattle.rom_fields.specs.Extents.{added}
use Rattle.cramfs_image.specs.Files.{list_part, file_part, FileLies}
use Rattle.cramfs_image.proofs.overlap.all_extents.Given as goal

abbrev pub invariant-rows : goal.invariant-rows
invariant-rows l = record {
  lists : l.extents.items ≡ added Super 0 76 ++ flat_map (list_part l.b.order l.b.bytes.now) (take l.row-index l.rows);
  files : l.files.items ≡ [] ++ flat_map (file_part l.b.order l.b.bytes.now) (take l.row-index l.rows);
  lie : Every (FileLies l.b.order l.b.bytes.now) l.files.items;
}
