-- `capacity_of`: what images of a format can hold. (Linux Documentation/filesystems/romfs.rst and
-- include/uapi/linux/cramfs_fs.h. The limit of 2^28 bytes is this project's own.)
use Rattle.std.specs.Prelude.{◌^◌, ◌-◌, Some, None, true, false}
use Rattle.formats.specs.declared.capacity.Capacity.{Capacity}
use Rattle.formats.specs.declared.format.Format.{Format}
use Rattle.formats.specs.declared.format.Format.TheVariants.{Romfs, Cramfs, CramfsBig}

-- no owners, and a mode by the kind of a file; a device's numbers have 16 bits
abbrev pub of_romfs : Capacity
of_romfs = record {
  owner = 0;
  group = 0;
  device = 65535;
  file = 2 ^ 28;
  name = None;
  volume = None;
  has_modes = false;
  has_hard_links = true;
  sums_all_bytes = false;
}

-- 16 bits for the owner, 8 for the group and for each number of a device, 24 for the size, 6 for
-- the words of a name
abbrev pub of_cramfs : Capacity
of_cramfs = record {
  owner = 65535;
  group = 255;
  device = 255;
  file = 2 ^ 24 - 1;
  name = Some 252;
  volume = Some 16;
  has_modes = true;
  has_hard_links = false;
  sums_all_bytes = true;
}

abbrev pub capacity_of : Format → Capacity
capacity_of Romfs = of_romfs
capacity_of Cramfs = of_cramfs
capacity_of CramfsBig = of_cramfs
