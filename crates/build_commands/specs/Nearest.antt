-- Lines with the nearest attributes that a format can hold. (This project's own. What a format can
-- hold is in Linux Documentation/filesystems/romfs.rst and include/uapi/linux/cramfs_fs.h.)
use Rattle.std.specs.Prelude.{ℕ, ◌/◌, ◌%◌, ◌≤◌, ◌==◌, ◌||◌, Bool, min, if◌then◌else◌}
use Rattle.manifest.specs.declared.line.Line.{Line}
use Rattle.manifest.specs.declared.line.Word.{Word}
use Rattle.manifest.specs.declared.line.Word.TheVariants.{Dir, File, Slink, Block, Character, Fifo}
use Rattle.manifest.specs.declared.line.Word.TheVariants.{Socket, Hard, Same}
use Rattle.formats.specs.declared.capacity.Capacity.{Capacity}
use Rattle.formats.specs.declared.format.Format.{Format}
use Rattle.formats.specs.declared.format.Format.TheVariants.{Romfs, Cramfs, CramfsBig}

-- the owner, the group or others may execute a file of this mode
abbrev pub is_runnable : ℕ → Bool
is_runnable mode = (mode / 64 % 2 == 1) || ((mode / 8 % 2 == 1) || (mode % 2 == 1))

-- 0755 if the owner, the group or others may execute it, otherwise 0644
abbrev pub runnable_mode : ℕ → ℕ
runnable_mode mode = if is_runnable mode then 493 else 420

-- The mode that romfs has for a line's kind. Of a directory or a regular file, it keeps whether the
-- owner, the group or others may execute it.
abbrev pub romfs_mode : Word → ℕ → ℕ
romfs_mode Dir mode = runnable_mode mode
romfs_mode File mode = runnable_mode mode
romfs_mode Same mode = runnable_mode mode
romfs_mode Slink mode = 511
romfs_mode Block mode = 384
romfs_mode Character mode = 384
romfs_mode Fifo mode = 420
romfs_mode Socket mode = 420
romfs_mode Hard mode = mode

-- the mode that a format has for a line's kind, as far as it has modes
abbrev pub mode_within : Capacity → Word → ℕ → ℕ
mode_within most word mode = if most.has_modes then mode else romfs_mode word mode

-- the nearest attributes within what a format can hold
abbrev pub within : Capacity → Line → Line
within most l = record l {
  mode = mode_within most l.word l.mode;
  uid = min l.uid most.owner;
  gid = min l.gid most.group;
}

-- romfs has no owners
abbrev pub in_romfs : Line → Line
in_romfs l = record l { mode = romfs_mode l.word l.mode; uid = 0; gid = 0 }

-- cramfs has 16 bits for the owner and 8 for the group
abbrev pub in_cramfs : Line → Line
in_cramfs l = record l { uid = min l.uid 65535; gid = min l.gid 255 }

abbrev pub nearest_in : Format → Line → Line
nearest_in Romfs l = in_romfs l
nearest_in Cramfs l = in_cramfs l
nearest_in CramfsBig l = in_cramfs l

-- the format can hold the numbers of the line's device
abbrev pub HasSmallNumbers : Format → Line → Type 0
HasSmallNumbers Romfs l = (l.major ≤ 65535) × (l.minor ≤ 65535)
HasSmallNumbers Cramfs l = (l.major ≤ 255) × (l.minor ≤ 255)
HasSmallNumbers CramfsBig l = (l.major ≤ 255) × (l.minor ≤ 255)
