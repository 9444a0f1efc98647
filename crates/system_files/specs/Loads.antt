-- `Loads`: all bytes that a check reads were loaded; or at most the first 512 were, if their
-- checksum refuses the file. (This project's own.)
use Rattle.std.specs.Prelude.{◌≡◌, ℕ, max, min, List, length, take}
use Rattle.system_files.specs.declared.loading.Found.{Found}
use Rattle.system_files.specs.declared.loading.Found.TheVariants.{Image, Refused}
use Rattle.formats.specs.Reach.{Reaches, IsSumRefused}
use Rattle.rom_fields.specs.FaultNumbers.{SUM}

-- All bytes that a check of these bytes reads were loaded; or at most the first 512 were, and the
-- checksum of these refuses a file of `len` bytes.
abbrev pub Loads : List ℕ → ℕ → Found → Type 0
Loads all len (Image image) = (reach : ℕ) × Reaches (take 76 all) reach
    × (image.bytes.items ≡ take reach all) × (image.file ≡ max len (length image.bytes.items))
Loads all len (Refused front) =
    Reaches (take 76 all) front.reach × IsSumRefused front.bytes.items len
    × (front.bytes.items ≡ take (min front.reach 512) all) × (front.fault.number ≡ SUM)
    × (front.fault.at ≡ 12)
