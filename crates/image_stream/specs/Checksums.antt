-- `IsCrcOf`, `IsSumOf`: the checksums of cramfs and of romfs so far are those of these bytes. (This
-- project's own.)
use Rattle.std.specs.Prelude.{◌≡◌, ℕ, List}
use Rattle.crc.specs.Crc.{crc_of}
use Rattle.image_stream.specs.WordSums.{IsSum}
use Rattle.image_stream.specs.declared.crc32.Crc32.{Crc32}
use Rattle.image_stream.specs.declared.word_sum.WordSum.{WordSum}

abbrev pub IsCrcOf : Crc32 → List ℕ → Type 0
IsCrcOf s xs = s.value ≡ crc_of xs

abbrev pub IsSumOf : WordSum → List ℕ → Type 0
IsSumOf s xs = IsSum s.place s.sum xs
