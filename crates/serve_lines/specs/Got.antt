-- `Gets`: the effect of one read of one byte on the rest of a reader and on its count of failures.
-- (This project's own.)
use Rattle.std.specs.Prelude.{◌≡◌, ℕ, List, [], ◌∷◌, Option}
use Rattle.std.specs.Io.KnownBytes.{Consumes, Keeps, IsAtEnd}
use Rattle.rom_fields.specs.Failures.{Rose}
use Rattle.serve_lines.specs.declared.one_byte.Got.{Got}
use Rattle.serve_lines.specs.declared.one_byte.Got.TheVariants.{Byte, End, Fault}

abbrev pub Gets : Option (List ℕ) → Option (List ℕ) → ℕ → ℕ → Got → Type 0
Gets old new before after (Byte b) = Consumes old new (b ∷ []) × (after ≡ before)
Gets old new before after End = Keeps old new × IsAtEnd new × (after ≡ before)
Gets old new before after Fault = Keeps old new × Rose before after
