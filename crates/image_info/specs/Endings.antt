-- `WritesAll`: how the writing of a text ends. All of it was written, or memory was refused, or a
-- write failed. (This project's own.)
use Rattle.std.specs.Prelude.{◌≡◌, ℕ, List, Result, Ok, Err}
use Rattle.std.specs.Io.KnownBytes.{Appends}
use Rattle.rom_fields.specs.Failures.{Rose}
use Rattle.rom_fields.specs.Written.{AppendsPrefix, Output}
use Rattle.image_info.specs.declared.info.InfoError.{InfoError}
use Rattle.image_info.specs.declared.info.InfoError.TheVariants.{OutOfMemory, WriteFault}

-- the text was written; or nothing, if memory was refused; or a prefix, if a write failed
abbrev pub WritesAll : {T : Type 0} → Output → Output → List ℕ → Result T InfoError → Type 0
WritesAll old new text (Ok v) =
    Appends old.contents new.contents text × (new.failures ≡ old.failures)
WritesAll old new text (Err OutOfMemory) = new ≡ old
WritesAll old new text (Err WriteFault) =
    AppendsPrefix old.contents new.contents text × Rose old.failures new.failures
