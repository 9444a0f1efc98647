-- How the entries of a walk are printed. (This project's own.)
use Rattle.std.specs.Prelude.{◌≡◌, ℕ, Bool, List, map, Result, Ok, Err}
use Rattle.std.specs.Io.KnownBytes.{Appends}
use Rattle.rom_fields.specs.Failures.{Rose, one_more}
use Rattle.rom_fields.specs.Written.{AppendsPrefix, Output}
use Rattle.build_commands.specs.Scanned.{scan_text}
use Rattle.build_commands.specs.Seen.{entry_of}
use Rattle.build_commands.specs.declared.scanning.Found.{Found}
use Rattle.directory_walk.specs.Trees.{Name}
use Rattle.build_commands.specs.Scans.{all_shown}
use Rattle.build_commands.specs.declared.printing.PrintError.{PrintError}
use Rattle.build_commands.specs.declared.printing.PrintError.TheVariants.{OutOfMemory, Failed}

-- these have the same lines, whatever the length of the scanned directory's path is
abbrev pub HaveSameLines : List (Name Bool) → List Found → Type 0
HaveSameLines ns fs = (front : ℕ) → map (entry_of front) fs ≡ all_shown front ns

-- All lines are written and flushed at `Ok`. Nothing is written if memory was refused, and a prefix
-- of the lines if a write or the flush failed.
abbrev pub IsPrinted : {T : Type 0} → ℕ → List (Name Bool) → Output → Output
    → Result T PrintError → Type 0
IsPrinted front ns old new (Ok _) =
    Appends old.contents new.contents (scan_text (all_shown front ns))
    × (new.failures ≡ old.failures) × (new.flushes ≡ one_more old.flushes)
IsPrinted front ns old new (Err OutOfMemory) = new ≡ old
IsPrinted front ns old new (Err Failed) =
    AppendsPrefix old.contents new.contents (scan_text (all_shown front ns))
    × Rose old.failures new.failures
