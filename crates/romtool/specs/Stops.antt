-- With which status a command stops. (This project's own.)
use Rattle.std.specs.Prelude.{◌≡◌, ⊤, Bool, true, false}
use Rattle.rom_commands.specs.Endings.{status_of}
use Rattle.rom_commands.specs.declared.status.Status.{Status}
use Rattle.rom_commands.specs.declared.status.Status.TheVariants as status
use Rattle.romtool.specs.declared.stop.Line.{Line}
use Rattle.romtool.specs.declared.stop.Line.TheVariants as line
use Rattle.romtool.specs.declared.stop.Stop.{Stop}
use Rattle.romtool.specs.declared.stop.Stop.TheVariants as stop

-- the status of a refusal whose line is on standard output, or was not accepted there
abbrev pub is_refusal : Status → Bool
is_refusal status.Refused = true
is_refusal status.Failed = true
is_refusal _ = false

-- the status after a line
abbrev pub IsAfterLine : Line → Status → Type 0
IsAfterLine (line.Of e) s = s ≡ status_of e
IsAfterLine (line.File name) s = s ≡ status.Failed
IsAfterLine (line.BadManifest number fault) s = is_refusal s ≡ true
IsAfterLine (line.Misfit number misfit) s = is_refusal s ≡ true
IsAfterLine (line.Unfit counts) s = s ≡ status.Refused
IsAfterLine (line.Needs unmet) s = is_refusal s ≡ true

-- the status of a command that stops. What an image is asked for decides how its fault is said.
abbrev pub IsAfter : Stop → Status → Type 0
IsAfter (stop.Usage word why) s = s ≡ status.Usage
IsAfter (stop.Front name front of_what) s = ⊤
IsAfter (stop.TooLarge out len most) s = is_refusal s ≡ true
IsAfter (stop.Told l words) s = IsAfterLine l s
IsAfter (stop.Said said) s = s ≡ said
IsAfter _ s = s ≡ status.Failed
