-- Why the check of several files stops: the first fault, or refused memory; and what is then
-- written. (This project's own.)
use Rattle.std.specs.Prelude.{◌≡◌, ℕ, List, Some}
use Rattle.rom_fields.specs.Written.{Output}
use Rattle.rom_fields.specs.declared.fault.Fault as fault
use Rattle.serve_lines.specs.Served.{Machine}
use Rattle.rom_commands.specs.Answers.{HasFault, WritesFault}
use Rattle.rom_commands.specs.Serving.{EndsAs, EndsServed, HasFirstFault, Input}
use Rattle.rom_commands.specs.declared.ending.Ending.{Ending}
use Rattle.rom_commands.specs.declared.ending.Ending.TheVariants.{Memory, Fault as FaultEnding}
use Rattle.rom_commands.specs.declared.several.NoImage.{NoImage}
use Rattle.rom_commands.specs.declared.several.NoImage.TheVariants.{OutOfMemory, Fault}

abbrev pub fault_at : ℕ → ℕ → fault.Fault
fault_at number at = record { number = number; at = at }

-- the bytes of this number have this fault
abbrev pub IsFaultAt : List ℕ → ℕ → NoImage → Type 0
IsFaultAt bytes i OutOfMemory = Unit {0}
IsFaultAt bytes i (Fault number at image) = HasFault bytes number at × (image ≡ i)

-- the first fault of all of them
abbrev pub IsFirst : List (List ℕ) → NoImage → Type 0
IsFirst all OutOfMemory = Unit {0}
IsFirst all (Fault number at image) = HasFirstFault all number at image

-- lines were answered, as the program ends
abbrev pub EndsAnswered : {S : Type 0} → Machine S → S → Input → Input → Output → Output → Ending
    → Type 0
EndsAnswered m s r₀ r w₀ w o =
    EndsAs (λ v. EndsServed m s r₀ r w₀ w v) (λ fault image. ⊥) o

-- No line was answered, and the checks of several images say why: the line of the first fault is
-- written; or nothing is done, if memory was refused to the checks.
abbrev pub EndsUnserved : NoImage → Input → Input → Output → Output → Ending → Type 0
EndsUnserved OutOfMemory r₀ r w₀ w o = (o ≡ Memory) × (r ≡ r₀) × (w ≡ w₀)
EndsUnserved (Fault number at image) r₀ r w₀ w o =
    (r ≡ r₀) × WritesFault (FaultEnding (fault_at number at) (Some image)) w₀ w o
