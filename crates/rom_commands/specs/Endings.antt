-- How commands end. (This project's own.)
use Rattle.std.specs.Prelude.{ℕ, List, [], Bool, true, false, ◌++◌, codes, None, Some}
use Rattle.rom_fields.specs.Texts.{escaped}
use Rattle.path_walk.specs.Errors.{error_name}
use Rattle.rom_commands.specs.Lines.{fault_line, fault_in_line}
use Rattle.rom_commands.specs.declared.status.Status.{Status}
use Rattle.rom_commands.specs.declared.status.Status.TheVariants as status
use Rattle.rom_commands.specs.declared.ending.NoFile.{NoFile}
use Rattle.rom_commands.specs.declared.ending.NoFile.TheVariants.{Nowhere, Directory, Special}
use Rattle.rom_commands.specs.declared.ending.Ending.{Ending}
use Rattle.rom_commands.specs.declared.ending.Ending.TheVariants.{Done, Warned, Fault, Usage}
use Rattle.rom_commands.specs.declared.ending.Ending.TheVariants.{NoFile as Fileless, Memory}
use Rattle.rom_commands.specs.declared.ending.Ending.TheVariants.{ReadFault, WriteFault}
use Rattle.rom_commands.specs.declared.ending.Ending.TheVariants.{TooManyReads, File, Changed}
use Rattle.rom_commands.specs.declared.ending.Ending.TheVariants.{LongPath, LongVolume}

-- the number with which the program ends
abbrev pub code_of : Status → ℕ
code_of status.Done = 0
code_of status.Refused = 1
code_of status.Usage = 2
code_of status.Failed = 3

-- the name of a POSIX error
abbrev pub no_file_name : NoFile → List ℕ
no_file_name (Nowhere e) = error_name e
no_file_name Directory = codes "EISDIR"
no_file_name Special = codes "ENXIO"

-- the line of an ending, if it has one
abbrev pub line_of : Ending → List ℕ
line_of Done = []
line_of Warned = []
line_of (Fault fault None) = fault_line fault.number fault.at
line_of (Fault fault (Some image)) = fault_in_line fault.number fault.at image
line_of (Fileless e) = codes "err " ++ (no_file_name e ++ codes "\n")
line_of Usage = codes "usage\n"
line_of Memory = codes "memory\n"
line_of ReadFault = codes "read fault\n"
line_of WriteFault = codes "write fault\n"
line_of TooManyReads = codes "too many reads\n"
line_of (File name) = codes "file " ++ (escaped name.now ++ codes "\n")
line_of Changed = codes "changed\n"
line_of LongPath = codes "path\n"
line_of LongVolume = codes "volume\n"

-- the status with which the program ends
abbrev pub status_of : Ending → Status
status_of Done = status.Done
status_of Warned = status.Refused
status_of (Fault fault image) = status.Refused
status_of (Fileless e) = status.Refused
status_of Usage = status.Usage
status_of _ = status.Failed

-- whether it is a fault
abbrev pub is_fault : Ending → Bool
is_fault (Fault fault image) = true
is_fault _ = false

-- what standard error has, if the output has the line of a fault, or does not have it
abbrev pub complaint_of : Ending → Bool → List ℕ
complaint_of (Fault fault image) true = []
complaint_of (Fault fault image) false = line_of (Fault fault image)
complaint_of o takes = line_of o
