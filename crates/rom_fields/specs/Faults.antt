-- `name_of_fault`: the names of the faults by their numbers. `fault_answer`: a fault as the answer
-- of a check. (This project's own.)
use Rattle.std.specs.Prelude.{ℕ, List, ◌==◌, if◌then◌else◌, codes}
use Rattle.rom_fields.specs.declared.check_error.CheckError.{CheckError}
use Rattle.rom_fields.specs.declared.check_error.CheckError.TheVariants.{Fault as FaultAnswer}
use Rattle.rom_fields.specs.declared.fault.Fault.{Fault}
use Rattle.rom_fields.specs.FaultNumbers.{TOO_MANY, SHORT, MAGIC, SIZE, SUM, FLAGS, CRC, SIGNATURE}
use Rattle.rom_fields.specs.FaultNumbers.{ROOT, BOUNDS, HEADER_SUM, BAD_NAME, KIND, LINK_SIZE}
use Rattle.rom_fields.specs.FaultNumbers.{BLOCK_KIND, LIST_END, TWICE, TOO_DEEP, OVERLAP}
use Rattle.rom_fields.specs.FaultNumbers.{DUPLICATE_NAME, DOT, HARD_LINK, UNSORTED}

abbrev pub name_of_fault : ℕ → List ℕ
name_of_fault n =
    if n == TOO_MANY then codes "TooMany"
    else (if n == SHORT then codes "Short"
    else (if n == MAGIC then codes "Magic"
    else (if n == SIZE then codes "Size"
    else (if n == SUM then codes "Sum"
    else (if n == FLAGS then codes "Flags"
    else (if n == CRC then codes "Crc"
    else (if n == SIGNATURE then codes "Signature"
    else (if n == ROOT then codes "Root"
    else (if n == BOUNDS then codes "Bounds"
    else (if n == HEADER_SUM then codes "HeaderSum"
    else (if n == BAD_NAME then codes "BadName"
    else (if n == KIND then codes "Kind"
    else (if n == LINK_SIZE then codes "LinkSize"
    else (if n == BLOCK_KIND then codes "BlockKind"
    else (if n == LIST_END then codes "ListEnd"
    else (if n == TWICE then codes "Twice"
    else (if n == TOO_DEEP then codes "TooDeep"
    else (if n == OVERLAP then codes "Overlap"
    else (if n == DUPLICATE_NAME then codes "DupName"
    else (if n == DOT then codes "Dot"
    else (if n == HARD_LINK then codes "HardLink"
    else (if n == UNSORTED then codes "Unsorted"
    else codes "Unknown"))))))))))))))))))))))

-- a fault as an answer, by its number and its offset
abbrev pub fault_answer : Fault → CheckError
fault_answer e = FaultAnswer e.number e.at
