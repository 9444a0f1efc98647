-- The lines of a valid image and of a fault. (This project's own.)
use Rattle.std.specs.Prelude.{ℕ, List, ◌++◌, codes, decimal}
use Rattle.rom_fields.specs.Faults.{name_of_fault}

-- fault NUMBER NAME at OFFSET
abbrev pub fault_text : ℕ → ℕ → List ℕ
fault_text n at =
    codes "fault " ++ (decimal n
    ++ (codes " " ++ (name_of_fault n ++ (codes " at " ++ decimal at))))

-- the same and a line feed
unfoldable pub fault_line : ℕ → ℕ → List ℕ
fault_line n at = fault_text n at ++ codes "\n"

-- fault NUMBER NAME at OFFSET in IMAGE, and a line feed
unfoldable pub fault_in_line : ℕ → ℕ → ℕ → List ℕ
fault_in_line n at image = fault_text n at ++ (codes " in " ++ (decimal image ++ codes "\n"))

-- ok FORMAT REFERENCES DEPTH, and a line feed
unfoldable pub ok_line : List ℕ → ℕ → ℕ → List ℕ
ok_line format references depth =
    codes "ok " ++ (format ++ (codes " "
    ++ (decimal references ++ (codes " " ++ (decimal depth ++ codes "\n")))))
