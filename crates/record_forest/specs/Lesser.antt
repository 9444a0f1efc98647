-- `lesser`, `lesser_fault`, `lesser_of_both`: the lesser of two offsets or of two faults, if there
-- are two. (This project's own.)
use Rattle.std.specs.Prelude.{ℕ, Option, None, Some, nat_lt, nat_le, ◌==◌, ◌||◌, ◌&&◌}
use Rattle.std.specs.Prelude.{if◌then◌else◌}
use Rattle.rom_fields.specs.declared.fault.Fault.{Fault}

-- the lesser of a number, if there is one, and q
abbrev pub lesser : Option ℕ → ℕ → Option ℕ
lesser None q = Some q
lesser (Some p) q = Some (if nat_lt p q then p else q)

-- the lesser of a fault, if there is one, and e
abbrev pub lesser_fault : Option Fault → Fault → Option Fault
lesser_fault None e = Some e
lesser_fault (Some d) e =
    Some (if nat_lt d.at e.at || (d.at == e.at && nat_le d.number e.number) then d else e)

-- the lesser of two faults, or the only one
abbrev pub lesser_of_both : Option Fault → Option Fault → Option Fault
lesser_of_both o None = o
lesser_of_both o (Some e) = lesser_fault o e
