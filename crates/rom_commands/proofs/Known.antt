-- The line of a fault that is known is told as it is of the bytes that have the fault.
use Rattle.std.proofs.Common.{◌≡◌, ℕ, Bool, true, false, List, inl, inr, refl, sym, subst, None}
use Rattle.rom_fields.specs.declared.fault.Fault.{Fault}
use Rattle.rom_fields.specs.Written.{Output}
use Rattle.rom_commands.specs.declared.asked.Asked.{Asked}
use Rattle.rom_commands.specs.declared.ending.Ending.{Ending}
use Rattle.rom_commands.specs.declared.ending.Ending.TheVariants as ending
use Rattle.rom_commands.specs.Asked.{takes_fault}
use Rattle.rom_commands.specs.Endings.{line_of}
use Rattle.rom_commands.specs.Answers.{Ends, HasFault, IsFaultText, IsWrittenIf, ShowsFault, WritesFault}

-- a fault that was written and flushed was written
pub shown_by : (fault : Ending) (old new : Output) (o : Ending) → WritesFault fault old new o
    → ShowsFault true fault old new o
shown_by fault old new o (inl t) = inl (t.0, t.1, t.2)
shown_by fault old new o (inr t) = inr t

-- how the showing of a fault ends, it ends of the bytes that have the fault
pub fault_ends : (bytes : List ℕ) (fault : Fault) (asked : Asked) (takes : Bool) (old new : Output) (o : Ending)
    → takes_fault asked ≡ takes → HasFault bytes fault.number fault.at
    → ShowsFault takes (ending.Fault fault None) old new o → Ends bytes asked old new o
fault_ends bytes fault asked true old new o e h (inl t) =
    let P : Ending → Type 0 = λ v. Ends bytes asked old new v in
    let Told : Bool → Type 0 = λ b. IsWrittenIf b (line_of (ending.Fault fault None)) old new in
    subst P (sym t.0) (h, subst Told (sym e) (t.1, t.2))
fault_ends bytes fault asked true old new o e h (inr t) =
    let P : Ending → Type 0 = λ v. Ends bytes asked old new v in
    let is : IsFaultText bytes (line_of (ending.Fault fault None)) =
    record { number = fault.number; at = fault.at; fault = h; same = refl } in
    subst P (sym t.0) (line_of (ending.Fault fault None), inr (is, e), t.1, t.2)
fault_ends bytes fault asked false old new o e h t =
    let P : Ending → Type 0 = λ v. Ends bytes asked old new v in
    let Told : Bool → Type 0 = λ b. IsWrittenIf b (line_of (ending.Fault fault None)) old new in
    subst P (sym t.0) (h, subst Told (sym e) t.1)
