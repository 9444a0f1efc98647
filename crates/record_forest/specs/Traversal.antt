-- `IsLeastRefusal`: the meaning of a refusal of the traversal. (This project's own.)
use Rattle.std.specs.Prelude.{ℕ}
use Rattle.record_forest.specs.declared.reference.Reference.{Reference}
use Rattle.rom_fields.specs.declared.fault.Fault.{Fault}
use Rattle.record_forest.specs.declared.traversal.TraversalError.{TraversalError}
use Rattle.record_forest.specs.declared.traversal.TraversalError.TheVariants.{OutOfMemory}
use Rattle.record_forest.specs.declared.traversal.TraversalError.TheVariants.{TooMany as TooManyRefusal}
use Rattle.record_forest.specs.declared.traversal.TraversalError.TheVariants.{Record}
use Rattle.record_forest.specs.declared.traversal.TraversalError.TheVariants.{Twice as TwiceRefusal}
use Rattle.record_forest.specs.References.{References, Reached}
use Rattle.record_forest.specs.Faults.{TooMany, HasFault, Twice, IsLeast, IsLeastFault}

-- the first of the three phases that has a fault, and the least fault of that phase
abbrev pub IsLeastRefusal : References → (Reference → Type 0) → (Reference → Fault → Type 0) → ℕ
    → TraversalError
    → Type 0
IsLeastRefusal g Sound Faulty most OutOfMemory = Unit {0}
IsLeastRefusal g Sound Faulty most TooManyRefusal = TooMany g Sound most
IsLeastRefusal g Sound Faulty most (Record e) =
    (TooMany g Sound most → ⊥) × IsLeastFault (HasFault g Sound Faulty) e
IsLeastRefusal g Sound Faulty most (TwiceRefusal q) =
    (TooMany g Sound most → ⊥) × ((x : Reference) → Reached g Sound x → Sound x)
    × IsLeast (Twice g Sound) q
