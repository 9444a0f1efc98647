-- `traversal_answer`: a refusal of the traversal as the answer of a check. `AnswersLeast`: the
-- answer is the least fault; or memory was refused, and then the image as a whole has no fault.
-- (This project's own.)
use Rattle.rom_fields.specs.declared.check_error.CheckError.{CheckError}
use Rattle.rom_fields.specs.declared.check_error.CheckError.TheVariants.{OutOfMemory}
use Rattle.rom_fields.specs.declared.check_error.CheckError.TheVariants.{Fault as FaultAnswer}
use Rattle.rom_fields.specs.declared.fault.Fault.{Fault}
use Rattle.rom_fields.specs.FaultNumbers.{TOO_MANY, TWICE}
use Rattle.rom_fields.specs.Faults.{fault_answer}
use Rattle.record_forest.specs.Faults.{IsNone}
use Rattle.record_forest.specs.declared.traversal.TraversalError.{TraversalError}
use Rattle.record_forest.specs.declared.traversal.TraversalError.TheVariants.{OutOfMemory as NoMemory}
use Rattle.record_forest.specs.declared.traversal.TraversalError.TheVariants.{TooMany, Record}
use Rattle.record_forest.specs.declared.traversal.TraversalError.TheVariants.{Twice}

-- the answered fault is the least, by Least; refused memory is answered only if the image as a
-- whole has no fault, by Whole
abbrev pub AnswersLeast : (Fault → Type 0) → (Fault → Type 0) → CheckError → Type 0
AnswersLeast Whole Least OutOfMemory = IsNone Whole
AnswersLeast Whole Least (FaultAnswer number at) = Least (record { number = number; at = at })

-- a refusal of the traversal as an answer of the check: 1 TooMany at 0, a record's fault, 20 Twice
abbrev pub traversal_answer : TraversalError → CheckError
traversal_answer NoMemory = OutOfMemory
traversal_answer TooMany = FaultAnswer TOO_MANY 0
traversal_answer (Record e) = fault_answer e
traversal_answer (Twice q) = FaultAnswer TWICE q
