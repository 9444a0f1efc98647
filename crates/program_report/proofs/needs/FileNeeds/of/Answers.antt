use Rattle.std.proofs.Common.{arith, ap, length, Option}
use Rattle.elf_format.specs.Needs.{Needed}
use Rattle.program_report.specs.FileNeeded.{needed_or_none}
use Rattle.program_report.proofs.Few.{few_needed}
use Rattle.program_report.proofs.needs.FileNeeds.of.Goals as goal

pub invariant_of-result : goal.invariant_of-result
invariant_of-result c =
    let e = ap (λ (v : Option Needed). length (needed_or_none v).needed) c.read-libraries.ensures in
    (omega (arith, e, few_needed c.args.bytes.now), c.run_path_of-run_path.ensures)
