use Rattle.std.proofs.Common.{[], List, None, sym, subst}
use Rattle.std.specs.Prelude.{IfOk}
use Rattle.atomic_file.specs.Log.{Event}
use Rattle.atomic_file.specs.Moments.{IsReplaced}
use Rattle.build_commands.specs.Built.{IsBuilt, IsMade}
use Rattle.romtool.proofs.Outcome.{ok_of, renamed}
use Rattle.romtool.proofs.placing.build_part.Goals.{in-Err-NotKept, in-Err-NotMade-NotKept}
use Rattle.romtool.proofs.placing.build_part.Goals.{in-Err-NotMade-NotWritten, in-Err-NotReported, in-Ok}
use Rattle.romtool.proofs.placing.build_part.Goals as goal
use Rattle.romtool.specs.Placed.{IsRenamedAs}
use Rattle.system_files.specs.Parts.{part_names}

pub returns-clause-ok : goal.returns-clause-ok
returns-clause-ok g c =
    let job = c.args.job.now in
    let done = c.build_file-opener in
    let Q : List Event → Type 0 = λ log. IsBuilt job.wanted job.text.now job.foreseen (λ opened. IsReplaced part_names
    (IsMade (g.K.LastCheck.passed done.result.last) job.wanted (g.O.Opener.contents c.args.tools.opener)
    (g.O.Opener.IsLog c.args.tools.opener) (g.O.Opener.IsLog done.result.opener) opened job.plan.now None) [] log)
    job.plan.now (g.W.ByteWrite.output c.args.out.now) (g.W.ByteWrite.output done.new.out) in
    elim c.match-result.branch [
      | in-Ok w ↦ renamed Q c.match-result.result w.into_account.result _ w.result-is w.into_account.ensures
          (ok_of _ done.result.result w.in-Ok.field-0 w.in-Ok.is done.ensures.ok [] c.part.invariant.0)
      | in-Err-NotMade-NotWritten w ↦ subst (λ r. IfOk r (IsRenamedAs Q)) (sym w.result-is) tt
      | in-Err-NotMade-NotKept w ↦ subst (λ r. IfOk r (IsRenamedAs Q)) (sym w.result-is) tt
      | in-Err-NotKept w ↦ subst (λ r. IfOk r (IsRenamedAs Q)) (sym w.result-is) tt
      | in-Err-NotReported w ↦ subst (λ r. IfOk r (IsRenamedAs Q)) (sym w.result-is) tt
    ]
