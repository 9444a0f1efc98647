use Rattle.std.proofs.Common.{ℕ, List, Option, sym, subst}
use Rattle.std.specs.Prelude.{IfOk}
use Rattle.build_commands.specs.Built.{IsBuilt, IsMade}
use Rattle.romtool.proofs.Outcome.{built_more, ok_of, written}
use Rattle.romtool.proofs.placing.build_straight.Goals.{in-Err-NotKept, in-Err-NotMade-NotClosed}
use Rattle.romtool.proofs.placing.build_straight.Goals.{in-Err-NotMade-NotWritten, in-Err-NotReported, in-Ok}
use Rattle.romtool.proofs.placing.build_straight.Goals as goal
use Rattle.romtool.specs.Placed.{IsWrittenAs}

pub returns-clause-ok : goal.returns-clause-ok
returns-clause-ok g c =
    let job = c.args.job.now in
    let done = c.build_over-opener in
    let Q = IsBuilt job.wanted job.text.now job.foreseen (λ opened. (known new : Option (List ℕ))
    × IsMade (g.K.LastCheck.passed done.result.last) job.wanted (g.O.Opener.contents c.args.tools.opener)
    (g.O.Opener.IsLog c.args.tools.opener) (g.O.Opener.IsLog done.result.opener) opened job.plan.now known new)
    job.plan.now (g.W.ByteWrite.output c.args.out.now) (g.W.ByteWrite.output done.new.out) in
    elim c.match-result.branch [
      | in-Ok w ↦ written Q c.match-result.result _ w.result-is
          (built_more job.wanted job.text.now job.foreseen job.plan.now _ _ (λ names m. (_, m.0, m.2))
          (ok_of _ done.result.result _ w.in-Ok.is done.ensures.ok))
      | in-Err-NotMade-NotWritten w ↦ subst (λ r. IfOk r (IsWrittenAs Q)) (sym w.result-is) tt
      | in-Err-NotMade-NotClosed w ↦ subst (λ r. IfOk r (IsWrittenAs Q)) (sym w.result-is) tt
      | in-Err-NotKept w ↦ subst (λ r. IfOk r (IsWrittenAs Q)) (sym w.result-is) tt
      | in-Err-NotReported w ↦ subst (λ r. IfOk r (IsWrittenAs Q)) (sym w.result-is) tt
    ]
