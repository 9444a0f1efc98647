use Rattle.atomic_file.specs.Moments.{IsBegun, IsReplaced}
use Rattle.build_commands.specs.Built.{IsMade}
use Rattle.build_commands.proofs.Making.{built_of, unbuilt_by_all}
use Rattle.build_commands.proofs.command.build_file.Goals as goal

pub returns-clause-ok : goal.returns-clause-ok
returns-clause-ok g c =
    let job = c.args.job.now in
    let ended = c.replaced_by-opener.result in
    built_of job.wanted job.text.now job.foreseen
    (λ old. IsBegun c.args.names c.args.begun.name old (g.D.Directory.log c.args.directory.now))
    (λ old ns. IsReplaced c.args.names (IsMade (g.K.LastCheck.passed ended.last) job.wanted
    (g.O.Opener.contents c.args.tools.opener) (g.O.Opener.IsLog c.args.tools.opener) (g.O.Opener.IsLog ended.opener)
    ns job.plan.now g.D.Directory.fresh) old (g.D.Directory.log c.replaced_by-opener.new.directory))
    job.plan.now _ _ job.manifest.now _ job.says job.named job.planned job.format job.within
    job.strict job.in_place ended.result c.report-result.result
    c.replaced_by-opener.ensures.ok c.report-result.ensures.ok

pub returns-clause-err : goal.returns-clause-err
returns-clause-err g c =
    unbuilt_by_all c.args.names _
    (λ old. IsBegun c.args.names c.args.begun.name old (g.D.Directory.log c.args.directory.now)) _
    c.replaced_by-opener.result.result c.report-result.result c.replaced_by-opener.ensures.ok
    c.replaced_by-opener.ensures.err c.report-result.ensures.err
