use Rattle.std.proofs.Common.{◌∙◌}
use Rattle.build_commands.proofs.Making.{made_by, moments_of, replaced_by_all, kept_by_all}
use Rattle.build_commands.proofs.command.replaced_by.Goals as goal

pub returns-clause-any_moment : goal.returns-clause-any_moment
returns-clause-any_moment g c = λ old begun.
    moments_of c.args.names _ _
    (made_by c.args.job.now.wanted _ (g.O.Opener.IsLog c.args.opener) (g.O.Opener.IsLog c.into_parts-opener.result.0)
    (g.O.Opener.IsLog c.end.new.self) c.padding_after.ensures c.new.ensures.known c.new.ensures.log
    (c.put-result.ensures.names ∙ c.new.ensures.names) c.into_parts-opener.ensures.log c.end.ensures.log)
    old _ _ (c.put-result.ensures.any_moment old begun)

pub returns-clause-ok : goal.returns-clause-ok
returns-clause-ok g c =
    replaced_by_all c.args.names _ _
    (made_by c.args.job.now.wanted _ (g.O.Opener.IsLog c.args.opener) (g.O.Opener.IsLog c.into_parts-opener.result.0)
    (g.O.Opener.IsLog c.end.new.self) c.padding_after.ensures c.new.ensures.known c.new.ensures.log
    (c.put-result.ensures.names ∙ c.new.ensures.names) c.into_parts-opener.ensures.log c.end.ensures.log)
    _ _ c.put-result.result c.put-result.ensures.ok

pub returns-clause-err : goal.returns-clause-err
returns-clause-err g c =
    kept_by_all c.args.names _ _
    (made_by c.args.job.now.wanted _ (g.O.Opener.IsLog c.args.opener) (g.O.Opener.IsLog c.into_parts-opener.result.0)
    (g.O.Opener.IsLog c.end.new.self) c.padding_after.ensures c.new.ensures.known c.new.ensures.log
    (c.put-result.ensures.names ∙ c.new.ensures.names) c.into_parts-opener.ensures.log c.end.ensures.log)
    _ _ c.put-result.result c.put-result.ensures.err
