use Rattle.std.proofs.Common.{◌∙◌}
use Rattle.build_commands.proofs.Making.{made_by, made_somehow}
use Rattle.build_commands.proofs.command.written_over.Goals as goal

pub returns : goal.returns
returns g c = record {
  ok = made_somehow _
      (made_by c.args.job.now.wanted _ (g.O.Opener.IsLog c.args.opener) (g.O.Opener.IsLog c.into_parts-opener.result.0)
      (g.O.Opener.IsLog c.end.new.self) c.padding_after.ensures c.new.ensures.known c.new.ensures.log
      (c.fill_and_close-result.ensures.names ∙ c.new.ensures.names) c.into_parts-opener.ensures.log
      c.end.ensures.log) c.fill_and_close-result.result c.fill_and_close-result.ensures.ok;
}
