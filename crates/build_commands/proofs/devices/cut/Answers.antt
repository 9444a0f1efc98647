use Rattle.manifest.proofs.Pieces.{cut_none, cut_some}
use Rattle.build_commands.proofs.devices.cut.Goals as goal

pub returns-in-None-clause-whole : goal.returns-in-None-clause-whole
returns-in-None-clause-whole c = cut_none c.args.at c.args.text.now c.in-None.ensures

pub returns-in-Some-clause-whole : goal.returns-in-Some-clause-whole
returns-in-Some-clause-whole c = cut_some c.args.at c.in-Some.i c.args.text.now c.in-Some.ensures.0 c.in-Some.ensures.1
