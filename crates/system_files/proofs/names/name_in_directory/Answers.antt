use Rattle.std.proofs.Common.{Some, None}
use Rattle.system_files.proofs.Split.{split_some, split_none}
use Rattle.system_files.proofs.names.name_in_directory.Goals as goal

pub returns-in-Some : goal.returns-in-Some
returns-in-Some c = (Some c.in-Some.field-0-0.now, split_some c.args.name.now _ _ c.in-Some.ensures.cases)

pub returns-in-None : goal.returns-in-None
returns-in-None c = (None, split_none c.args.name.now c.in-None.ensures.cases)
