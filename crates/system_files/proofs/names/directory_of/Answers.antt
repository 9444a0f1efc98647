use Rattle.std.proofs.Common.{Some, None, refl}
use Rattle.system_files.proofs.Split.{split_some, split_none}
use Rattle.system_files.proofs.names.directory_of.Goals as goal

pub returns-in-Some : goal.returns-in-Some
returns-in-Some c = (
  Some c.in-Some.directory.now,
  c.in-Some.field-0-1.now,
  split_some c.args.name.now _ _ c.in-Some.ensures.cases,
  c.or_root.ensures,
)

pub returns-in-None : goal.returns-in-None
returns-in-None c = (None, c.args.name.now, split_none c.args.name.now c.in-None.ensures.cases, refl)
