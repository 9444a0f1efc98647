use Rattle.system_files.proofs.Trimmed.{trimmed}
use Rattle.system_files.proofs.directories.base.Goals as goal

pub returns : goal.returns
returns c = trimmed c.args.directory.now c.trim_end_matches.result.now c.trim_end_matches.ensures.matches
