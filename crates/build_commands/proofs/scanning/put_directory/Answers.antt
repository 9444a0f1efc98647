use Rattle.build_commands.proofs.Scans.{put_directory_is}
use Rattle.build_commands.proofs.scanning.put_directory.Goals as goal

pub returns : goal.returns
returns g c = put_directory_is c.args.path.now _ c.plain_entry.ensures c.put_line.ensures
