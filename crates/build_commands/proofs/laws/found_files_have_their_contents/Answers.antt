use Rattle.build_commands.proofs.Contained.{contained, contents_shared}
use Rattle.build_commands.proofs.laws.found_files_have_their_contents.Goals as goal

pub returns-clause-sourced : goal.returns-clause-sourced
returns-clause-sourced c = contained

pub returns-clause-shared : goal.returns-clause-shared
returns-clause-shared c = contents_shared
