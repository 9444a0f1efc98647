use Rattle.build_commands.proofs.Reached.{reported, shared}
use Rattle.build_commands.proofs.laws.found_files_are_meant.Goals as goal

pub returns-clause-reported : goal.returns-clause-reported
returns-clause-reported c = reported

pub returns-clause-shared : goal.returns-clause-shared
returns-clause-shared c = λ format found volume image t contents sizes has taken meant.
    shared format found volume image t contents sizes taken meant has
