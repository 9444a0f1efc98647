use Rattle.build_commands.specs.Inventory.{lines_found}
use Rattle.build_commands.proofs.Scans.{is_manifest}
use Rattle.build_commands.proofs.laws.scans_are_manifests.Goals as goal

pub returns-clause-plain : goal.returns-clause-plain
returns-clause-plain c = is_manifest c.reads_back.ensures

pub returns-clause-all : goal.returns-clause-all
returns-clause-all c = λ format found volume v h. c.reads_back.ensures volume (lines_found format found) v h
