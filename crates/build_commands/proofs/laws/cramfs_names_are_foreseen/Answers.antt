use Rattle.std.proofs.Common.{ap}
use Rattle.linux_misreads.specs.Differences.{is_not_found}
use Rattle.build_commands.specs.Planned.{last_of}
use Rattle.build_commands.proofs.AlikeCramfs.{misread_alike, tables_alike}
use Rattle.build_commands.proofs.laws.cramfs_names_are_foreseen.Goals as goal

pub returns-clause-file : goal.returns-clause-file
returns-clause-file c = λ s ns contents lines sizes path kept o x i h.
    misread_alike s ns contents lines sizes path kept o x h (c.cramfs_device_numbers.ensures s x i)

pub returns-clause-name : goal.returns-clause-name
returns-clause-name c = λ s ns path i kept x e. ap (is_not_found (last_of path)) e

pub returns-clause-table : goal.returns-clause-table
returns-clause-table c = λ s ns contents path i kept x h k. tables_alike s ns contents path i kept x h k
