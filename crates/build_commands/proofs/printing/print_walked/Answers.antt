use Rattle.directory_walk.specs.Views.{names_of}
use Rattle.build_commands.proofs.ScanMeant.{meant}
use Rattle.build_commands.proofs.printing.print_walked.Goals as goal

pub returns-in-Err-clause-tree : goal.returns-in-Err-clause-tree
returns-in-Err-clause-tree g c = meant c.scan_is_the_tree.ensures (names_of c.args.entries.items) c.args.front

pub returns-in-Ok-put_scan-clause-tree : goal.returns-in-Ok-put_scan-clause-tree
returns-in-Ok-put_scan-clause-tree g c = meant c.scan_is_the_tree.ensures (names_of c.args.entries.items) c.args.front

pub returns-clause-tree : goal.returns-clause-tree
returns-clause-tree g c = meant c.scan_is_the_tree.ensures (names_of c.args.entries.items) c.args.front
