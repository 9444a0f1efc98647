use Rattle.std.proofs.Common.{length}
use Rattle.build_commands.specs.Scans.{all_shown}
use Rattle.build_commands.proofs.Fitting.{are_taken}
use Rattle.build_commands.proofs.laws.scan_is_the_tree.Goals as goal

pub returns : goal.returns
returns c = λ path t ns ok moved sorted.
    c.scans_are_manifests.ensures.plain (all_shown (length path) ns) (are_taken path t ns ok moved sorted)
