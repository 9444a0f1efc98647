use Rattle.std.proofs.Common.{◌≡◌, ◌+◌, ◌≤◌, length}
use Rattle.std.specs.List.{All}
use Rattle.manifest.specs.Texts.{pieces, pieces_after, weight}
use Rattle.build_commands.specs.Devices.{read_lines}
use Rattle.build_commands.specs.Lists.{IsNew, nothing_said, said}
use Rattle.build_commands.proofs.devices.read_list.Given as goal

abbrev pub invariant-loop-rest : goal.invariant-loop-rest
invariant-loop-rest l = record {
  reads : read_lines (said l.listing) (l.number + 1) (pieces_after 10 l.rest)
      ≡ read_lines nothing_said 1 (pieces 10 l.text);
  counts : l.number + weight l.rest ≤ length l.text + 1;
  new : All IsNew l.listing.files.items;
}

abbrev pub decreases-loop-rest : goal.decreases-loop-rest
decreases-loop-rest l = weight l.rest
