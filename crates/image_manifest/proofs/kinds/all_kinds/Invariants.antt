use Rattle.std.proofs.Common.{◌≡◌, take}
use Rattle.image_manifest.specs.ExtractedMembers.{members_in}
use Rattle.image_manifest.specs.declared.giving.Giving.{Giving}
use Rattle.tree_extract.specs.Choices.{kinds_of}
use Rattle.image_manifest.proofs.kinds.all_kinds.Given as goal

abbrev pub invariant-loop-index : goal.invariant-loop-index
invariant-loop-index g l =
    (giving : Giving) → l.kinds.items ≡ take l.index (kinds_of (members_in giving (g.T.Viewed.image l.image)))
