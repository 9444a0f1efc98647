use Rattle.std.proofs.Common.{◌<◌, List, length, arith, refl}
use Rattle.rom_tree.specs.Image.{Image}
use Rattle.image_check.specs.Any.{any_view}
use Rattle.image_manifest.specs.ExtractedMembers.{made_in, members_in}
use Rattle.image_manifest.specs.declared.giving.Giving.{Giving}
use Rattle.tree_extract.specs.declared.tree.Kind.{Kind}
use Rattle.tree_extract.proofs.Chosen.{length_with}
use Rattle.romtool.proofs.extraction.Extraction.fill.Goals as goal

-- the root is always a member
some_member : (g : Giving) (m : Image) → 0 < length (members_in g m)
unfolding members_in
some_member g m = omega arith

some_made : (g : Giving) (m : Image) (ks : List Kind) → 0 < length (made_in g m ks)
some_made g m ks =
    let all = some_member g m in
    let same = length_with (members_in g m) ks in
    omega (arith, all, same)

pub rights-requires : goal.rights-requires
rights-requires c κs =
    let tree = c.args.self.now.tree.now in
    ((refl, (refl, tt)), some_made tree.giving (any_view tree.image.now) tree.kinds.now)
