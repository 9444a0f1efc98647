use Rattle.romfs_layout.specs.Layout.{full_size_of, image_of, root_at, all_headers}
use Rattle.romfs_layout.proofs.Image.{tree_in, has_tree}
use Rattle.romfs_layout.proofs.Shaped.{has_shape}
use Rattle.romfs_layout.proofs.laws.layout_has_tree.Goals as goal

pub returns : goal.returns
returns c = λ volume root n contents h. (
  tree_in (image_of volume (full_size_of (root_at volume) n) contents
      (all_headers (root_at volume) root n)) volume n,
  has_tree volume root n contents h,
  has_shape volume root n contents h,
)
