use Rattle.std.proofs.Common.{refl}
use Rattle.cramfs_layout.proofs.Sealed.{is_sealed}
use Rattle.cramfs_layout.proofs.laws.layout_is_sealed.Goals as goal

pub returns : goal.returns
returns c = λ o volume root n contents.
    is_sealed o volume root n contents (λ bytes m k d e. c.one_tree.ensures.tree o o bytes m k d e) refl refl
