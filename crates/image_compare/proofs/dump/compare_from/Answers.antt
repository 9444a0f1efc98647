use Rattle.image_compare.proofs.Dumps.{told_from_offset}
use Rattle.image_compare.proofs.dump.compare_from.Goals as goal

pub returns : goal.returns
returns g c =
    told_from_offset _ _ _ _ _ _ c.compare.result c.in_ok-reader.ensures c.in_ok-pass_over.ensures c.compare.ensures
