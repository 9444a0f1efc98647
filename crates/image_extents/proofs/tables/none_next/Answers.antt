use Rattle.std.proofs.Common.{◌∙◌, length}
use Rattle.std.specs.Prelude.{vec_len}
use Rattle.image_extents.proofs.Sharing.{all_alone, resized}
use Rattle.image_extents.proofs.tables.none_next.Goals as goal

pub returns : goal.returns
returns c =
    c.in_ok-resize.ensures.items
    ∙ resized (length c.args.records.now) (vec_len c.new-next.result) c.new-next.result.items c.new-next.ensures.len
    c.new-next.ensures.items
    ∙ all_alone c.args.records.now
