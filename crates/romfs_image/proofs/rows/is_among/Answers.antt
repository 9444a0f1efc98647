use Rattle.std.proofs.Common.{◌∙◌}
use Rattle.romfs_image.proofs.Offsets.{among}
use Rattle.romfs_image.proofs.rows.is_among.Goals as goal

pub returns : goal.returns
returns c = c.is_ok.ensures.value ∙ among c.args.rows.now c.args.offsets.now c.args.offset _ c.requires
    c.binary_search.ensures.position
