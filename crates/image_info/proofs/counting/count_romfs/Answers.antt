use Rattle.std.proofs.Common.{◌∙◌, ap}
use Rattle.rom_fields.specs.Words.{word_be}
use Rattle.image_info.proofs.Given.{romfs_shown, romfs_counted}
use Rattle.image_info.proofs.counting.count_romfs.Goals as goal

pub extents-requires : goal.extents-requires
extents-requires c = romfs_shown c.args.image.now c.requires

pub returns : goal.returns
returns c =
    romfs_counted c.args.image.now c.stated_size-size.result c.unused_bytes.result c.deref_mut.result.now
    c.in_ok-spans.spans.items c.requires
    (c.stated_size-size.ensures ∙ ap (λ v. word_be v 8) c.bytes.ensures) c.in_ok-spans.ensures
    c.deref_mut.ensures.value c.unused_bytes.ensures
