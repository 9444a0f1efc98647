use Rattle.rom_c.proofs.numbers.romtool_from_numbers_v3.Goals as goal

pub described-requires : goal.described-requires
described-requires c =
    let w = c.requires c.if-not-is_description.ensures.yes in (w.0, w.1, w.2, w.3.1)
