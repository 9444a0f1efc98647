use Rattle.rom_c.proofs.files.romtool_open_v3.Goals as goal

pub returns-clause-opened : goal.returns-clause-opened
returns-clause-opened c = λ z. c.open_in.ensures.opened
