use Rattle.rom_c.proofs.files.is_open.Goals as goal

pub returns-then-file-ne-OPEN-clause-open : goal.returns-then-file-ne-OPEN-clause-open
returns-then-file-ne-OPEN-clause-open c = tt
