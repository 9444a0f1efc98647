use Rattle.std.proofs.Common.{refl, sym, ◌∙◌}
use Rattle.rom_c.specs.Held.{IsFormat}
use Rattle.rom_c.proofs.image.opened_cramfs.Goals as goal
use Rattle.rom_c.proofs.image.opened_cramfs.Goals.{in-Little, in-Big}

pub returns-clause-format : goal.returns-clause-format
returns-clause-format c = elim c.match-parts.branch [
  | in-Little w ↦ rw w.result-is (IsFormat.cramfs c.requires.begins (sym c.requires.order ∙ w.in-Little.is) refl)
  | in-Big w ↦ rw w.result-is (IsFormat.cramfs_big c.requires.begins (sym c.requires.order ∙ w.in-Big.is) refl)
]
