use Rattle.std.proofs.Common.{sym, ◌∙◌}
use Rattle.rom_c.proofs.lending.can_open.Goals as goal

pub returns-else-is_directory_at : goal.returns-else-is_directory_at
returns-else-is_directory_at c = λ x e.
    rw (sym (c.is_directory_at.ensures x e) ∙ c.if-is_directory_at.false) (c.is_regular_at.ensures x e)
