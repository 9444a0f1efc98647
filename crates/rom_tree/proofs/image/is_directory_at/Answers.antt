use Rattle.std.proofs.Common.{sym, ap, ◌∙◌}
use Rattle.rom_tree.specs.Tree.{body_of}
use Rattle.rom_tree.specs.declared.types.Stat.{Stat}
use Rattle.rom_tree.proofs.Bodies.{directory_kind, directory_kind_not}
use Rattle.rom_tree.proofs.image.is_directory_at.Goals as goal

pub returns-in-Directory : goal.returns-in-Directory
returns-in-Directory g c =
    λ x e. directory_kind (body_of x) (sym (ap (λ (s : Stat). s.kind) (c.stat.ensures x e)) ∙ c.in-Directory.is)

pub returns-in_default : goal.returns-in_default
returns-in_default g c = λ x e. directory_kind_not (body_of x)
    (λ k. c.in_default.not-Directory (ap (λ (s : Stat). s.kind) (c.stat.ensures x e) ∙ k))
