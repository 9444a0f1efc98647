use Rattle.std.proofs.Common.{sym, ap, ◌∙◌}
use Rattle.rom_tree.specs.Tree.{body_of}
use Rattle.rom_tree.specs.declared.types.Stat.{Stat}
use Rattle.rom_tree.proofs.Bodies.{link_kind, link_kind_not}
use Rattle.rom_tree.proofs.image.is_link_at.Goals as goal

pub returns-in-Symlink : goal.returns-in-Symlink
returns-in-Symlink g c =
    λ x e. link_kind (body_of x) (sym (ap (λ (s : Stat). s.kind) (c.stat.ensures x e)) ∙ c.in-Symlink.is)

pub returns-in_default : goal.returns-in_default
returns-in_default g c = λ x e. link_kind_not (body_of x)
    (λ k. c.in_default.not-Symlink (ap (λ (s : Stat). s.kind) (c.stat.ensures x e) ∙ k))
