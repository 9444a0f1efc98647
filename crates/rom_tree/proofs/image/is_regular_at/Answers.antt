use Rattle.std.proofs.Common.{sym, ap, ◌∙◌}
use Rattle.rom_tree.specs.Tree.{body_of}
use Rattle.rom_tree.specs.declared.types.Stat.{Stat}
use Rattle.rom_tree.proofs.Bodies.{regular_kind, regular_kind_not}
use Rattle.rom_tree.proofs.image.is_regular_at.Goals as goal

pub returns-in-Regular : goal.returns-in-Regular
returns-in-Regular g c =
    λ x e. regular_kind (body_of x) (sym (ap (λ (s : Stat). s.kind) (c.stat.ensures x e)) ∙ c.in-Regular.is)

pub returns-in_default : goal.returns-in_default
returns-in_default g c = λ x e. regular_kind_not (body_of x)
    (λ k. c.in_default.not-Regular (ap (λ (s : Stat). s.kind) (c.stat.ensures x e) ∙ k))
