use Rattle.std.proofs.lemmas.Grind.{common_steps}
use Rattle.std.proofs.Common.{sym, ◌∙◌, arith}
use Rattle.cramfs_image.proofs.Naming.{shorter_before}
use Rattle.cramfs_image.proofs.names.comes_before.Goals as goal

pub returns-then-is_empty : goal.returns-then-is_empty
returns-then-is_empty c =
    sym (shorter_before c.loop-xs.xs.now c.loop-xs.ys.now (grind arith) (grind arith)) ∙ c.loop-xs.invariant

pub returns-then-xs-ys : goal.returns-then-xs-ys
returns-then-xs-ys c = grind (arith, common_steps)

pub returns-then-xs-ys-2 : goal.returns-then-xs-ys-2
returns-then-xs-ys-2 c = grind (arith, common_steps)
