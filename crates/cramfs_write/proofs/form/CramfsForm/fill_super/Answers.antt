use Rattle.std.proofs.lemmas.Grind.{common_steps}
use Rattle.std.proofs.Common.{arith}
use Rattle.cramfs_write.proofs.form.CramfsForm.fill_super.Goals as goal

pub returns : goal.returns
returns c = grind (arith, common_steps)
