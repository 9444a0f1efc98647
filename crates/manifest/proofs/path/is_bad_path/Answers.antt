use Rattle.std.proofs.Common.{◌≡◌, false, sym, arith}
use Rattle.std.proofs.lemmas.Grind.{common_steps}
use Rattle.manifest.specs.Texts.{is_bad}
use Rattle.manifest.specs.Paths.{names_of}
use Rattle.manifest.proofs.path.is_bad_path.Goals as goal

pub returns-in-len1-up-2 : goal.returns-in-len1-up-2
unfolding names_of
returns-in-len1-up-2 c =
    let good : is_bad 4095 c.args.path.now ≡ false = sym c.if-is_bad.ensures in grind (arith, common_steps)
