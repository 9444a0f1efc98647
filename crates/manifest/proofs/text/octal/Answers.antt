use Rattle.std.proofs.Common.{◌≡◌, length, arith}
use Rattle.manifest.specs.Texts.{octal}
use Rattle.manifest.proofs.Digits.{mode_digits}
use Rattle.manifest.proofs.text.octal.Goals as goal

pub returns : goal.returns
unfolding octal
returns c = let four : length c.args.text.now ≡ 4 = omega arith in grind (arith, mode_digits)
