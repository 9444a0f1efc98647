use Rattle.std.proofs.Common.{◌≡◌, arith, false, nat_lt, refl}
use Rattle.std.proofs.lemmas.Bool.Decides.{nat_tests}
use Rattle.image_info.proofs.digits.digit_of.Goals as goal

pub returns-else-n-lt10 : goal.returns-else-n-lt10
returns-else-n-lt10 c =
    let h = c.if-n-lt10.false in
    let t : nat_lt c.args.n 10 ≡ false = grind (arith, nat_tests) in
    rw t refl
