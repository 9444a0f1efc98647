use Rattle.std.proofs.Common.{arith, ◌<◌, get_or, subst}
use Rattle.std.proofs.lemmas.List.{get_or_default}
use Rattle.image_info.proofs.Given.{check_gave}
use Rattle.romtool.proofs.inspect.checked.Goals as goal

pub returns-in-Ok-clause-checked : goal.returns-in-Ok-clause-checked
returns-in-Ok-clause-checked c =
    check_gave c.args.bytes.now c.usual.result c.in-Ok.image c.in-Ok.ensures.ok c.in-Ok.ensures.format

pub returns-in-Ok-clause-lawful : goal.returns-in-Ok-clause-lawful
returns-in-Ok-clause-lawful c =
    c.accepted_is_lawful.ensures _ _ _ _ (λ k d l.
    let small : get_or c.args.bytes.now k 0 < 256 = omega (arith, c.type_inv.bytes k) in
    subst (λ n. n < 256) (get_or_default c.args.bytes.now k 0 d l) small) c.in-Ok.ensures.ok
