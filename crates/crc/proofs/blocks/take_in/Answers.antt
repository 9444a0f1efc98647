use Rattle.std.proofs.Common.{◌≡◌, ◌+◌, ◌-◌, List, ℕ, take, length, ap, ◌∙◌, arith}
use Rattle.crc.specs.History.{after_history}
use Rattle.crc.proofs.Ends.{slides}
use Rattle.crc.proofs.blocks.take_in.Goals as goal

pub returns : goal.returns
returns c = λ next long.
    let n = length c.args.bytes.now in
    let e : n + 300 - n ≡ 300 = omega arith in
    let room = c.gather.auto.buf in
    let q = c.requires in
    ap (λ (xs : List ℕ). after_history xs next)
    (ap (take 300) c.copy_within.ensures.after ∙ slides c.gather.new.buf n (n + 300 - n) e (omega arith))
    ∙ c.gather.ensures next long
