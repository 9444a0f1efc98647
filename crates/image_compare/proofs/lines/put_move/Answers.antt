use Rattle.std.proofs.Common.{ℕ, subst}
use Rattle.rom_fields.specs.Written.{Puts, sink}
use Rattle.rom_fields.proofs.Joins.{chain}
use Rattle.image_info.specs.Map.{eight_digits}
use Rattle.image_compare.proofs.Printed.{puts_as, puts_none, printed_none, printed_some, moved_same, moved_differ}
use Rattle.image_compare.proofs.lines.put_move.Goals as goal

pub returns-then-old-new-clause-puts : goal.returns-then-old-new-clause-puts
returns-then-old-new-clause-puts g c = puts_none _ _ (moved_same c.args.path.now c.args.old c.args.new
    c.if-old-new.true)

pub returns-then-old-new-clause-printed : goal.returns-then-old-new-clause-printed
returns-then-old-new-clause-printed g c = printed_none _ (moved_same c.args.path.now c.args.old c.args.new
    c.if-old-new.true)

pub returns-clause-puts : goal.returns-clause-puts
returns-clause-puts g c =
    let P : ℕ → Type 0 = λ v. Puts (sink (g.W.ByteWrite.output c.put-2.new.w) c.put-2.new.failed)
    (sink (g.W.ByteWrite.output c.put_eight_digits.new.w) c.put_eight_digits.new.failed) (eight_digits v) in
    let Q : ℕ → Type 0 = λ v. Puts (sink (g.W.ByteWrite.output c.put-3.new.w) c.put-3.new.failed)
    (sink (g.W.ByteWrite.output c.put_eight_digits-2.new.w) c.put_eight_digits-2.new.failed) (eight_digits v) in
    puts_as _ _ _ _ (moved_differ c.args.path.now c.args.old c.args.new c.if-old-new.false)
    (chain c.put.ensures (chain c.put_escaped.ensures (chain c.put-2.ensures
    (chain (subst P c.from.ensures c.put_eight_digits.ensures) (chain c.put-3.ensures
    (chain (subst Q c.from-2.ensures c.put_eight_digits-2.ensures) c.put-4.ensures))))))

pub returns-clause-printed : goal.returns-clause-printed
returns-clause-printed g c = printed_some _ _ _ (moved_differ c.args.path.now c.args.old c.args.new c.if-old-new.false)
