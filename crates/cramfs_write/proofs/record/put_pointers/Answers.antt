use Rattle.std.proofs.Common.{◌∙◌, ap, arith, refl, ◌++◌, ◌+◌, ◌*◌, ◌/◌, ◌^◌, List, ℕ}
use Rattle.cramfs_layout.specs.Layout.{word_bytes}
use Rattle.cramfs_write.proofs.Puts.{pointer_more}
use Rattle.cramfs_write.proofs.record.put_pointers.Goals as goal

pub loop-i-preserved : goal.loop-i-preserved
loop-i-preserved c = (
  omega (arith, c.put_word-at.ensures.end, c.loop-i.invariant.0),
  c.put_word-at.ensures.length ∙ c.loop-i.invariant.1,
  c.put_word-at.ensures.put ∙ ap (λ (xs : List ℕ). xs
      ++ word_bytes c.args.order (3 * 2 ^ 30 + c.args.place / 4 + 1024 * c.loop-i.i)) c.loop-i.invariant.2
      ∙ pointer_more c.args.order c.args.place c.loop-i.i (3 * 2 ^ 30 + c.args.place / 4 + 1024 * c.loop-i.i) refl,
)
