use Rattle.std.proofs.Common.{◌+◌, ◌*◌, ◌%◌, ◌^◌, ℕ, ap, ◌∙◌}
use Rattle.image_stream.proofs.Weights.{sum_more, sum_full}
use Rattle.image_stream.proofs.word_sum.with_byte.Goals as goal

pub returns-then-s-lt512 : goal.returns-then-s-lt512
returns-then-s-lt512 c = λ xs h. sum_more c.args.s.place c.args.s.sum _ xs c.args.x h c.if-s-lt512.true
    (ap (λ (v : ℕ). (c.args.s.sum + v % 2 ^ 32) % 2 ^ 32)
    (ap (λ (v : ℕ). v * c.weight_at.result) c.from.ensures ∙ ap (λ (v : ℕ). c.args.x * v) c.weight_at.ensures))

pub returns-else-s-lt512 : goal.returns-else-s-lt512
returns-else-s-lt512 c = λ xs h. sum_full c.args.s.place c.args.s.sum xs c.args.x h c.if-s-lt512.false
