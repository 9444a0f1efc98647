use Rattle.std.proofs.Common.{◌≡◌, ◌+◌, ◌^◌, ◌%◌, ◌<◌, ℕ, drop, sym, ap, ◌∙◌, arith, add-zero}
use Rattle.std.proofs.Math.Nat.{mod-eq_of_lt}
use Rattle.std.proofs.lemmas.List.{take_rest}
use Rattle.rom_fields.specs.Words.{words_total, words_sum}
use Rattle.rom_fields.proofs.Sums.{words_total-short, words_total-step, sum_more}
use Rattle.rom_fields.proofs.word.word_sum.Goals as goal

pub returns : goal.returns
unfolding words_sum
returns c =
    let none = words_total-short c.loop-rest.rest.now (omega arith) in
    let fits : c.loop-rest.sum < 2 ^ 32 = omega arith in
    sym (mod-eq_of_lt fits) ∙ ap (λ (x : ℕ). x % 2 ^ 32)
    (sym (add-zero c.loop-rest.sum) ∙ ap (λ (x : ℕ). c.loop-rest.sum + x) (sym none)) ∙ c.loop-rest.invariant

pub loop-rest-preserved : goal.loop-rest-preserved
loop-rest-preserved c =
    let rest = c.loop-rest.rest.now in
    let step = words_total-step rest (omega arith) in
    let next : ℕ = words_total (drop 4 rest) in
    rw (take_rest rest 4) (sum_more c.loop-rest.sum c.read_u32-sum.result next (2 ^ 32)
    ∙ ap (λ (x : ℕ). (c.loop-rest.sum + x) % 2 ^ 32) (ap (λ (x : ℕ). x + next) c.read_u32-sum.ensures ∙ sym step)
    ∙ c.loop-rest.invariant)

pub loop-rest-init : goal.loop-rest-init
loop-rest-init c =
    let same : 0 + words_total c.args.b.now ≡ words_total c.args.b.now = omega arith in ap (λ (x : ℕ). x % 2 ^ 32) same
