use Rattle.std.proofs.Common.{ℕ, ◌<◌, ◌==◌, length, sym, arith, eq-eqb, slice_index}
use Rattle.std.proofs.lemmas.List.Sums.{position_or_len_is}
use Rattle.elf_format.proofs.texts.text_len.Goals as goal

pub returns-then-x-eq0 : goal.returns-then-x-eq0
returns-then-x-eq0 c =
    let b = c.args.b.now in
    let i = c.loop-i.i in
    sym (position_or_len_is (λ (x : ℕ). x == 0) b i 0 (omega arith) c.loop-i.invariant
    (λ (s : i < length b). eq-eqb (slice_index b i) 0 c.if-x-eq0.true))

pub returns : goal.returns
returns c =
    let b = c.args.b.now in
    sym (position_or_len_is (λ (x : ℕ). x == 0) b (length b) 0 (omega arith)
    (λ (k : ℕ) (s : k < length b). c.loop-i.invariant k (omega arith))
    (λ (s : length b < length b). absurd (omega arith)))
