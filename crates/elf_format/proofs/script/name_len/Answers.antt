use Rattle.std.proofs.Common.{ℕ, ◌<◌, length, sym, ◌∙◌, arith}
use Rattle.std.proofs.lemmas.List.Sums.{position_or_len_is}
use Rattle.elf_format.specs.Needs.{ends_name}
use Rattle.elf_format.proofs.script.name_len.Goals as goal

pub returns-then-ends_name-clause-is : goal.returns-then-ends_name-clause-is
returns-then-ends_name-clause-is c =
    let b = c.args.b.now in
    let i = c.loop-i.i in
    sym (position_or_len_is ends_name b i 0 (omega arith) c.loop-i.invariant
    (λ (s : i < length b). sym c.ends_name.ensures ∙ c.if-ends_name.true))

pub returns-clause-is : goal.returns-clause-is
returns-clause-is c =
    let b = c.args.b.now in
    sym (position_or_len_is ends_name b (length b) 0 (omega arith)
    (λ (k : ℕ) (s : k < length b). c.loop-i.invariant k (omega arith))
    (λ (s : length b < length b). absurd (omega arith)))
