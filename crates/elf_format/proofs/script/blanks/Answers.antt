use Rattle.std.proofs.Common.{ℕ, ◌<◌, length, sym, ◌∙◌, arith}
use Rattle.std.proofs.lemmas.List.Sums.{prefix_len_is}
use Rattle.elf_format.specs.Needs.{is_blank}
use Rattle.elf_format.proofs.script.blanks.Goals as goal

pub returns-then-not-is_blank-clause-is : goal.returns-then-not-is_blank-clause-is
returns-then-not-is_blank-clause-is c =
    let b = c.args.b.now in
    let i = c.loop-i.i in
    sym (prefix_len_is is_blank b i 0 (omega arith) c.loop-i.invariant
    (λ (s : i < length b). sym c.is_blank.ensures ∙ c.if-not-is_blank.true))

pub returns-clause-is : goal.returns-clause-is
returns-clause-is c =
    let b = c.args.b.now in
    sym (prefix_len_is is_blank b (length b) 0 (omega arith)
    (λ (k : ℕ) (s : k < length b). c.loop-i.invariant k (omega arith))
    (λ (s : length b < length b). absurd (omega arith)))
