use Rattle.std.proofs.Common.{◌≡◌, ℕ, true, sym, ap, ◌∙◌, arith}
use Rattle.elf_format.specs.Header.{program_at}
use Rattle.program_pages.specs.Counted.{dynamic_among, is_dynamic}
use Rattle.program_pages.proofs.Dynamic.{none_dynamic, some_dynamic}
use Rattle.program_pages.proofs.counting.has_dynamic.Goals as goal

pub returns-then-is_dynamic : goal.returns-then-is_dynamic
returns-then-is_dynamic c =
    let b = c.args.b.now in
    let h = c.args.header.now in
    let e : is_dynamic (program_at b h c.loop-number.number) ≡ true =
    sym (ap is_dynamic c.program-program.ensures) ∙ (sym c.is_dynamic.ensures ∙ c.if-is_dynamic.true) in
    sym (some_dynamic b h c.loop-number.number h.count c.loop-number-test.true e)

pub loop-number-preserved : goal.loop-number-preserved
loop-number-preserved c =
    none_dynamic c.args.b.now c.args.header.now c.loop-number.number
    (sym (ap is_dynamic c.program-program.ensures) ∙ (sym c.is_dynamic.ensures ∙ c.if-is_dynamic.false))
    c.loop-number.invariant

pub returns : goal.returns
returns c =
    let b = c.args.b.now in
    let h = c.args.header.now in
    let z : c.loop-number.number ≡ h.count =
    (let t = c.loop-number-test.false in let u = c.loop-number.auto.number-end in omega arith) in
    sym c.loop-number.invariant ∙ ap (λ (n : ℕ). dynamic_among b h n) z
