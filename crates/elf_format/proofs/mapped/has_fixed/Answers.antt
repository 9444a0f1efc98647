use Rattle.std.proofs.Common.{◌≡◌, ℕ, true, false, sym, ap, ◌∙◌, arith, refl}
use Rattle.elf_format.specs.Header.{program_at}
use Rattle.elf_format.specs.Mapped.{is_executed, is_fixed}
use Rattle.elf_format.specs.declared.program.Program.{Program}
use Rattle.elf_format.proofs.Fixed.{fixed_found, none_fixed, not_executed, some_fixed}
use Rattle.elf_format.proofs.mapped.has_fixed.Goals as goal

pub returns-then-not-is_executed : goal.returns-then-not-is_executed
returns-then-not-is_executed c =
    not_executed c.args.b.now c.in-Ok.header c.in-Ok.ensures.is
    (sym c.is_executed.ensures ∙ c.if-not-is_executed.true)

pub returns-then-is_fixed : goal.returns-then-is_fixed
returns-then-is_fixed c =
    let b = c.args.b.now in
    let h = c.in-Ok.header in
    let e : is_fixed (program_at b h c.loop-index.index) ≡ true =
    sym (ap is_fixed c.program-program.ensures) ∙ (sym c.is_fixed.ensures ∙ c.if-is_fixed.true) in
    fixed_found b h h.count true c.in-Ok.ensures.is (sym c.is_executed.ensures ∙ c.if-not-is_executed.false) refl
    (some_fixed b h c.loop-index.index h.count c.loop-index-test.true e)

pub loop-index-preserved : goal.loop-index-preserved
loop-index-preserved c =
    none_fixed c.args.b.now c.in-Ok.header c.loop-index.index
    (sym (ap is_fixed c.program-program.ensures) ∙ (sym c.is_fixed.ensures ∙ c.if-is_fixed.false))
    c.loop-index.invariant

pub returns : goal.returns
returns c =
    let b = c.args.b.now in
    let h = c.in-Ok.header in
    let z : c.loop-index.index ≡ h.count =
    (let t = c.loop-index-test.false in let u = c.loop-index.auto.index-end in omega arith) in
    fixed_found b h c.loop-index.index false c.in-Ok.ensures.is
    (sym c.is_executed.ensures ∙ c.if-not-is_executed.false) z c.loop-index.invariant
