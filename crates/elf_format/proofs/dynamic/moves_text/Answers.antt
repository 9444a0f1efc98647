use Rattle.std.proofs.Common.{◌≡◌, true, false, sym, ap, ◌∙◌, arith, refl}
use Rattle.elf_format.specs.Dynamic.{moves_text}
use Rattle.elf_format.specs.Header.{program_at}
use Rattle.elf_format.specs.declared.program.Program.{Program}
use Rattle.elf_format.proofs.Entries.{some_moves, none_more, moves_found}
use Rattle.elf_format.proofs.dynamic.moves_text.Goals as goal

pub returns-then-moves_text : goal.returns-then-moves_text
returns-then-moves_text c =
    let b = c.args.b.now in
    let h = c.in-Ok.header in
    let e : moves_text h.class h.order b (program_at b h c.loop-index.index) ≡ true =
    sym (ap (λ (p : Program). moves_text h.class h.order b p) c.program-program.ensures)
    ∙ (sym c.moves_text.ensures ∙ c.if-moves_text.true) in
    moves_found b h h.count true c.in-Ok.ensures.is refl
    (some_moves b h c.loop-index.index h.count c.loop-index-test.true e)

pub loop-index-preserved : goal.loop-index-preserved
loop-index-preserved c =
    let b = c.args.b.now in
    let h = c.in-Ok.header in
    none_more b h c.loop-index.index
    (sym (ap (λ (p : Program). moves_text h.class h.order b p) c.program-program.ensures)
    ∙ (sym c.moves_text.ensures ∙ c.if-moves_text.false)) c.loop-index.invariant

pub returns : goal.returns
returns c =
    let b = c.args.b.now in
    let h = c.in-Ok.header in
    let z : c.loop-index.index ≡ h.count =
    (let t = c.loop-index-test.false in let u = c.loop-index.auto.index-end in omega arith) in
    moves_found b h c.loop-index.index false c.in-Ok.ensures.is z c.loop-index.invariant
