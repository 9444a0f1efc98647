use Rattle.std.proofs.Common.{ℕ, ◌<◌, sym, ap, ◌∙◌, arith, Some}
use Rattle.elf_format.specs.Header.{program_at}
use Rattle.elf_format.specs.Needs.{is_segment, segment}
use Rattle.elf_format.proofs.Found.{found, not_found}
use Rattle.elf_format.proofs.header.Header.segment.Goals as goal

pub returns-then-is_segment-clause-is : goal.returns-then-is_segment-clause-is
unfolding segment
returns-then-is_segment-clause-is c =
    let b = c.args.b.now in
    let h = c.args.self.now in
    let i = c.loop-index.index in
    let e = c.program-program.ensures in
    ap Some e
    ∙ sym (found (program_at b h) (is_segment c.args.kind b) h.count i c.loop-index-test.true c.loop-index.invariant
    (sym (ap (is_segment c.args.kind b) e) ∙ (sym c.is_segment.ensures ∙ c.if-is_segment.true)))

pub returns-clause-is : goal.returns-clause-is
unfolding segment
returns-clause-is c =
    let b = c.args.b.now in
    let h = c.args.self.now in
    let t = c.loop-index-test.false in
    sym (not_found (program_at b h) (is_segment c.args.kind b) h.count (program_at b h 0)
    (λ (k : ℕ) (s : k < h.count). c.loop-index.invariant k (omega arith)))
