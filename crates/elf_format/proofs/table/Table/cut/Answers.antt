use Rattle.std.proofs.Common.{ℕ, ◌<◌, not, sym, ap, ◌∙◌, arith, eq-eqb}
use Rattle.elf_format.specs.Needs.{entry_at, is_entry}
use Rattle.elf_format.proofs.Found.{kept}
use Rattle.elf_format.proofs.table.Table.cut.Goals as goal

pub returns-then-tag-eq0-clause-is : goal.returns-then-tag-eq0-clause-is
returns-then-tag-eq0-clause-is c =
    let b = c.args.b.now in
    let s = c.args.self.now in
    let f = entry_at s.class s.order b s.at in
    let i = c.loop-index.index in
    let e = c.entry-tag.ensures in
    kept f is_entry s.count i (f 0) (omega arith) c.loop-index.invariant
    (λ (r : i < s.count). sym (ap is_entry e) ∙ ap not (eq-eqb c.entry-tag.result.0 0 c.if-tag-eq0.true))

pub returns-clause-is : goal.returns-clause-is
returns-clause-is c =
    let b = c.args.b.now in
    let s = c.args.self.now in
    let f = entry_at s.class s.order b s.at in
    let u = c.loop-index-test.false in
    kept f is_entry s.count s.count (f 0) (omega arith)
    (λ (k : ℕ) (r : k < s.count). c.loop-index.invariant k (omega arith))
    (λ (r : s.count < s.count). absurd (omega arith))
