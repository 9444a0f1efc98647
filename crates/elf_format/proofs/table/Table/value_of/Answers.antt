use Rattle.std.proofs.Common.{ℕ, ◌<◌, ◌==◌, sym, ap, ◌∙◌, arith, Some, option_map, eq-eqb}
use Rattle.elf_format.specs.Needs.{entry_at, value_of}
use Rattle.elf_format.proofs.Found.{found, not_found}
use Rattle.elf_format.proofs.table.Table.value_of.Goals as goal

pub returns-then-found-tag : goal.returns-then-found-tag
unfolding value_of
returns-then-found-tag c =
    let b = c.args.b.now in
    let s = c.args.self.now in
    let f = entry_at s.class s.order b s.at in
    let t = λ (x : ℕ × ℕ). x.0 == c.args.tag in
    let i = c.loop-index.index in
    let e = c.entry-found.ensures in
    ap (λ (x : ℕ × ℕ). Some x.1) e
    ∙ sym (ap (option_map (λ (x : ℕ × ℕ). x.1)) (found f t s.count i c.loop-index-test.true c.loop-index.invariant
    (sym (ap t e) ∙ eq-eqb c.entry-found.result.0 c.args.tag c.if-found-tag.true)))

pub returns : goal.returns
unfolding value_of
returns c =
    let b = c.args.b.now in
    let s = c.args.self.now in
    let f = entry_at s.class s.order b s.at in
    let t = λ (x : ℕ × ℕ). x.0 == c.args.tag in
    let u = c.loop-index-test.false in
    sym (ap (option_map (λ (x : ℕ × ℕ). x.1)) (not_found f t s.count (f 0)
    (λ (k : ℕ) (r : k < s.count). c.loop-index.invariant k (omega arith))))
