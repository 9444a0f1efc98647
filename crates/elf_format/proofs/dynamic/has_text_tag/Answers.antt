use Rattle.std.proofs.Common.{◌+◌, ◌-◌, ◌*◌, ℕ, length, sym, ap, ◌∙◌, arith}
use Rattle.elf_format.specs.Dynamic.{has_text_tag}
use Rattle.elf_format.specs.Header.{number, width}
use Rattle.elf_format.proofs.Entries.{entries_on, goes_on}
use Rattle.elf_format.proofs.dynamic.has_text_tag.Goals as goal

pub loop-left-preserved : goal.loop-left-preserved
loop-left-preserved c =
    let k = c.args.class in
    let o = c.args.order in
    let b = c.args.b.now in
    let at = c.loop-left.at in
    let left = c.loop-left.left in
    let e = c.address_size-size.ensures in
    let i = c.loop-left.invariant in
    let s = c.loop-left-test.true in
    record {
      within = (
          let w = entries_on k left at (length b) (omega arith) i.within in
          rw e w
          );
      same =
          ap (λ (n : ℕ). has_text_tag k o b (left - 1) (at + 2 * n)) e
          ∙ (goes_on k o b at left c.address-tag.result c.address.result (omega arith) c.address-tag.ensures
          (c.address.ensures ∙ ap (λ (n : ℕ). number o (width k) b (at + n)) e) c.if-tag-eq0.false
          (sym c.is_text_tag.ensures ∙ c.if-is_text_tag.false) ∙ i.same);
    }
