use Rattle.std.proofs.Common.{ℕ, ◌-◌, ◌*◌, ◌/◌, min, length, ap, ◌∙◌}
use Rattle.std.specs.List.{take_while}
use Rattle.elf_format.specs.Needs.{entries, is_entry, rows}
use Rattle.elf_format.proofs.table.Table.read.Goals as goal

pub returns-clause-is : goal.returns-clause-is
unfolding entries
returns-clause-is c =
    let b = c.args.b.now in
    let h = c.args.header.now in
    let p = c.args.segment.now in
    let len = length b - p.offset in
    c.cut.ensures.is
    ∙ (ap (λ (n : ℕ). take_while is_entry (rows h.class h.order b p.offset (n / (2 * c.address_size.result))))
    c.min-there.ensures
    ∙ ap (λ (n : ℕ). take_while is_entry (rows h.class h.order b p.offset (min p.file_size len / (2 * n))))
    c.address_size.ensures)
