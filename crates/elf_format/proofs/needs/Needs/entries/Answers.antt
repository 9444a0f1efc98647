use Rattle.std.proofs.Common.{sym, ◌∙◌}
use Rattle.elf_format.proofs.Named.{as_many}
use Rattle.elf_format.proofs.needs.Needs.entries.Goals as goal

pub returns : goal.returns
returns c =
    let n = c.self.inside in
    c.count.ensures ∙ sym (as_many n.b.now n.strings n.table c.args.self.now c.self.view_is)
