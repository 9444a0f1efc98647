use Rattle.std.proofs.Common.{ap, ◌∙◌, arith}
use Rattle.elf_format.specs.Needs.{library}
use Rattle.elf_format.proofs.Named.{as_many, named_at}
use Rattle.elf_format.proofs.needs.Needs.needed.Goals as goal

pub entry-tag-requires-clause-before : goal.entry-tag-requires-clause-before
entry-tag-requires-clause-before c =
    let n = c.self.inside in
    let e = as_many n.b.now n.strings n.table c.args.self.now c.self.view_is in
    let s = c.requires in
    omega arith

pub returns : goal.returns
returns c =
    let n = c.self.inside in
    c.library.ensures
    ∙ (ap (library n.b.now n.strings) c.entry-tag.ensures
    ∙ named_at n.b.now n.strings n.table c.args.self.now c.args.index c.self.view_is c.requires)
