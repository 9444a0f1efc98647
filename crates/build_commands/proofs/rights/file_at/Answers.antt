use Rattle.std.proofs.Common.{Some, ap, sym, ◌∙◌}
use Rattle.build_commands.specs.declared.inventory.NamedFile.{NamedFile}
use Rattle.build_commands.proofs.Ordered.{file_found}
use Rattle.build_commands.proofs.rights.file_at.Goals as goal

pub returns-in-Some : goal.returns-in-Some
returns-in-Some c = λ o.
    ap (λ (v : NamedFile). Some v) c.index-found-index.is
    ∙ sym (file_found c.args.found.now c.in-Some.index c.index-found-index.result c.args.path.now o
    c.in-Some.ensures.at.0
    (c.in-Some.ensures.at.1 c.index-found-index.result))
