use Rattle.std.proofs.Common.{ap, ◌∙◌}
use Rattle.plan_rows.specs.Files.{contents_at}
use Rattle.plan_rows.specs.Made.{inode_from}
use Rattle.plan_rows.proofs.Made.{inode_is}
use Rattle.plan_rows.proofs.inodes.inode_of.Goals as goal

pub returns : goal.returns
returns c = λ lines sizes h.
    let l = c.args.line.now in
    c.inode_from.ensures ∙ ap (inode_from l.word l)
    (c.contents.ensures lines sizes h ∙ ap (contents_at lines sizes) c.as_bytes.ensures)
    ∙ inode_is lines sizes l
