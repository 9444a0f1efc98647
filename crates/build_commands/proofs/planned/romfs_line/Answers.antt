use Rattle.std.proofs.Common.{ap, ◌∙◌, List, ℕ, reverse}
use Rattle.manifest.specs.Lines.{led}
use Rattle.manifest_tree.specs.Names.{Inode}
use Rattle.plan_rows.specs.Rows.{inode_view}
use Rattle.build_commands.specs.Planned.{romfs_by, romfs_path}
use Rattle.build_commands.proofs.planned.romfs_line.Goals as goal

pub returns-in-Some : goal.returns-in-Some
returns-in-Some c = λ sizes h.
    let ls = c.args.manifest.now.lines in
    let p = c.args.line.now.path in
    let l = c.in-Some.own.now in
    let i = inode_view c.inode_of-inode.result in
    c.romfs_path.ensures
    ∙ (ap (λ (v : List ℕ). romfs_path v c.as_bytes.result.now i) c.as_bytes-path.ensures
    ∙ (ap (λ (v : List ℕ). romfs_path p v i) c.as_bytes.ensures
    ∙ (ap (λ (v : Inode). romfs_path p l.path v) (c.inode_of-inode.ensures ls sizes h)
    ∙ ap (romfs_by ls sizes p) (c.in-Some.ensures sizes h ∙ ap (led (reverse ls)) c.as_bytes-path.ensures))))
