use Rattle.std.proofs.Common.{◌≡◌, ap, ◌∙◌, List, ℕ, Option, reverse}
use Rattle.std.specs.BTreeMap.{get}
use Rattle.std.specs.Ordering.{nat_cmp}
use Rattle.linux_misreads.specs.declared.seen.Known.{Known}
use Rattle.manifest.specs.Lines.{led}
use Rattle.manifest_tree.specs.Names.{Inode}
use Rattle.manifest_tree.specs.Tree.{inode_of}
use Rattle.plan_rows.specs.Rows.{inode_view}
use Rattle.build_commands.specs.Planned.{cramfs_by, cramfs_path, kept_by, kept_in, source_in}
use Rattle.build_commands.proofs.Noted.{kept_alike}
use Rattle.build_commands.proofs.planned.cramfs_line.Goals as goal

pub returns-in-Some : goal.returns-in-Some
returns-in-Some c = λ sizes h f.
    let ls = c.args.manifest.now.lines in
    let p = c.args.line.now.path in
    let l = c.in-Some.own.now in
    let i = inode_view c.inode_of-inode.result in
    let made : i ≡ inode_of ls sizes l = c.inode_of-inode.ensures ls sizes h in
    let k : c.kept_of.result ≡ kept_by (kept_in ls sizes) (source_in (inode_of ls sizes l)) =
    c.kept_of.ensures ∙ (kept_alike (get nat_cmp c.args.first.now) (kept_in ls sizes) (source_in i) f
    ∙ ap (λ (v : Inode). kept_by (kept_in ls sizes) (source_in v)) made) in
    c.cramfs_path.ensures
    ∙ (ap (λ (v : List ℕ). cramfs_path v i c.kept_of.result) c.as_bytes-path.ensures
    ∙ (ap (λ (v : Inode). cramfs_path p v c.kept_of.result) made
    ∙ (ap (λ (v : Option Known). cramfs_path p (inode_of ls sizes l) v) k
    ∙ ap (cramfs_by ls sizes p) (c.in-Some.ensures sizes h ∙ ap (led (reverse ls)) c.as_bytes-path.ensures))))
