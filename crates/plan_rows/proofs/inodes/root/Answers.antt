use Rattle.std.proofs.Common.{ap, sym, ◌∙◌}
use Rattle.std.specs.Option.{option_map}
use Rattle.manifest_tree.specs.Tree.{bare_root, or_else}
use Rattle.manifest_tree.specs.Tree as tree
use Rattle.plan_rows.specs.Rows.{inode_view}
use Rattle.plan_rows.proofs.inodes.root.Goals as goal

pub returns-in-None : goal.returns-in-None
unfolding tree.root_of
returns-in-None c = λ sizes w.
    ap (or_else bare_root) (sym (ap (option_map inode_view) c.in-None.is) ∙ c.inode_at.ensures sizes w)
