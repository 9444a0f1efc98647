-- `rows`: a tree's names in a row with their depths; a directory comes before what it holds, and
-- lists are in the order of their names. `deepest`: the greatest depth. `row_view`: a row of the
-- code as one of these. (This project's own.)
use Rattle.std.specs.Prelude.{ℕ, ◌+◌, max, List, [], ◌∷◌, ◌++◌}
use Rattle.manifest_tree.specs.Names.{Fill, no_bytes, text, source, Inode, Names, nothing, leaf}
use Rattle.manifest_tree.specs.Names.{link, subdirectory}
use Rattle.manifest_tree.specs.Tree.{What, a_leaf, a_link, a_directory}
use Rattle.plan_rows.specs.declared.row.Bytes as code_bytes
use Rattle.plan_rows.specs.declared.row.Bytes.TheVariants as bytes
use Rattle.plan_rows.specs.declared.row.Inode as code_inode
use Rattle.plan_rows.specs.declared.row.What as code_what
use Rattle.plan_rows.specs.declared.row.What.TheVariants as what
use Rattle.plan_rows.specs.declared.row.Row as code_row

pub record Row : Type 0 where
  pub depth : ℕ
  pub name : List ℕ
  pub what : What

abbrev pub row : ℕ → List ℕ → What → Row
row depth name what = record { depth = depth; name = name; what = what }

-- the rows of names at a depth
abbrev pub rows : ℕ → Names → List Row
rows depth nothing = []
rows depth (leaf name i after) = row depth name (a_leaf i) ∷ rows depth after
rows depth (link name i after) = row depth name (a_link i) ∷ rows depth after
rows depth (subdirectory name i own after) =
    row depth name (a_directory i) ∷ (rows (depth + 1) own ++ rows depth after)

-- the greatest depth
abbrev pub deepest : List Row → ℕ
deepest [] = 0
deepest (r ∷ rs) = max r.depth (deepest rs)

-- the values of the code, in these words
abbrev pub bytes_view : code_bytes.Bytes → Fill
bytes_view bytes.Nothing = no_bytes
bytes_view (bytes.Text t) = text t.now
bytes_view (bytes.Source k) = source k

abbrev pub inode_view : code_inode.Inode → Inode
inode_view i = record {
  line = i.line;
  kind = i.kind;
  mode = i.mode;
  uid = i.uid;
  gid = i.gid;
  major = i.major;
  minor = i.minor;
  align = i.align;
  size = i.size;
  fill = bytes_view i.bytes;
}

abbrev pub what_view : code_what.What → Inode → What
what_view what.Leaf i = a_leaf i
what_view what.Link i = a_link i
what_view what.Directory i = a_directory i

abbrev pub row_view : code_row.Row → Row
row_view r = row r.depth r.name.now (what_view r.what (inode_view r.inode))
