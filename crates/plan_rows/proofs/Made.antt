-- The file of a line, from the contents that its path leads to.
use Rattle.std.proofs.Common.{◌≡◌, ℕ, List, reverse, Option, Some, None, refl, sym, ap}
use Rattle.std.specs.List.{slice_get}
use Rattle.std.specs.Option.{option_map}
use Rattle.manifest.specs.declared.line.Line.{Line}
use Rattle.manifest.specs.declared.line.Word.{Word}
use Rattle.manifest.specs.declared.line.Word.TheVariants.{Dir, File, Slink, Block, Character, Fifo, Socket, Hard, Same}
use Rattle.manifest.specs.Lines.{led, filed}
use Rattle.manifest_tree.specs.Tree.{inode_by, inode_of, file_at, with_contents}
use Rattle.plan_rows.specs.Files.{contents_of, contents_at, IsIndexOf}
use Rattle.plan_rows.specs.Made.{regular_from, inode_from}

regular_is : (all : List Line) (sizes : List ℕ) (l : Line) (o : Option Line)
    → regular_from l (option_map (contents_of all sizes) o) ≡ with_contents all sizes l o
regular_is all sizes l None = refl
regular_is all sizes l (Some o) = refl

pub inode_is : (all : List Line) (sizes : List ℕ) (l : Line)
    → inode_from l.word l (contents_at all sizes l.path) ≡ inode_of all sizes l
unfolding inode_of
inode_is all sizes l = by l.word
  where
    by : (w : Word) → inode_from w l (contents_at all sizes l.path) ≡ inode_by all sizes w l
    by Dir = refl
    by File = regular_is all sizes l (filed (reverse all) l.path)
    by Same = regular_is all sizes l (filed (reverse all) l.path)
    by Slink = refl
    by Block = refl
    by Character = refl
    by Fifo = refl
    by Socket = refl
    by Hard = refl

-- the file at a path, by the index of the line that it leads to
no_index : (all : List Line) (l : Option Line) → IsIndexOf all None l → l ≡ None
no_index all None h = refl
no_index all (Some l) h = absurd (cc)

index_of : (all : List Line) (i : ℕ) (l : Option Line) → IsIndexOf all (Some i) l → slice_get all i ≡ l
index_of all i None h = absurd (cc)
index_of all i (Some l) h = cc

pub no_file_at : (all : List Line) (sizes path : List ℕ) → IsIndexOf all None (led (reverse all) path)
    → None ≡ file_at all sizes path
unfolding file_at
no_file_at all sizes path h = sym (ap (option_map (inode_of all sizes)) (no_index all (led (reverse all) path) h))

pub file_is : (all : List Line) (sizes path : List ℕ) (i : ℕ) → IsIndexOf all (Some i) (led (reverse all) path)
    → option_map (inode_of all sizes) (slice_get all i) ≡ file_at all sizes path
unfolding file_at
file_is all sizes path i h = ap (option_map (inode_of all sizes)) (index_of all i (led (reverse all) path) h)
