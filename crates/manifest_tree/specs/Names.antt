-- The names of a tree, apart from the files that they name. `Inode`: a file, whatever names it has.
-- `Names`: the names of a directory in order, each of a file, of a file that has a name already, or
-- of a directory. (This project's own.)
use Rattle.std.specs.Prelude.{ℕ, List, [], get_or}
use Rattle.rom_tree.specs.declared.types.Kind.{Kind}

-- the bytes of a file or a link: none, those of a link's text, or those of a source by its index
pub data Fill : Type 0 where
  no_bytes : Fill
  text : List ℕ → Fill
  source : ℕ → Fill

-- A file, whatever names it has. `line` is the number of the line that makes it.
pub record Inode : Type 0 where
  pub line : ℕ
  pub kind : Kind
  pub mode : ℕ
  pub uid : ℕ
  pub gid : ℕ
  pub major : ℕ
  pub minor : ℕ
  -- the alignment: the offset of its bytes is to be a multiple of it
  pub align : ℕ
  pub size : ℕ
  pub fill : Fill

-- The names of a directory in order, each with the names that follow it in the list: `leaf` names a
-- file that is not a directory, `link` is a further name of such a file, and `subdirectory` names a
-- directory with its own names.
pub data Names : Type 0 where
  nothing : Names
  leaf : List ℕ → Inode → Names → Names
  link : List ℕ → Inode → Names → Names
  subdirectory : List ℕ → Inode → Names → Names → Names

-- the bytes of a file, if the sources have these contents
abbrev pub bytes_of : List (List ℕ) → Fill → List ℕ
bytes_of contents no_bytes = []
bytes_of contents (text t) = t
bytes_of contents (source k) = get_or contents k []
