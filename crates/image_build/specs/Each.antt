-- `IsMeantEach`: a tree is what a manifest means, if each `file` and each `same` line has contents
-- of its own. `value_given`: the value of a file with such contents. `IsReadIn`, `AreRead`: these
-- contents are what reads of the line's source answered. (This project's own.)
use Rattle.std.specs.Prelude.{◌≡◌, ℕ, List, [], ◌++◌, length, Some, ◌↔◌}
use Rattle.std.specs.Option.{option_map}
use Rattle.image_stream.specs.Answers.{Answer, AreReads}
use Rattle.rom_tree.specs.Tree.{Node, ino_of}
use Rattle.manifest.specs.Lines.{ManifestLines}
use Rattle.manifest_tree.specs.Names.{Fill, no_bytes, text, source, Inode}
use Rattle.manifest_tree.specs.Shape.{Value, node_value, node_under}
use Rattle.manifest_tree.specs.Tree.{file_named}

-- the bytes of a file, if b are those of its source
abbrev pub bytes_given : List ℕ → Fill → List ℕ
bytes_given b no_bytes = []
bytes_given b (text t) = t
bytes_given b (source k) = b

-- the value of a file of a manifest; b of a line are the bytes of that line's source
unfoldable pub value_given : (ℕ → List ℕ) → Inode → Value
value_given b i = record {
  kind = i.kind;
  mode = i.mode;
  uid = i.uid;
  gid = i.gid;
  major = i.major;
  minor = i.minor;
  bytes = bytes_given (b i.line) i.fill;
}

-- The tree t of an image is what a manifest means, except that each `file` and each `same` line has
-- contents of its own, b of its number, of the planned size. Each path leads to the file of the
-- line with its names, and two paths lead to one node exactly if they lead to one line.
pub record IsMeantEach (image : List ℕ) (t : Node) (b : ℕ → List ℕ) (m : ManifestLines)
    (sizes : List ℕ) : Type 0 where
  pub values : (q : List (List ℕ))
      → option_map (node_value image) (node_under q t)
      ≡ option_map (value_given b) (file_named m.lines sizes q)
  pub sized : (q : List (List ℕ)) (i : Inode) (k : ℕ) → file_named m.lines sizes q ≡ Some i
      → i.fill ≡ source k
      → length (b i.line) ≡ i.size
  pub shared : (p q : List (List ℕ)) (x y : Node) (i j : Inode) → node_under p t ≡ Some x
      → node_under q t ≡ Some y
      → file_named m.lines sizes p ≡ Some i → file_named m.lines sizes q ≡ Some j
      → (ino_of x ≡ ino_of y) ↔ (i.line ≡ j.line)

-- Among the answers are those of reads of the file, one after the other from offset 0 on, and xs
-- are their bytes.
pub record IsReadIn (answers : List Answer) (file : ℕ) (xs : List ℕ) : Type 0 where
  pub before : List Answer
  pub mine : List Answer
  pub after : List Answer
  pub among : answers ≡ before ++ (mine ++ after)
  pub reads : AreReads file 0 mine xs

-- the contents of each line are what reads of its source answered
abbrev pub AreRead : List Answer → (ℕ → List ℕ) → ManifestLines → List ℕ → Type 0
AreRead answers b m sizes =
    (q : List (List ℕ)) (i : Inode) (k : ℕ) → file_named m.lines sizes q ≡ Some i
    → i.fill ≡ source k
    → IsReadIn answers k (b i.line)
