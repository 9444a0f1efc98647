-- The bytes of one file of an image: what is written, and how it ends. (This project's own.)
use Rattle.std.specs.Prelude.{◌≡◌, ℕ, true, false, List, Ok, Err, None}
use Rattle.std.specs.Io.KnownBytes.{Appends}
use Rattle.rom_fields.specs.Failures.{Rose}
use Rattle.rom_fields.specs.Written.{AppendsPrefix, Output}
use Rattle.rom_tree.specs.Tree.{Node, is_directory, is_regular}
use Rattle.rom_tree.specs.Image.{Image, contents_of}
use Rattle.path_walk.specs.Resolution.{resolution, tree_namespace}
use Rattle.rom_commands.specs.Answers.{HasFault, Holds}
use Rattle.rom_commands.specs.declared.ending.NoFile.{NoFile}
use Rattle.rom_commands.specs.declared.ending.NoFile.TheVariants.{Nowhere, Directory, Special}
use Rattle.rom_commands.specs.declared.ending.Ending.{Ending}
use Rattle.rom_commands.specs.declared.ending.Ending.TheVariants as ending

-- the path leads to this node; symbolic links are followed
abbrev pub Leads : Image → List ℕ → Node → Type 0
Leads m path x = resolution (tree_namespace m.bytes m.tree) path true ≡ Ok x

-- the path leads to this regular file
abbrev pub IsFile : Image → List ℕ → Node → Type 0
IsFile m path x = Leads m path x × (is_regular x ≡ true)

-- why the path leads to no regular file
abbrev pub IsNoFile : Image → List ℕ → NoFile → Type 0
IsNoFile m path (Nowhere e) = resolution (tree_namespace m.bytes m.tree) path true ≡ Err e
IsNoFile m path Directory = (x : Node) × Leads m path x × (is_directory x ≡ true)
IsNoFile m path Special =
    (x : Node) × Leads m path x × (is_directory x ≡ false) × (is_regular x ≡ false)

-- what was written of a valid image
abbrev pub Copies : Image → List ℕ → Output → Output → Ending → Type 0
Copies m path old new ending.Done =
    (x : Node) × IsFile m path x × Appends old.contents new.contents (contents_of m.bytes x)
    × (new.failures ≡ old.failures)
Copies m path old new (ending.NoFile e) = IsNoFile m path e × (new ≡ old)
Copies m path old new ending.WriteFault =
    (x : Node) × IsFile m path x × AppendsPrefix old.contents new.contents (contents_of m.bytes x)
    × Rose old.failures new.failures
Copies m path old new _ = ⊥

-- what was written of the image that these bytes hold
abbrev pub CopiesOf : List ℕ → List ℕ → Output → Output → Ending → Type 0
CopiesOf bytes path old new o = (m : Image) × Holds bytes m × Copies m path old new o

-- What was written of the image with these bytes, in each ending. The fault of an ending is the
-- least fault of these bytes.
abbrev pub CopyEnds : List ℕ → List ℕ → Output → Output → Ending → Type 0
CopyEnds bytes path old new (ending.Fault fault None) =
    HasFault bytes fault.number fault.at × (new ≡ old)
CopyEnds bytes path old new ending.Memory = new ≡ old
CopyEnds bytes path old new o = CopiesOf bytes path old new o
