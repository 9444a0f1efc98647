-- How an image's bytes are served, and how a built image is served. (This project's own.)
use Rattle.std.specs.Prelude.{◌≡◌, ℕ, List, map, length, Ok}
use Rattle.rom_fields.specs.Written.{Output}
use Rattle.rom_tree.specs.Tree.{Node}
use Rattle.rom_tree.specs.Image.{Image}
use Rattle.rom_tree.specs.declared.types.Limits.{Limits}
use Rattle.image_build.specs.Each.{AreRead, IsMeantEach}
use Rattle.image_check.specs.Checked.{HasTree}
use Rattle.image_stream.specs.Answers.{Answer}
use Rattle.manifest.specs.Grammar.{manifest_of}
use Rattle.manifest.specs.Lines.{ManifestLines}
use Rattle.manifest_tree.specs.Meant.{IsMeant}
use Rattle.open_files.specs.Machine.{no_files}
use Rattle.rom_serve.specs.Machines.{image_machine}
use Rattle.rom_commands.specs.Answers.{HoldsUnder, usual_limits}
use Rattle.rom_commands.specs.Serving.{Input, EndsServed}
use Rattle.rom_commands.specs.declared.serving.Serving.{Serving}
use Rattle.rom_commands.specs.declared.serving.Serving.TheVariants.{Memory}

-- The format gives these bytes the tree t under these limits, and lines were answered from it.
-- Nothing was open at first. The reader was r₀ and is r; the writer was w₀ and is w.
pub record IsServedUnder (limits : Limits) (bytes : List ℕ) (t : Node) (r₀ r : Input)
    (w₀ w : Output)
    (o : Serving) : Type 0 where
  pub tree : HasTree bytes limits t
  pub image : Image
  pub held : HoldsUnder limits bytes image
  pub same : image.tree ≡ t
  pub answers : EndsServed (image_machine image) (no_files 64) r₀ r w₀ w o

-- the same under the usual limits
abbrev pub IsServedAs : (bytes : List ℕ) (t : Node) (r₀ r : Input) (w₀ w : Output) → Serving
    → Type 0
IsServedAs bytes t r₀ r w₀ w o = IsServedUnder usual_limits bytes t r₀ r w₀ w o

-- the text is a manifest that means this tree, if its sources have these contents
pub record IsMeantUnder (limits : Limits) (text : List ℕ) (contents : List (List ℕ))
    (bytes : List ℕ)
    (r₀ r : Input) (w₀ w : Output) (o : Serving) : Type 0 where
  pub lines : ManifestLines
  pub manifest : manifest_of text ≡ Ok lines
  pub tree : Node
  pub meant : IsMeant bytes tree contents lines (map length contents)
  pub served : IsServedUnder limits bytes tree r₀ r w₀ w o

-- the same under the usual limits
abbrev pub IsServedAsMeant : (text : List ℕ) (contents : List (List ℕ)) (bytes : List ℕ)
    (r₀ r : Input) (w₀ w : Output)
    → Serving → Type 0
IsServedAsMeant text contents bytes r₀ r w₀ w o =
    IsMeantUnder usual_limits text contents bytes r₀ r w₀ w o

-- The tree is what the manifest means. Each of its regular files has its own contents, of these
-- sizes: the bytes that the reads of its source returned.
pub record IsServedAsGiven (answers : List Answer) (lines : ManifestLines) (sizes : List ℕ)
    (bytes : List ℕ) (r₀ r : Input) (w₀ w : Output)
    (o : Serving) : Type 0 where
  pub tree : Node
  pub given : ℕ → List ℕ
  pub meant : IsMeantEach bytes tree given lines sizes
  pub read : AreRead answers given lines sizes
  pub served : IsServedAs bytes tree r₀ r w₀ w o

-- memory was refused, and nothing was read or written
pub record IsUnserved (r₀ r : Input) (w₀ w : Output) (o : Serving) : Type 0 where
  pub memory : o ≡ Memory
  pub unread : r ≡ r₀
  pub unwritten : w ≡ w₀
