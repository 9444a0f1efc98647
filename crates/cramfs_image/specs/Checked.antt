-- `Shows`: an image value shows the tree of the bytes. `IsRefused`: the meaning of a refusal: there
-- is no tree. `IsLeastAnswer`: the fault of a refusal is the image's least. (This project's own.)
use Rattle.std.specs.Prelude.{◌≡◌, ℕ, List, length}
use Rattle.rom_tree.specs.Tree.{depth}
use Rattle.rom_tree.specs.Image.{Image}
use Rattle.rom_tree.specs.declared.types.Limits.{Limits}
use Rattle.rom_tree.specs.declared.types.Report.{Report}
use Rattle.rom_fields.specs.declared.check_error.CheckError.{CheckError}
use Rattle.rom_tree.specs.Checks.{Refuses}
use Rattle.record_forest.specs.Answers.{AnswersLeast}
use Rattle.record_forest.specs.Forest.{all_rows}
use Rattle.cramfs_format.specs.declared.order.Order.{Order}
use Rattle.cramfs_format.specs.Refers.{references}
use Rattle.cramfs_format.specs.Tree.{CramfsTree}
use Rattle.cramfs_format.specs.Superblock.{HasImageFault}
use Rattle.cramfs_format.specs.Faults.{IsLeastImageFault}

-- The image m shows the tree of these bytes. The report has the number of the records of its
-- forest, and the depth of the tree.
pub record Shows (o : Order) (all : List ℕ) (limits : Limits) (m : Image)
    (report : Report) : Type 0 where
  pub bytes : m.bytes ≡ all
  pub tree : CramfsTree o all limits.references limits.depth m.tree
  pub count : report.references ≡ length (all_rows (references o tree.b) tree.forest)
  pub deep : report.depth ≡ depth m.tree

-- a fault is answered only if the bytes hold no tree, in either byte order
abbrev pub IsRefused : List ℕ → Limits → CheckError → Type 0
IsRefused all limits =
    Refuses (λ t. (o : Order) × CramfsTree o all limits.references limits.depth t)

-- the fault is the least of the image's faults, by phases; refused memory is answered only if the
-- image as a whole has no fault
abbrev pub IsLeastAnswer : Order → List ℕ → Limits → CheckError → Type 0
IsLeastAnswer o all limits =
    AnswersLeast (HasImageFault o all) (IsLeastImageFault o all limits.references limits.depth)
