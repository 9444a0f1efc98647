-- `AreFindings`: what is kept of an image while its programs are looked for are its numbers, and
-- what is found of bytes of its files. (This project's own.)
use Rattle.std.specs.Prelude.{◌≡◌, ◌<◌, IfSome, List, ℕ, Option, length}
use Rattle.std.specs.BTreeMap.{get}
use Rattle.image_check.specs.declared.any.AnyImage.{AnyImage}
use Rattle.image_check.specs.Any.{any_view}
use Rattle.image_check.specs.Parts.{AreParts, tree_of_parts}
use Rattle.image_info.specs.declared.data.Data.{Data}
use Rattle.image_info.specs.Data.{data_cmp, data_places}
use Rattle.program_report.specs.declared.question.Question.{Question}
use Rattle.program_report.specs.declared.finding.Found.{Found}
use Rattle.program_report.specs.declared.findings.Findings.{Findings}
use Rattle.program_report.specs.Found.{found_on}

-- this is what is found of a file with bytes at these offsets, of which the first is in the image
pub record IsFinding (a : AnyImage) (q : Question) (ps : List ℕ) (v : Option Found) : Type 0 where
  pub is : v ≡ found_on a q ps
  pub within : IfSome v (λ f. f.start < length (any_view a).bytes)

pub record AreFindings (a : AnyImage) (q : Question) (k : Findings) : Type 0 where
  pub parts : AreParts (any_view a).bytes k.parts
  pub tree : (any_view a).tree ≡ tree_of_parts (any_view a).bytes k.parts
  pub known : (d : Data) → IfSome (get data_cmp k.known d)
      (IsFinding a q (data_places (any_view a).bytes k.parts d))
