-- `IsBuiltFile`: a name leads to a new file that holds an image without a fault. (This project's
-- own.)
use Rattle.std.specs.Prelude.{◌≡◌, ◌≤◌, ℕ, List, [], Option, Some, ⊤}
use Rattle.atomic_file.specs.Log.{Event}
use Rattle.atomic_file.specs.Crashes.{Place, Made, Whole, made, content}
use Rattle.image_build.specs.Streamed.{image_with}
use Rattle.image_check.specs.Checked.{IsFaultless}
use Rattle.image_build.specs.Images.{IsImageWritten}
use Rattle.manifest_layout.specs.Plans.{Planned}
use Rattle.rom_commands.specs.Answers.{usual_limits}

-- The image of the plan, in a file that reports its bytes. The sources report their contents or
-- nothing, and keep no log of their answers.
abbrev pub IsImageOf : Option (List (List ℕ)) → Planned → Option (List ℕ) → Type 0
IsImageOf known p = IsImageWritten known (λ _. ⊤) (λ _. ⊤) p (Some [])

-- The name leads to a file that was made since. On the disk it holds a whole image of the plan, in
-- which a check under the usual limits finds no fault.
pub record IsBuiltFile (p : Planned) (old log : List Event) (place : Place) : Type 0 where
  pub number : ℕ
  pub since : made old ≤ number
  pub leads : place ≡ Made number
  pub rest : List ℕ
  pub holds : content log number ≡ Whole (Some (image_with p rest))
  pub faultless : IsFaultless (image_with p rest) usual_limits
