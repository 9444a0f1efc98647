-- `IsImageWritten`: the image of a plan was appended, with what the sources answered.
-- `IsCheckedImage`: the same, the bytes after it follow, and then the last check passed.
-- `IsImageFault`: why it was not. (This project's own.)
use Rattle.std.specs.Prelude.{ℕ, List, Option, Ok}
use Rattle.std.specs.Io.KnownBytes.{Appends}
use Rattle.rom_fields.specs.Written.{Output}
use Rattle.image_stream.specs.Answers.{Answer}
use Rattle.image_stream.specs.Sources.{IfKnown, Reads}
use Rattle.image_stream.specs.Outcomes.{IsStreamed, IsStreamFault}
use Rattle.manifest_layout.specs.Plans.{Planned}
use Rattle.image_build.specs.Builds.{Builds}
use Rattle.image_build.specs.Streamed.{IsPlanOfText, form_in, stored_in}
use Rattle.image_build.specs.declared.image.Unwritten.{Unwritten}
use Rattle.image_build.specs.declared.image.Unwritten.TheVariants.{Stream, Padded, Late}
use Rattle.image_build.specs.declared.padding.Padding.{Padding}
use Rattle.image_build.specs.Paddings.{IsPaddedBy}
use Rattle.rom_fields.specs.Failures.{Rose}

-- A whole image of the plan was appended, whose contents are what the last reads answered, of all
-- answers in the log. If the contents of the sources are known, it is the one that a build of the
-- manifest answers.
pub record IsImageWritten (known : Option (List (List ℕ))) (was is : List Answer → Type 0)
    (p : Planned) (old new : Option (List ℕ)) : Type 0 where
  pub streamed : IsStreamed known was is (form_in p.format p) (stored_in p.format) old new
  pub built : (text : List ℕ) → IsPlanOfText text p → IfKnown known (λ cs. (bytes : List ℕ)
      × Builds p.format text cs (Ok bytes) × Appends old new bytes)

-- The image was appended, then the bytes after it, and the last check passed while the file had
-- all of these.
pub record IsCheckedImage (passed : Option (List ℕ) → Type 0) (padding : Padding)
    (known : Option (List (List ℕ))) (was is : List Answer → Type 0) (p : Planned)
    (old new : Option (List ℕ)) : Type 0 where
  pub checked : passed new
  pub image : Option (List ℕ)
  pub written : IsImageWritten known was is p old image
  pub padded : IsPaddedBy padding image new

-- the stream failed for this reason; the bytes after the image could not be written; or the last
-- check failed, and `fails` says what that means
abbrev pub IsImageFault : {E : Type 0} → (E → Type 0) → Option (List (List ℕ)) → Planned → Reads
    → Reads → Output → Output → Unwritten E → Type 0
IsImageFault fails known p r r' w w' (Stream e) =
    IsStreamFault known (form_in p.format p) (stored_in p.format) r r' w w' e
IsImageFault fails known p r r' w w' Padded =
    (middle : Output) × Rose middle.failures w'.failures
IsImageFault fails known p r r' w w' (Late e) = fails e
