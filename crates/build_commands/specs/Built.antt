-- `IsBuilt`: what `ok` of a build means. `IsUnbuilt`, `IsOutputAfter`, `IsFateAfter`: what an early
-- end leaves.
-- `IsMade`: a file that holds the image of a plan. (This project's own.)
use Rattle.std.specs.Prelude.{◌≡◌, ◌≢◌, ℕ, ◌≤◌, List, Option, None, option_map, Result, Ok, Err}
use Rattle.std.specs.Prelude.{true}
use Rattle.std.specs.Option.{ForSome}
use Rattle.std.specs.Io.KnownBytes.{Appends}
use Rattle.rom_fields.specs.Failures.{Rose}
use Rattle.rom_fields.specs.Written.{Output, AppendsPrefix}
use Rattle.atomic_file.specs.Log.{Event}
use Rattle.atomic_file.specs.Moments.{IsKept, IsReplaced}
use Rattle.atomic_file.specs.declared.names.Names.{Names}
use Rattle.manifest.specs.Grammar.{manifest_of}
use Rattle.manifest.specs.Lines.{ManifestLines, sources_of}
use Rattle.manifest_layout.specs.Plans.{Planned, IsPlanOf}
use Rattle.file_sources.specs.Told.{Told, IsLogOf, contents_of_all}
use Rattle.image_build.specs.Images.{IsCheckedImage}
use Rattle.formats.specs.Format.{format_of}
use Rattle.build_commands.specs.Limits.{most_of, padding_of}
use Rattle.build_commands.specs.Printed.{built_line}
use Rattle.build_commands.specs.Sources.{opened_as}
use Rattle.build_commands.specs.declared.limits.Foreseen.{Foreseen}
use Rattle.build_commands.specs.declared.limits.Wanted.{Wanted}
use Rattle.build_commands.specs.declared.fate.Fate.{Fate}
use Rattle.build_commands.specs.declared.fate.Fate.TheVariants.{Kept, Lost, GivenUp}
use Rattle.build_commands.specs.declared.command.Unbuilt.{Unbuilt}
use Rattle.build_commands.specs.declared.command.Unbuilt.TheVariants.{NotMade, NotKept, NotReported}

-- a length is within a limit, if there is one
abbrev pub IsWithin : Option ℕ → ℕ → Type 0
IsWithin most len = ForSome most (λ n. len ≤ n)

-- A file holds the whole image of a plan and the bytes after it that are asked for. Its contents
-- are what reads told of the files of these names, and the last check passed while the file had
-- all of these bytes. What the files hold may be known, and `was` and `is` are the logs of what
-- reads told, before and after.
abbrev pub IsMade : (Option (List ℕ) → Type 0) → Wanted → Option (List ℕ → List ℕ)
    → (List Told → Type 0) → (List Told → Type 0) → List (List ℕ) → Planned → Option (List ℕ)
    → Option (List ℕ) → Type 0
IsMade passed wanted held was is names p fresh new =
    IsCheckedImage passed (padding_of wanted p.image_len) (contents_of_all held names)
    (IsLogOf names was) (IsLogOf names is) p fresh new

-- exactly the line was written
abbrev pub IsReported : ℕ → Output → Output → Type 0
IsReported len out out' =
    Appends out.contents out'.contents (built_line len) × (out'.failures ≡ out.failures)

-- What is asked for is built of a text: the text is a manifest, and this is its plan in the format
-- that is asked for. The image is not longer than it may be. If it is to be strict, nothing is
-- foreseen that Linux would misread, and if its programs are to be in place, they were looked at.
-- The file is the image, with the contents of the files by whose names the manifest's sources are
-- opened. Exactly the line `ok LENGTH` was written.
pub record IsBuilt (wanted : Wanted) (text : List ℕ) (foreseen : Foreseen)
    (IsFile : List (List ℕ) → Type 0) (p : Planned) (out out' : Output) : Type 0 where
  pub lines : ManifestLines
  pub manifest : manifest_of text ≡ Ok lines
  pub planned : IsPlanOf p.format lines p.sizes p
  pub format : p.format ≡ format_of wanted.format
  pub within : IsWithin (most_of wanted) p.image_len
  pub strict : wanted.strict ≡ true → foreseen.misread ≡ None
  pub in_place : wanted.xip ≡ true → foreseen.programs ≢ None
  pub file : IsFile (opened_as (option_map (λ d. d.now) wanted.sources) (sources_of lines.lines))
  pub reported : IsReported p.image_len out out'

-- what was written before an early end: nothing, or a prefix of the line if a write of it failed
abbrev pub IsOutputAfter : {E C : Type 0} → ℕ → Output → Output → Unbuilt E C → Type 0
IsOutputAfter len out out' (NotMade e) = out' ≡ out
IsOutputAfter len out out' (NotKept e) = out' ≡ out
IsOutputAfter len out out' NotReported =
    AppendsPrefix out.contents out'.contents (built_line len) × Rose out.failures out'.failures

-- what became of the companion of a build that ended early: it is given up if the image did not
-- get its place
abbrev pub IsFateAfter : {E C : Type 0} → Fate → Unbuilt E C → Type 0
IsFateAfter fate (NotMade e) = fate ≡ GivenUp
IsFateAfter fate (NotKept e) = fate ≡ Lost
IsFateAfter fate NotReported = fate ≡ Kept

-- whether the image got its place, by the result of that
abbrev pub IsOf : {A E C : Type 0} → Result A E → Unbuilt E C → Type 0
IsOf made (NotMade e) = made ≡ Err e
IsOf {A} made (NotKept e) = (a : A) × (made ≡ Ok a)
IsOf {A} made NotReported = (a : A) × (made ≡ Ok a)

-- what an early end leaves of the file: it is as `IsKept` says, or the image
abbrev pub IsUnbuilt : {E C : Type 0} → Names → (Option (List ℕ) → Type 0) → List Event
    → List Event → Unbuilt E C → Type 0
IsUnbuilt names Image old log (NotMade e) = IsKept names Image old log
IsUnbuilt names Image old log (NotKept e) = IsReplaced names Image old log
IsUnbuilt names Image old log NotReported = IsReplaced names Image old log
