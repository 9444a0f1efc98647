-- What is written of two images in each ending. (This project's own.)
use Rattle.std.specs.Prelude.{◌≡◌, ◌⊎◌, Bool, List, ℕ, Result, Ok, Err, MatchResult}
use Rattle.std.specs.Io.KnownBytes.{Appends}
use Rattle.rom_fields.specs.Failures.{Rose}
use Rattle.rom_fields.specs.Written.{AppendsPrefix, Output}
use Rattle.rom_tree.specs.Image.{Image}
use Rattle.rom_tree.specs.Names.{Name}
use Rattle.image_compare.specs.declared.difference.DiffError.{DiffError}
use Rattle.image_compare.specs.declared.difference.DiffError.TheVariants.{OutOfMemory, LongPath}
use Rattle.image_compare.specs.declared.difference.DiffError.TheVariants.{WriteFault}
use Rattle.image_compare.specs.Diff.{names_lines, is_printed}
use Rattle.image_compare.specs.Rows.{AreSorted, HasLongPath}

-- all of a text was written, and the result says whether it is not empty; or a prefix was written
abbrev pub WritesLines : {E : Type 0} → Output → Output → List ℕ → Result Bool E → Type 0
WritesLines old new text r =
    MatchResult r
    (λ printed. Appends old.contents new.contents text × (new.failures ≡ old.failures)
    × (printed ≡ is_printed text))
    (λ _. AppendsPrefix old.contents new.contents text × Rose old.failures new.failures)

-- the same for the lines of two images, whose names were sorted
pub record WritesDiff {E : Type 0} (places : Bool) (a b : Image) (old new : Output)
    (r : Result Bool E) : Type 0 where
  pub old_names : List Name
  pub new_names : List Name
  pub old_sorted : AreSorted a.tree old_names
  pub new_sorted : AreSorted b.tree new_names
  pub lines : WritesLines old new (names_lines places a.bytes b.bytes old_names new_names) r

-- what was written in each ending
abbrev pub DiffEnds : Bool → Image → Image → Output → Output → Result Bool DiffError → Type 0
DiffEnds places a b old new (Ok printed) =
    WritesDiff {E = DiffError} places a b old new (Ok printed)
DiffEnds places a b old new (Err OutOfMemory) = new ≡ old
DiffEnds places a b old new (Err LongPath) =
    (new ≡ old) × (HasLongPath a.tree ⊎ HasLongPath b.tree)
DiffEnds places a b old new (Err WriteFault) =
    WritesDiff {E = DiffError} places a b old new (Err WriteFault)
