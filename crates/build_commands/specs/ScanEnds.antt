-- `IsScan`: what a scan of a directory prints. `IsScanAfter`: what an early end leaves. (This
-- project's own.)
use Rattle.std.specs.Prelude.{◌≡◌, ℕ, Bool, List, ◌∷◌, length, Option, Some, Err, Ok}
use Rattle.std.specs.List.Sorted.{IsPermutation}
use Rattle.rom_fields.specs.Written.{Output}
use Rattle.directory_walk.specs.Trees.{Name, Top, AreAllBelow, AreInOrder, entered}
use Rattle.directory_walk.specs.Views.{paths_of}
use Rattle.directory_walk.specs.declared.lister.Directory.{Directory}
use Rattle.build_commands.specs.Scanned.{scan_text}
use Rattle.build_commands.specs.ScanPrinted.{IsPrinted}
use Rattle.build_commands.specs.Scans.{IsManifestOf, IsScannable, all_shown}
use Rattle.build_commands.specs.declared.scan.Unscanned.{Unscanned}
use Rattle.build_commands.specs.declared.scan.Unscanned.TheVariants.{NotWalked, Changed}
use Rattle.build_commands.specs.declared.scan.Unscanned.TheVariants.{NotPrinted}

-- The lines of all that is below the directory of this path were printed, in their order, and
-- flushed. Each directory that was entered was as it was found after all were listed. If a tree is
-- told that a manifest can describe, the text is the tree's manifest.
pub record IsScan {S : Type 0} (told : Option (Top Bool)) (path : List ℕ)
    (AsFound : List (Directory S) → Type 0) (out out' : Output) : Type 0 where
  pub names : List (Name Bool)
  pub all : AreAllBelow told names
  pub order : AreInOrder names
  pub directories : List (Directory S)
  pub entered : IsPermutation (path ∷ entered names) (paths_of directories)
  pub as_found : AsFound directories
  pub printed : IsPrinted {T = Unit {0}} (length path) names out out' (Ok tt)
  pub means : (t : Top Bool) → told ≡ Some t → IsScannable t.path t.tree
      → IsManifestOf t (scan_text (all_shown (length path) names))

-- what was printed before an early end: nothing, or what `IsPrinted` says of some entries
abbrev pub IsScanAfter : {E C : Type 0} → List ℕ → Output → Output → Unscanned E C → Type 0
IsScanAfter path out out' (NotWalked e) = out' ≡ out
IsScanAfter path out out' (Changed e) = out' ≡ out
IsScanAfter path out out' (NotPrinted e) =
    (names : List (Name Bool)) × IsPrinted {T = Unit {0}} (length path) names out out' (Err e)
