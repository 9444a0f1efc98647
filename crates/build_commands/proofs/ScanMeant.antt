-- What is printed of a walk's entries is the manifest of the tree.
use Rattle.std.proofs.Common.{◌≡◌, ℕ, Bool, List, [], length, subst}
use Rattle.std.specs.Prelude.{Ok}
use Rattle.std.specs.List.Sorted.{IsPermutation}
use Rattle.build_commands.specs.Scanned.{lines_as, scan_text}
use Rattle.manifest.specs.Grammar.{manifest_of}
use Rattle.directory_walk.specs.Trees.{Tree, Name, Top, AreInOrder, all_below}
use Rattle.build_commands.specs.Scans.{IsManifestOf, IsScannable, all_shown}

-- the text with these lengths in front of the paths has one line for each entry
abbrev Has : ℕ → ℕ → List (Name Bool) → Type 0
Has front own ns =
    manifest_of (scan_text (all_shown front ns))
    ≡ Ok (record { lines = lines_as 1 (all_shown own ns); volume = []; volume_line = 0 })

pub meant : ((path : List ℕ) (t : Tree Bool) (ns : List (Name Bool)) → IsScannable path t
    → IsPermutation (all_below path t) ns → AreInOrder ns → Has (length path) (length path) ns)
    → (ns : List (Name Bool)) (front : ℕ) (t : Top Bool) → IsScannable t.path t.tree → length t.path ≡ front
    → IsPermutation (all_below t.path t.tree) ns → AreInOrder ns → IsManifestOf t (scan_text (all_shown front ns))
meant law ns front t ok e moved sorted =
    (ns, moved, sorted, subst (λ (f : ℕ). Has f (length t.path) ns) e (law t.path t.tree ns ok moved sorted))
