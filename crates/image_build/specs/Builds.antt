-- `Builds`: the answer of a build to a text and contents, in each format. `IsImageOf`: the bytes
-- are the layout of a manifest, and hold the tree that it means. (This project's own.)
use Rattle.std.specs.Prelude.{◌≡◌, ◌≢◌, ℕ, List, map, length, Result, Ok, Err}
use Rattle.layout_plan.specs.declared.error.PlanError.{PlanError}
use Rattle.layout_plan.specs.declared.error.PlanError.TheVariants as plan
use Rattle.manifest.specs.Grammar.{manifest_of}
use Rattle.manifest.specs.Lines.{ManifestLines, sources_of}
use Rattle.manifest.specs.declared.error.ManifestError.{ManifestError}
use Rattle.manifest.specs.declared.error.ManifestError.TheVariants as manifest
use Rattle.formats.specs.Format.{Format}
use Rattle.manifest_layout.specs.Format.{HasUsualTree, layout_of}
use Rattle.manifest_layout.specs.Misfit.{HasNoMisfit, IsLeastMisfit}
use Rattle.manifest_tree.specs.Meant.{IsMeant}
use Rattle.rom_tree.specs.Tree.{Node}
use Rattle.image_build.specs.declared.error.BuildError.{BuildError}
use Rattle.image_build.specs.declared.error.BuildError.TheVariants.{OutOfMemory, Manifest, Plan}
use Rattle.image_build.specs.declared.error.BuildError.TheVariants.{Count}

-- the text is this manifest, and there are as many contents as sources
pub record IsGiven (text : List ℕ) (contents : List (List ℕ)) (m : ManifestLines) : Type 0 where
  pub manifest : manifest_of text ≡ Ok m
  pub count : length contents ≡ length (sources_of m.lines)

-- the bytes are the layout of a manifest, and hold the tree that the manifest means
pub record IsImageOf (f : Format) (m : ManifestLines) (contents : List (List ℕ))
    (bytes : List ℕ) : Type 0 where
  pub layout : bytes ≡ layout_of f m contents
  pub tree : Node
  pub holds : HasUsualTree f bytes tree
  pub meant : IsMeant bytes tree contents m (map length contents)

-- The answer of a build is the image of a manifest that fits the format. Otherwise it is the first
-- fault of an invalid manifest, or that there are more or fewer contents than sources, or the least
-- misfit. Memory may be refused at any call.
abbrev pub Builds : Format → List ℕ → List (List ℕ) → Result (List ℕ) BuildError → Type 0
Builds f text contents (Ok bytes) =
    (m : ManifestLines) × IsGiven text contents m × HasNoMisfit f m (map length contents)
    × IsImageOf f m contents bytes
Builds f text contents (Err OutOfMemory) = Unit {0}
Builds f text contents (Err (Manifest line number)) =
    manifest_of text ≡ Err (record { line = line; number = number })
Builds f text contents (Err Count) =
    (m : ManifestLines) × (manifest_of text ≡ Ok m)
    × (length contents ≢ length (sources_of m.lines))
Builds f text contents (Err (Plan line number)) =
    (m : ManifestLines) × IsGiven text contents m
    × IsLeastMisfit f m (map length contents) (record { number = number; at = line })

-- the refusals of a manifest and of a plan, as those of a build
abbrev pub of_manifest : ManifestError → BuildError
of_manifest manifest.OutOfMemory = OutOfMemory
of_manifest (manifest.Bad line number) = Manifest line number

abbrev pub of_plan : PlanError → BuildError
of_plan plan.OutOfMemory = OutOfMemory
of_plan (plan.Refused line number) = Plan line number
