-- `IsRefusal`: the meaning of a plan's refusal: the least misfit of the manifest, or memory was
-- refused. (This project's own.)
use Rattle.std.specs.Prelude.{ℕ, List}
use Rattle.manifest.specs.Lines.{ManifestLines}
use Rattle.formats.specs.Format.{Format}
use Rattle.manifest_layout.specs.Misfit.{IsLeastMisfit}
use Rattle.layout_plan.specs.declared.error.PlanError.{PlanError}
use Rattle.layout_plan.specs.declared.error.PlanError.TheVariants as error

-- the least misfit, at the number of its line; memory may be refused at any call
abbrev pub IsRefusal : Format → ManifestLines → List ℕ → PlanError → Type 0
IsRefusal f m sizes error.OutOfMemory = Unit {0}
IsRefusal f m sizes (error.Refused line number) =
    IsLeastMisfit f m sizes (record { number = number; at = line })
