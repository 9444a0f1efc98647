-- The volume of a manifest that fits a format can be laid out in it.
use Rattle.std.proofs.Common.{ℕ, List, length, map}
use Rattle.manifest.specs.Grammar.{IsManifest}
use Rattle.manifest.specs.Lines.{ManifestLines}
use Rattle.formats.specs.Format.{Format, romfs, cramfs}
use Rattle.manifest_layout.specs.Format.{IsPlannedBy}
use Rattle.manifest_layout.specs.Misfit.{HasNoMisfit}
use Rattle.manifest_layout.proofs.PlannedRomfs as in_romfs
use Rattle.manifest_layout.proofs.PlannedCramfs as in_cramfs

pub fitting : (f : Format) (m : ManifestLines) (cs : List (List ℕ)) → IsManifest m → HasNoMisfit f m (map length cs)
    → IsPlannedBy f m cs
fitting romfs m cs h n = in_romfs.planned m cs h n
fitting (cramfs o) m cs h n = in_cramfs.planned o m cs h n
