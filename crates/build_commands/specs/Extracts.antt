-- `IsDescribedBy`: the manifest of an image is printed. `IsExtractAfter`: what an early end of an
-- extraction leaves. (This project's own.)
use Rattle.std.specs.Prelude.{◌≡◌, ◌<◌, ℕ, length, List, Option, Some, None}
use Rattle.std.specs.Io.KnownBytes.{Appends}
use Rattle.rom_fields.specs.Failures.{Rose, one_more}
use Rattle.rom_fields.specs.Written.{AppendsPrefix, Output}
use Rattle.rom_tree.specs.Image.{Image}
use Rattle.manifest.specs.Printed.{manifest_text}
use Rattle.image_manifest.specs.Lines.{member_lines}
use Rattle.tree_extract.specs.Extracted.{IsExtracted}
use Rattle.tree_extract.specs.Log.{Event}
use Rattle.tree_extract.specs.Members.{Member}
use Rattle.build_commands.specs.declared.extract.Description.{Description}
use Rattle.build_commands.specs.declared.extract.Unextracted.{Unextracted}
use Rattle.build_commands.specs.declared.extract.Unextracted.TheVariants.{Stopped, NotFinished}
use Rattle.build_commands.specs.declared.extract.Unextracted.TheVariants.{NotPrinted}

abbrev pub text_by : Image → Description → List ℕ
text_by m d = manifest_text d.volume.now (member_lines m d.rules)

-- without a description nothing is printed; with one, the whole manifest is written and flushed
abbrev pub IsDescribedBy : Image → Option Description → Output → Output → Type 0
IsDescribedBy m None out out' = out' ≡ out
IsDescribedBy m (Some d) out out' =
    Appends out.contents out'.contents (text_by m d) × (out'.failures ≡ out.failures)
    × (out'.flushes ≡ one_more out.flushes)

-- a prefix of the manifest is written, since a write or the flush failed
abbrev pub IsCutShort : Image → Option Description → Output → Output → Type 0
IsCutShort m None out out' = ⊥
IsCutShort m (Some d) out out' =
    AppendsPrefix out.contents out'.contents (text_by m d) × Rose out.failures out'.failures

-- Nothing is printed before all members are made.
abbrev pub IsExtractAfter : {E F : Type 0} → Option (List ℕ) → List Member → List Event → Image
    → Option Description → Output → Output → Unextracted E F → Type 0
IsExtractAfter fresh ms log m d out out' (Stopped e) = (e.index < length ms) × (out' ≡ out)
IsExtractAfter fresh ms log m d out out' (NotFinished e) =
    IsExtracted fresh ms log × (out' ≡ out)
IsExtractAfter fresh ms log m d out out' NotPrinted =
    IsExtracted fresh ms log × IsCutShort m d out out'
