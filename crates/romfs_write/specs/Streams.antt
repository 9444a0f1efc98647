-- `StreamsPlan`: what a stream of the plan of a romfs image promises. (This project's own.)
use Rattle.std.specs.Prelude.{◌≡◌, ℕ, List, map, length, Result, OnOk, OnErr}
use Rattle.std.specs.Io.KnownBytes.{Appends}
use Rattle.rom_fields.specs.Written.{Output, AppendsPrefix}
use Rattle.image_stream.specs.Answers.{Answer}
use Rattle.image_stream.specs.Outcomes.{SourcesState, Streams}
use Rattle.image_stream.specs.Sources.{IfKnown}
use Rattle.image_stream.specs.WordSums.{balance_of}
use Rattle.image_stream.specs.declared.error.StreamError.{StreamError}
use Rattle.manifest.specs.Grammar.{IsManifest}
use Rattle.manifest.specs.Lines.{ManifestLines}
use Rattle.formats.specs.Format.{romfs}
use Rattle.manifest_layout.specs.Format.{layout_of}
use Rattle.manifest_layout.specs.Plans.{Planned, IsPlanOf}
use Rattle.romfs_write.specs.Form.{form_of}

-- The superblock and the segments of a plan are streamed (`streams`). If the contents of the
-- sources are known, and the plan is that of a manifest and sizes, this is promised, too: at `Ok`
-- the contents have these sizes, and the layout was written (`whole`). After an error, a prefix of
-- the layout was written, if the contents have these sizes (`front`).
pub record StreamsPlan {A : Type 0} (p : Planned) (s s' : SourcesState)
    (was is : List Answer → Type 0) (w w' : Output)
    (result : Result A StreamError) : Type 0 where
  pub streams : Streams (form_of p) balance_of s s' was is w w' result
  pub whole : (m : ManifestLines) (sizes : List ℕ) → IsManifest m → IsPlanOf romfs m sizes p
      → OnOk result (IfKnown s.known (λ cs. (map length cs ≡ sizes)
      × Appends w.contents w'.contents (layout_of romfs m cs)))
  pub front : (m : ManifestLines) (sizes : List ℕ) → IsManifest m → IsPlanOf romfs m sizes p
      → OnErr result (IfKnown s.known (λ cs. map length cs ≡ sizes
      → AppendsPrefix w.contents w'.contents (layout_of romfs m cs)))
