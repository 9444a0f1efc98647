-- `StreamsPlan`: what a stream of the plan of a cramfs image promises. `StreamsPlanOnce`: the same
-- of one that replaces the superblock. (This project's own.)
use Rattle.std.specs.Prelude.{◌≡◌, ℕ, List, map, length, Result, OnOk, OnErr}
use Rattle.std.specs.Io.KnownBytes.{Appends}
use Rattle.cramfs_format.specs.declared.order.Order.{Order}
use Rattle.crc.specs.Crc.{crc_of}
use Rattle.rom_fields.specs.Written.{Output, AppendsPrefix}
use Rattle.image_stream.specs.Answers.{Answer}
use Rattle.image_stream.specs.Outcomes.{SourcesState, Streams, StreamsOnce}
use Rattle.image_stream.specs.Sources.{IfKnown}
use Rattle.image_stream.specs.declared.error.StreamError.{StreamError}
use Rattle.manifest.specs.Grammar.{IsManifest}
use Rattle.manifest.specs.Lines.{ManifestLines}
use Rattle.formats.specs.Format.{cramfs}
use Rattle.manifest_layout.specs.Format.{layout_of}
use Rattle.manifest_layout.specs.Plans.{Planned, IsPlanOf}
use Rattle.cramfs_write.specs.Form.{form_of}

-- The superblock and the segments of a plan in its byte order are streamed (`streams`). If the
-- contents of the sources are known, and the plan is that of a manifest and sizes, this is
-- promised, too: at `Ok` the contents have these sizes, and the layout was written (`whole`). After
-- an error, a prefix of the layout was written, if the contents have these sizes (`front`).
pub record StreamsPlan {A : Type 0} (p : Planned) (s s' : SourcesState)
    (was is : List Answer → Type 0) (w w' : Output)
    (result : Result A StreamError) : Type 0 where
  pub streams : (o : Order) → p.format ≡ cramfs o
      → Streams (form_of o p) crc_of s s' was is w w' result
  pub whole : (o : Order) (m : ManifestLines) (sizes : List ℕ) → IsManifest m
      → IsPlanOf (cramfs o) m sizes p
      → OnOk result (IfKnown s.known (λ cs. (map length cs ≡ sizes)
      × Appends w.contents w'.contents (layout_of (cramfs o) m cs)))
  pub front : (o : Order) (m : ManifestLines) (sizes : List ℕ) → IsManifest m
      → IsPlanOf (cramfs o) m sizes p
      → OnErr result (IfKnown s.known (λ cs. map length cs ≡ sizes
      → AppendsPrefix w.contents w'.contents (layout_of (cramfs o) m cs)))

-- the same of a stream that replaces the superblock; nothing is promised of what was written at an
-- error
pub record StreamsPlanOnce {A : Type 0} (p : Planned) (s s' : SourcesState)
    (was is : List Answer → Type 0) (w w' : Output)
    (result : Result A StreamError) : Type 0 where
  pub streams : (o : Order) → p.format ≡ cramfs o
      → StreamsOnce (form_of o p) crc_of s s' was is w w' result
  pub whole : (o : Order) (m : ManifestLines) (sizes : List ℕ) → IsManifest m
      → IsPlanOf (cramfs o) m sizes p
      → OnOk result (IfKnown s.known (λ cs. (map length cs ≡ sizes)
      × Appends w.contents w'.contents (layout_of (cramfs o) m cs)))
