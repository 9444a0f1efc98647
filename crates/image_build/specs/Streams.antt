-- `StreamsPlan`: what a stream of a plan promises, in each format. `StreamsPlanOnce`: the same of
-- one that reads each source whole only once. (This project's own.)
use Rattle.std.specs.Prelude.{◌≡◌, ℕ, List, map, length, Result, Ok, OnOk, OnErr}
use Rattle.std.specs.Io.KnownBytes.{Appends}
use Rattle.rom_fields.specs.Written.{Output, AppendsPrefix}
use Rattle.image_stream.specs.Answers.{Answer}
use Rattle.image_stream.specs.Outcomes.{AreSized, SourcesState, Streams, StreamsOnce}
use Rattle.image_stream.specs.Sources.{IfKnown}
use Rattle.image_stream.specs.declared.error.StreamError.{StreamError}
use Rattle.manifest_layout.specs.Plans.{Planned}
use Rattle.image_build.specs.Builds.{Builds}
use Rattle.image_build.specs.Streamed.{IsPlanOfText, form_in, stored_in}

-- The superblock and the segments of a plan in its format are streamed (`streams`). If the contents
-- of the sources are known, this is promised, too: at `Ok` they have the planned sizes (`sized`),
-- and what was written is what a build of the manifest answers (`whole`). After an error, a prefix
-- of this was written, if they have the planned sizes (`front`).
pub record StreamsPlan {A : Type 0} (p : Planned) (s s' : SourcesState)
    (was is : List Answer → Type 0) (w w' : Output)
    (result : Result A StreamError) : Type 0 where
  pub streams : Streams (form_in p.format p) (stored_in p.format) s s' was is w w' result
  pub sized : OnOk result (IfKnown s.known (AreSized p.sizes))
  pub whole : (text : List ℕ) → IsPlanOfText text p
      → OnOk result (IfKnown s.known (λ cs. (bytes : List ℕ)
      × Builds p.format text cs (Ok bytes) × Appends w.contents w'.contents bytes))
  pub front : (text : List ℕ) → IsPlanOfText text p
      → OnErr result (IfKnown s.known (λ cs. map length cs ≡ p.sizes
      → (bytes : List ℕ) × Builds p.format text cs (Ok bytes)
      × AppendsPrefix w.contents w'.contents bytes))

-- the same of a stream that may replace the superblock; nothing is promised of what was written at
-- an error
pub record StreamsPlanOnce {A : Type 0} (p : Planned) (s s' : SourcesState)
    (was is : List Answer → Type 0) (w w' : Output)
    (result : Result A StreamError) : Type 0 where
  pub streams : StreamsOnce (form_in p.format p) (stored_in p.format) s s' was is w w' result
  pub whole : (text : List ℕ) → IsPlanOfText text p
      → OnOk result (IfKnown s.known (λ cs. (bytes : List ℕ)
      × Builds p.format text cs (Ok bytes) × Appends w.contents w'.contents bytes))
