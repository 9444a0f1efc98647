-- `Streams`: what a stream of an image promises. `StreamsOnce`: the same of one whose writer can
-- replace the superblock. `IsWritten`, `IsStreamed`: a whole image was
-- written. `IsStreamFault`: the meaning of each error of a stream. `IsLeastWrong`: the first file
-- of another size than planned. (This project's own.)
use Rattle.std.specs.Prelude.{◌≡◌, ◌≢◌, ℕ, ◌<◌, List, ◌++◌, length, get_or, Option, Result, OnOk}
use Rattle.std.specs.Prelude.{OnErr, IfErr}
use Rattle.std.specs.Io.KnownBytes.{Appends}
use Rattle.rom_fields.specs.Failures.{Rose}
use Rattle.rom_fields.specs.Written.{Output, AppendsPrefix}
use Rattle.image_stream.specs.declared.error.StreamError.{StreamError}
use Rattle.image_stream.specs.declared.error.StreamError.TheVariants.{SizeDiffers, SourceFault}
use Rattle.image_stream.specs.declared.error.StreamError.TheVariants.{WriteFault, Changed}
use Rattle.image_stream.specs.Sources.{content_of, IfKnown, Reads, FailedAt}
use Rattle.image_stream.specs.Segments.{Form, IsImage, checked, image_of}
use Rattle.image_stream.specs.Answers.{Answer, LogsLast, IsImageRead}

-- the contents of the first n files have the planned sizes
abbrev pub FrontSized : List ℕ → ℕ → List (List ℕ) → Type 0
FrontSized sizes n cs = (k : ℕ) → k < n → length (content_of cs k) ≡ get_or sizes k 0

-- the contents of all files have the planned sizes
abbrev pub AreSized : List ℕ → List (List ℕ) → Type 0
AreSized sizes cs = FrontSized sizes (length sizes) cs

-- the file is the first with another size
pub record IsLeastWrong (sizes : List ℕ) (file : ℕ) (cs : List (List ℕ)) : Type 0 where
  pub within : file < length sizes
  pub differs : length (content_of cs file) ≢ get_or sizes file 0
  pub least : FrontSized sizes file cs

-- A whole image was appended, whatever the sources are: with their contents if these are known, and
-- otherwise with some contents of the planned sizes, and with the checksum of exactly these
-- bytes. `answers` are the answers of the reads that its contents were taken from.
pub record IsWritten (known : Option (List (List ℕ))) (f : Form) (stored : List ℕ → ℕ)
    (old new : Option (List ℕ)) : Type 0 where
  pub rest : List ℕ
  pub stands : IsImage known f.start f.segments f.end rest
  pub answers : List Answer
  pub read : IsImageRead answers f.start f.segments f.end rest
  pub written : Appends old new (checked f.head stored rest)

-- the same, and its contents are what reads answered last, of all answers in the log
abbrev pub IsStreamed : Option (List (List ℕ)) → (List Answer → Type 0) → (List Answer → Type 0)
    → Form → (List ℕ → ℕ)
    → Option (List ℕ) → Option (List ℕ) → Type 0
IsStreamed known was is f stored old new =
    (w : IsWritten known f stored old new) × LogsLast was is w.answers

-- a whole image was appended, but its checksum is not that of its bytes
pub record IsMisstored (known : Option (List (List ℕ))) (f : Form) (stored : List ℕ → ℕ)
    (old new : Option (List ℕ)) : Type 0 where
  pub rest : List ℕ
  pub stands : IsImage known f.start f.segments f.end rest
  pub value : ℕ
  pub differs : value ≢ stored (f.head 0 ++ rest)
  pub written : Appends old new (f.head value ++ rest)

-- The meaning of an early end, by the contents of the sources (if these are known), by the counts
-- of failed reads and of the writer's failures, and by what was written. `SizeDiffers`: the file is
-- the first with another size, and nothing was written. `SourceFault`: a read of the file failed,
-- and the files before it have their sizes. `WriteFault`: the writer failed. `Changed`: what was
-- read changed, so the checksum is wrong; this does not happen if the contents are known.
abbrev pub IsStreamFault : Option (List (List ℕ)) → Form → (List ℕ → ℕ) → Reads → Reads → Output
    → Output → StreamError
    → Type 0
IsStreamFault known f stored r r' w w' (SizeDiffers file) =
    (file < length f.sizes) × IfKnown known
    (λ cs. IsLeastWrong f.sizes file cs × (w'.contents ≡ w.contents))
IsStreamFault known f stored r r' w w' (SourceFault file) =
    (file < length f.sizes) × FailedAt file r r' × IfKnown known (FrontSized f.sizes file)
IsStreamFault known f stored r r' w w' WriteFault = Rose w.failures w'.failures
IsStreamFault known f stored r r' w w' Changed =
    IsMisstored known f stored w.contents w'.contents × IfKnown known (λ cs. ⊥)

-- the contents of sources (if these are known), their number, their names (if they have names), and
-- the counts of failed reads
pub record SourcesState : Type 0 where
  pub known : Option (List (List ℕ))
  pub files : ℕ
  pub names : List (List ℕ)
  pub reads : Reads

abbrev pub state : Option (List (List ℕ)) → ℕ → List (List ℕ) → Reads → SourcesState
state known files names reads =
    record { known = known; files = files; names = names; reads = reads }

-- What a stream of an image promises, by the sources and the log before it and after it, by the
-- writer's bytes and failures before it and after it, and by its result. The sources stay the same.
-- At `Ok`, a whole image was written (`some`), the contents have the planned sizes (`sized`), the
-- image is that of these contents (`whole`), and no read or write failed (`quiet`). After an error,
-- a prefix of it was written (`front`), and `fault` has the error's meaning. What is said of the
-- contents holds if they are known.
pub record Streams {A : Type 0} (f : Form) (stored : List ℕ → ℕ) (s s' : SourcesState)
    (was is : List Answer → Type 0) (w w' : Output)
    (result : Result A StreamError) : Type 0 where
  pub known : s'.known ≡ s.known
  pub files : s'.files ≡ s.files
  pub names : s'.names ≡ s.names
  pub some : OnOk result (IsStreamed s.known was is f stored w.contents w'.contents)
  pub sized : OnOk result (IfKnown s.known (AreSized f.sizes))
  pub whole : OnOk result (IfKnown s.known
      (λ cs. Appends w.contents w'.contents (image_of f stored cs)))
  pub quiet : OnOk result ((s'.reads ≡ s.reads) × (w'.failures ≡ w.failures))
  pub front : OnErr result (IfKnown s.known
      (λ cs. AppendsPrefix w.contents w'.contents (image_of f stored cs)))
  pub fault : IfErr result (IsStreamFault s.known f stored s.reads s'.reads w w')

-- What a stream of an image promises if its superblock is replaced at the end. At `Ok`, and of the
-- errors, it is what `Streams` promises, but the contents are read whole only once, so they never
-- change between two reads (`once`). After an error, nothing is promised of what was written.
pub record StreamsOnce {A : Type 0} (f : Form) (stored : List ℕ → ℕ) (s s' : SourcesState)
    (was is : List Answer → Type 0) (w w' : Output)
    (result : Result A StreamError) : Type 0 where
  pub known : s'.known ≡ s.known
  pub files : s'.files ≡ s.files
  pub names : s'.names ≡ s.names
  pub some : OnOk result (IsStreamed s.known was is f stored w.contents w'.contents)
  pub sized : OnOk result (IfKnown s.known (AreSized f.sizes))
  pub whole : OnOk result (IfKnown s.known
      (λ cs. Appends w.contents w'.contents (image_of f stored cs)))
  pub quiet : OnOk result ((s'.reads ≡ s.reads) × (w'.failures ≡ w.failures))
  pub fault : IfErr result (IsStreamFault s.known f stored s.reads s'.reads w w')
