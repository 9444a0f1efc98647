-- For the proofs: the steps of a stream. `IsFront`, `IsPiece`, `IsNext`: pieces of segments.
-- `IsDone`: what was sent so far. `Gone`, `Sent`: bytes went to the writer and into a checksum.
-- `IsFault`: a fault on the way. (This project's own.)
use Rattle.std.specs.Prelude.{◌≡◌, ◌≢◌, ℕ, ◌-◌, ◌<◌, List, [], ◌++◌, length, take, drop, get_or}
use Rattle.std.specs.Prelude.{Option}
use Rattle.std.specs.Io.KnownBytes.{Appends}
use Rattle.rom_fields.specs.Failures.{Rose}
use Rattle.image_stream.specs.declared.error.StreamError.{StreamError}
use Rattle.image_stream.specs.declared.error.StreamError.TheVariants.{SizeDiffers, SourceFault}
use Rattle.image_stream.specs.declared.error.StreamError.TheVariants.{WriteFault, Changed}
use Rattle.image_stream.specs.Sources.{content_of, IfKnown, Reads, FailedAt}
use Rattle.image_stream.specs.Segments.{Segment, fixed, content, place, bytes_of, zeros, IsBody}
use Rattle.image_stream.specs.Segments.{IsImage, image_from}
use Rattle.image_stream.specs.Answers.{Answer, Logs, AreReads, IsBodyRead, IsImageRead}
use Rattle.image_stream.specs.Outcomes.{FrontSized, IsLeastWrong}

-- bytes that the first k bytes of a segment may be
abbrev pub IsFront : Option (List (List ℕ)) → Segment → ℕ → List ℕ → Type 0
IsFront known (fixed p bs) k xs = xs ≡ take k bs
IsFront known (content p n f) k xs =
    (length xs ≡ k) × IfKnown known (λ cs. xs ≡ take k (content_of cs f))

-- bytes that those from k on may be
abbrev pub IsPiece : Option (List (List ℕ)) → Segment → ℕ → List ℕ → Type 0
IsPiece known (fixed p bs) k xs = xs ≡ take (length xs) (drop k bs)
IsPiece known (content p n f) k xs =
    IfKnown known (λ cs. xs ≡ take (length xs) (drop k (content_of cs f)))

-- the zeros from `at` up to a segment, and its bytes
abbrev pub next_bytes : List (List ℕ) → ℕ → Segment → List ℕ
next_bytes cs at p = zeros (place p - at) ++ bytes_of cs p

pub record IsNext (known : Option (List (List ℕ))) (at : ℕ) (p : Segment)
    (xs : List ℕ) : Type 0 where
  pub body : List ℕ
  pub stands : IsBody known p body
  pub all : xs ≡ zeros (place p - at) ++ body

-- xs and then what is from `at` on in the segments ps, which are the rest, are the image
pub record IsDone (known : Option (List (List ℕ))) (start : ℕ) (segments : List Segment)
    (end at : ℕ)
    (ps : List Segment) (xs : List ℕ) : Type 0 where
  pub more : (rest : List ℕ) → IsImage known at ps end rest
      → IsImage known start segments end (xs ++ rest)
  pub facts : IfKnown known (λ cs. xs ++ image_from cs at ps end ≡ image_from cs start segments end)

-- the answers that the first k bytes of a segment were read from
abbrev pub IsFrontRead : Segment → ℕ → List Answer → List ℕ → Type 0
IsFrontRead (fixed p bs) k answers xs = (answers ≡ []) × (xs ≡ take k bs)
IsFrontRead (content p n f) k answers xs = (length xs ≡ k) × AreReads f 0 answers xs

-- the same for bytes from k on
abbrev pub IsPieceRead : Segment → ℕ → List Answer → List ℕ → Type 0
IsPieceRead (fixed p bs) k answers xs = (answers ≡ []) × (xs ≡ take (length xs) (drop k bs))
IsPieceRead (content p n f) k answers xs = AreReads f k answers xs

-- the same for the zeros from `at` up to a segment, and its bytes
abbrev pub IsNextRead : ℕ → Segment → List Answer → List ℕ → Type 0
IsNextRead at p answers xs =
    (body : List ℕ) × IsBodyRead answers p body × (xs ≡ zeros (place p - at) ++ body)

-- the same for what comes before the part from `at` on in the segments ps
abbrev pub IsDoneRead : ℕ → List Segment → ℕ → ℕ → List Segment → List Answer → List ℕ → Type 0
IsDoneRead start segments end at ps answers xs =
    (later : List Answer) (rest : List ℕ) → IsImageRead later at ps end rest
    → IsImageRead (answers ++ later) start segments end (xs ++ rest)

-- answers were logged that have the property P together with the bytes
pub record Read (P : List Answer → List ℕ → Type 0) (was is : List Answer → Type 0)
    (xs : List ℕ) : Type 0 where
  pub answers : List Answer
  pub are : P answers xs
  pub logged : Logs was is answers

-- bytes with this property went to the writer and into a checksum
pub record Gone (P : List ℕ → Type 0) (old new : Option (List ℕ))
    (Was Is : List ℕ → Type 0) : Type 0 where
  pub bytes : List ℕ
  pub are : P bytes
  pub written : Appends old new bytes
  pub added : (xs : List ℕ) → Was xs → Is (xs ++ bytes)

-- Bytes with the property P went to the writer and into a checksum. If all were needed (All), they
-- have the property R with the answers that were logged.
abbrev pub Sent : Type 0 → (List ℕ → Type 0) → (List Answer → List ℕ → Type 0)
    → (List Answer → Type 0) → (List Answer → Type 0) → Option (List ℕ) → Option (List ℕ)
    → (List ℕ → Type 0) → (List ℕ → Type 0) → Type 0
Sent All P R was is old new Was Is =
    Gone (λ xs. P xs × Read (λ answers zs. All → R answers zs) was is xs) old new Was Is

-- a file ended before `end`, or a read of it failed
abbrev pub IsReadFault : Option (List (List ℕ)) → ℕ → ℕ → Reads → Reads → StreamError → Type 0
IsReadFault known file end r r' (SizeDiffers f) =
    (f ≡ file) × IfKnown known (λ cs. length (content_of cs file) < end)
IsReadFault known file end r r' (SourceFault f) = (f ≡ file) × FailedAt file r r'
IsReadFault known file end r r' WriteFault = ⊥
IsReadFault known file end r r' Changed = ⊥

-- a file has another size, or a read of it failed
abbrev pub IsSizeFault : Option (List (List ℕ)) → ℕ → ℕ → Reads → Reads → StreamError → Type 0
IsSizeFault known file size r r' (SizeDiffers f) =
    (f ≡ file) × IfKnown known (λ cs. length (content_of cs file) ≢ size)
IsSizeFault known file size r r' (SourceFault f) = (f ≡ file) × FailedAt file r r'
IsSizeFault known file size r r' WriteFault = ⊥
IsSizeFault known file size r r' Changed = ⊥

-- the first file of another size, or a file with a failed read; the files before it have their
-- sizes
abbrev pub IsLeastStreamFault : Option (List (List ℕ)) → List ℕ → Reads → Reads → StreamError
    → Type 0
IsLeastStreamFault known sizes r r' (SizeDiffers f) =
    (f < length sizes) × IfKnown known (IsLeastWrong sizes f)
IsLeastStreamFault known sizes r r' (SourceFault f) =
    (f < length sizes) × FailedAt f r r' × IfKnown known (FrontSized sizes f)
IsLeastStreamFault known sizes r r' WriteFault = ⊥
IsLeastStreamFault known sizes r r' Changed = ⊥

-- a fault while segments are sent
abbrev pub IsFault : Option (List (List ℕ)) → List ℕ → Reads → Reads → ℕ → ℕ → StreamError → Type 0
IsFault known sizes r r' w w' (SizeDiffers f) =
    (f < length sizes) × IfKnown known (λ cs. length (content_of cs f) < get_or sizes f 0)
IsFault known sizes r r' w w' (SourceFault f) = (f < length sizes) × FailedAt f r r'
IsFault known sizes r r' w w' WriteFault = Rose w w'
IsFault known sizes r r' w w' Changed = ⊥
