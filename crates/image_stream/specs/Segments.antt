-- An image before the contents of its files are known. `Segment`, `Form`: a superblock, segments at
-- their offsets behind it, and zeros everywhere else. `image_from`, `image_of`: its bytes.
-- `IsImage`: bytes that may be this image. `IsLaidOut`: it can be written. (This project's own.)
use Rattle.std.specs.Prelude.{◌≡◌, ℕ, ◌+◌, ◌-◌, ◌<◌, ◌≤◌, ◌^◌, List, [], ◌∷◌, ◌++◌, length, take}
use Rattle.std.specs.Prelude.{get_or, replicate, Option, Some, None}
use Rattle.rom_fields.specs.Parts.{Part, part}
use Rattle.image_stream.specs.declared.outline.Outline.{Outline}
use Rattle.image_stream.specs.Sources.{content_of, IfKnown}

-- an offset and the bytes there; or an offset, a length, and the file whose first bytes are there
pub data Segment : Type 0 where
  fixed : ℕ → List ℕ → Segment
  content : ℕ → ℕ → ℕ → Segment

abbrev pub place : Segment → ℕ
place (fixed at bytes) = at
place (content at size file) = at

abbrev pub len : Segment → ℕ
len (fixed at bytes) = length bytes
len (content at size file) = size

-- the segment at an index
abbrev pub segment_at : List Segment → ℕ → Segment
segment_at ps i = get_or ps i (fixed 0 [])

-- the offset of a segment, its length, and the file whose contents it has
abbrev pub outline : Segment → Outline
outline (fixed at bytes) = record { place = at; len = length bytes; source = None }
outline (content at size file) = record { place = at; len = size; source = Some file }

-- the bytes of a segment
abbrev pub bytes_of : List (List ℕ) → Segment → List ℕ
bytes_of cs (fixed at bytes) = bytes
bytes_of cs (content at size file) = take size (content_of cs file)

-- a segment as a part of the image
abbrev pub segment_part : List (List ℕ) → Segment → Part
segment_part cs p = part (place p) (bytes_of cs p)

-- bytes that a segment may have: its own if they are known, and otherwise any bytes of its length
abbrev pub IsBody : Option (List (List ℕ)) → Segment → List ℕ → Type 0
IsBody known (fixed at bytes) xs = xs ≡ bytes
IsBody known (content at size file) xs =
    (length xs ≡ size) × IfKnown known (λ cs. xs ≡ take size (content_of cs file))

abbrev pub zeros : ℕ → List ℕ
zeros n = replicate n 0

-- the bytes from `at` to `end`: zeros up to each segment, its bytes, and zeros behind the last
abbrev pub image_from : List (List ℕ) → ℕ → List Segment → ℕ → List ℕ
image_from cs at [] end = zeros (end - at)
image_from cs at (p ∷ ps) end =
    zeros (place p - at) ++ (bytes_of cs p ++ image_from cs (place p + len p) ps end)

-- the same for bytes that the segments may have
abbrev pub IsImage : Option (List (List ℕ)) → ℕ → List Segment → ℕ → List ℕ → Type 0
IsImage known at [] end xs = xs ≡ zeros (end - at)
IsImage known at (p ∷ ps) end xs =
    (body : List ℕ) × (rest : List ℕ) × IsBody known p body
    × IsImage known (place p + len p) ps end rest
    × (xs ≡ zeros (place p - at) ++ (body ++ rest))

-- the segments are one after the other, from `at` to `end`
abbrev pub SegmentsRise : ℕ → List Segment → ℕ → Type 0
SegmentsRise at [] end = at ≤ end
SegmentsRise at (p ∷ ps) end = (at ≤ place p) × SegmentsRise (place p + len p) ps end

-- a segment with contents has those of one of the files, and all of them
abbrev pub HasSource : List ℕ → Segment → Type 0
HasSource sizes (fixed at bytes) = Unit {0}
HasSource sizes (content at size file) = (file < length sizes) × (size ≡ get_or sizes file 0)

-- The superblock by the checksum that it stores, and its length; the segments behind it, and the
-- length of the image; the size of each file.
pub record Form : Type 0 where
  pub head : ℕ → List ℕ
  pub start : ℕ
  pub segments : List Segment
  pub end : ℕ
  pub sizes : List ℕ

-- An image that can be written. Its segments are one after the other behind the superblock, which
-- has at most 4,096 bytes. It is shorter than 2^32 bytes, and so is each file.
pub record IsLaidOut (f : Form) : Type 0 where
  pub rises : SegmentsRise f.start f.segments f.end
  pub files : (i : ℕ) → i < length f.segments → HasSource f.sizes (segment_at f.segments i)
  pub small : f.end < 2 ^ 32
  pub short : f.start ≤ 4096
  pub sized : (file : ℕ) → get_or f.sizes file 0 < 2 ^ 32

-- a superblock that stores the checksum of the image, and the rest of the image; the checksum is
-- that of the image with 0 in its place
abbrev pub checked : (ℕ → List ℕ) → (List ℕ → ℕ) → List ℕ → List ℕ
checked head stored rest = head (stored (head 0 ++ rest)) ++ rest

-- the image of these contents
abbrev pub image_of : Form → (List ℕ → ℕ) → List (List ℕ) → List ℕ
image_of f stored cs = checked f.head stored (image_from cs f.start f.segments f.end)
