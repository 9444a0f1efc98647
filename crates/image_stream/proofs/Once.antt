-- One pass, and the superblock again.
use Rattle.std.proofs.Common.{◌≡◌, ℕ, ◌+◌, ◌-◌, ◌≤◌, List, [], ◌∷◌, ◌++◌, length, drop, Option, Some, ap, sym}
use Rattle.std.proofs.Common.{◌∙◌, arith, subst, length-append}
use Rattle.std.proofs.Math.Seq.{drop-append_seam}
use Rattle.std.proofs.lemmas.List.{length-replicate}
use Rattle.std.specs.Io.KnownBytes.{Appends, Keeps}
use Rattle.rom_fields.proofs.Joins.{appends_join, appends_keep}
use Rattle.rom_fields.specs.Rewritten.{Rewrites}
use Rattle.image_stream.specs.Segments.{Form, Segment, fixed, content, place, len, zeros, IsBody, IsImage, SegmentsRise}
use Rattle.image_stream.specs.Segments.{image_from, image_of, checked}
use Rattle.image_stream.proofs.Images.{rises_end}
use Rattle.image_stream.proofs.Streams.{image_known}

body_length : (known : Option (List (List ℕ))) (p : Segment) (xs : List ℕ) → IsBody known p xs → length xs ≡ len p
body_length known (fixed q bs) xs h = ap length h
body_length known (content q n f) xs h = h.0

-- the length of what follows the superblock
pub image_length : (known : Option (List (List ℕ))) (from end : ℕ) (ps : List Segment) (xs : List ℕ)
    → SegmentsRise from ps end → IsImage known from ps end xs → length xs ≡ end - from
image_length known from end [] xs r h = ap length h ∙ length-replicate (end - from) 0
image_length known from end (p ∷ ps) xs r h =
    let body : length h.0 ≡ len p = body_length known p h.0 h.2 in
    let rest : length h.1 ≡ end - (place p + len p) = image_length known (place p + len p) end ps h.1 r.1 h.3 in
    let within = rises_end (place p + len p) end ps r.1 in
    let first = r.0 in
    let gap : length (zeros (place p - from)) ≡ place p - from = length-replicate (place p - from) 0 in
    let both : length (zeros (place p - from) ++ (h.0 ++ h.1)) ≡ length (zeros (place p - from)) + length (h.0 ++ h.1) =
    length-append (zeros (place p - from)) (h.0 ++ h.1) in
    let last : length (h.0 ++ h.1) ≡ length h.0 + length h.1 = length-append h.0 h.1 in
    ap length h.4 ∙ omega arith

-- the superblock in the place of the first one
pub head_again : (head new rest : List ℕ) (start end : ℕ) (a b c d : Option (List ℕ)) → length head ≡ start
    → length new ≡ start → start ≤ end → length rest ≡ end - start → Appends a b head → Appends b c rest
    → Rewrites c d end new → Appends a d (new ++ rest)
head_again head new rest start end a b c d m n within r h k w =
    let all : length (head ++ rest) ≡ end = length-append head rest ∙ omega arith in
    let seam : drop (length new) (head ++ rest) ≡ rest =
    ap (λ (k : ℕ). drop k (head ++ rest)) (n ∙ sym m) ∙ drop-append_seam head rest in
    let A : List ℕ → Type 0 = λ v. Appends a d (new ++ v) in
    subst A seam (w a (head ++ rest) all (appends_join a b c head rest h k))

-- a whole image, whose checksum is that of what was sent
pub image_once : (f : Form) (S : List ℕ → ℕ) (v : ℕ) (known : Option (List (List ℕ))) (rest : List ℕ)
    (a b c d e : Option (List ℕ)) → SegmentsRise f.start f.segments f.end
    → IsImage known f.start f.segments f.end rest → v ≡ S (f.head 0 ++ rest) → length (f.head 0) ≡ f.start
    → length (f.head v) ≡ f.start → Appends a b (f.head 0) → Appends b c rest → Rewrites c d f.end (f.head v)
    → Keeps d e → Appends a e (checked f.head S rest)
image_once f S v known rest a b c d e rises stands right m n h k w keep =
    let H : ℕ → Type 0 = λ z. Appends a e (f.head z ++ rest) in
    subst H right (appends_keep a d e (f.head v ++ rest)
    (head_again (f.head 0) (f.head v) rest f.start f.end a b c d m n (rises_end f.start f.end f.segments rises)
    (image_length known f.start f.end f.segments rest rises stands) h k w) keep)

-- the same if the contents are known
pub known_once : (f : Form) (S : List ℕ → ℕ) (known : Option (List (List ℕ))) (cs : List (List ℕ)) (rest : List ℕ)
    (a e : Option (List ℕ)) → known ≡ Some cs → IsImage known f.start f.segments f.end rest
    → Appends a e (checked f.head S rest) → Appends a e (image_of f S cs)
known_once f S known cs rest a e is stands h =
    let A : List ℕ → Type 0 = λ z. Appends a e (checked f.head S z) in
    subst A (image_known known cs f.start f.end f.segments rest is stands) h
