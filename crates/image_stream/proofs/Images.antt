-- Sections one after the other.
use Rattle.std.proofs.Common.{◌≡◌, ℕ, ◌+◌, ◌-◌, ◌≤◌, ◌<◌, List, [], ◌∷◌, ◌++◌, length, drop, Option, Some, ap, sym}
use Rattle.std.proofs.Common.{refl, ◌∙◌, arith, append_assoc, subst, add-one}
use Rattle.std.proofs.Math.Seq.{drop-cons}
use Rattle.std.proofs.lemmas.List.{drop_all}
use Rattle.std.specs.Io.KnownBytes.{Appends}
use Rattle.rom_fields.specs.Written.{AppendsPrefix}
use Rattle.rom_fields.proofs.Joins.{front_after, front_first}
use Rattle.image_stream.specs.Sources.{IfKnown}
use Rattle.image_stream.specs.Segments.{Segment, fixed, content, place, len, segment_at, bytes_of, IsBody, zeros}
use Rattle.image_stream.specs.Segments.{SegmentsRise, IsImage, image_from}
use Rattle.image_stream.specs.Steps.{IsNext, next_bytes, IsDone}

-- if the contents are known, so are the bytes
pub body_known : (known : Option (List (List ℕ))) (p : Segment) (xs : List ℕ) (cs : List (List ℕ)) → known ≡ Some cs
    → IsBody known p xs → xs ≡ bytes_of cs p
body_known known (fixed p bs) xs cs is h = h
body_known known (content p n f) xs cs is h = h.1 cs is

pub rises_end : (at end : ℕ) (ps : List Segment) → SegmentsRise at ps end → at ≤ end
rises_end at end [] h = h
rises_end at end (p ∷ ps) h = let q = rises_end (place p + len p) end ps h.1 in let k = h.0 in omega arith

-- the i-th part, and those after it
pub drop_part : (ps : List Segment) (i : ℕ) → i < length ps → drop i ps ≡ segment_at ps i ∷ drop (i + 1) ps
drop_part ps i h = drop-cons ps i (fixed 0 []) h ∙ ap (λ (k : ℕ). segment_at ps i ∷ drop k ps) (sym (add-one i))

pub rises_here : (ps : List Segment) (i at end : ℕ) → i < length ps → SegmentsRise at (drop i ps) end
    → (at ≤ place (segment_at ps i)) × (place (segment_at ps i) + len (segment_at ps i) ≤ end)
    × SegmentsRise (place (segment_at ps i) + len (segment_at ps i)) (drop (i + 1) ps) end
rises_here ps i at end h r =
    let R : List Segment → Type 0 = λ v. SegmentsRise at v end in
    let q : SegmentsRise at (segment_at ps i ∷ drop (i + 1) ps) end = subst R (drop_part ps i h) r in
    (q.0, rises_end _ _ _ q.1, q.1)

pub done_none : (known : Option (List (List ℕ))) (start : ℕ) (parts : List Segment) (end : ℕ)
    → IsDone known start parts end start parts []
done_none known start parts end = record { more = λ rest h. h; facts = λ cs is. refl }

-- one segment further
pub done_next : (known : Option (List (List ℕ))) (start : ℕ) (parts : List Segment) (end at : ℕ) (p : Segment)
    (ps : List Segment) (xs ys : List ℕ) → IsDone known start parts end at (p ∷ ps) xs → IsNext known at p ys
    → IsDone known start parts end (place p + len p) ps (xs ++ ys)
done_next known start parts end at p ps xs ys h n =
    let gap = zeros (place p - at) in
    let split : (rest : List ℕ) → (xs ++ ys) ++ rest ≡ xs ++ (gap ++ (n.body ++ rest)) =
    λ rest. append_assoc xs ys rest ∙ ap (λ (v : List ℕ). xs ++ v)
    (ap (λ (v : List ℕ). v ++ rest) n.all ∙ append_assoc gap n.body rest) in
    record {
      more = λ rest k. let I : List ℕ → Type 0 = λ v. IsImage known start parts end v in
          subst I (sym (split rest)) (h.more (gap ++ (n.body ++ rest)) (n.body, rest, n.stands, k, refl));
      facts = λ cs is. split (image_from cs (place p + len p) ps end)
          ∙ ap (λ (v : List ℕ). xs ++ (gap ++ (v ++ image_from cs (place p + len p) ps end)))
          (body_known known p n.body cs is n.stands) ∙ h.facts cs is;
    }

-- a front of the next segment is one of the image
pub broken_next : (known known' : Option (List (List ℕ))) (start : ℕ) (parts : List Segment) (end at i : ℕ)
    (a b c : Option (List ℕ)) (xs : List ℕ) (cs : List (List ℕ)) → known' ≡ known → known ≡ Some cs → i < length parts
    → IsDone known start parts end at (drop i parts) xs → Appends a b xs
    → IfKnown known' (λ cs. AppendsPrefix b c (next_bytes cs at (segment_at parts i)))
    → AppendsPrefix a c (image_from cs start parts end)
broken_next known known' start parts end at i a b c xs cs e is small d w f =
    let p = segment_at parts i in
    let rest = image_from cs (place p + len p) (drop (i + 1) parts) end in
    let t : AppendsPrefix a c ((xs ++ next_bytes cs at p) ++ rest) =
    front_first a c (xs ++ next_bytes cs at p) rest (front_after a b c xs (next_bytes cs at p) w (f cs (e ∙ is))) in
    let all : (xs ++ next_bytes cs at p) ++ rest ≡ image_from cs start parts end =
    append_assoc xs (next_bytes cs at p) rest
    ∙ ap (λ (v : List ℕ). xs ++ v) (append_assoc (zeros (place p - at)) (bytes_of cs p) rest)
    ∙ ap (λ (v : List Segment). xs ++ image_from cs at v end) (sym (drop_part parts i small)) ∙ d.facts cs is in
    (t.0, t.1, t.2, sym all ∙ t.3)

pub broken_end : (known : Option (List (List ℕ))) (start : ℕ) (parts : List Segment) (end at i : ℕ)
    (a b c : Option (List ℕ)) (xs : List ℕ) (cs : List (List ℕ)) → known ≡ Some cs → i ≡ length parts
    → IsDone known start parts end at (drop i parts) xs → Appends a b xs → AppendsPrefix b c (zeros (end - at))
    → AppendsPrefix a c (image_from cs start parts end)
broken_end known start parts end at i a b c xs cs is e d w f =
    let none : drop i parts ≡ [] = drop_all i parts (omega arith) in
    let t : AppendsPrefix a c (xs ++ zeros (end - at)) = front_after a b c xs (zeros (end - at)) w f in
    let all : xs ++ zeros (end - at) ≡ image_from cs start parts end =
    ap (λ (v : List Segment). xs ++ image_from cs at v end) (sym none) ∙ d.facts cs is in
    (t.0, t.1, t.2, sym all ∙ t.3)

pub broken_gap : (cs : List (List ℕ)) (at k : ℕ) (p : Segment) (a b : Option (List ℕ)) → k ≡ place p
    → AppendsPrefix a b (zeros (k - at)) → AppendsPrefix a b (next_bytes cs at p)
broken_gap cs at k p a b e f =
    let Z : ℕ → Type 0 = λ v. AppendsPrefix a b (zeros (v - at)) in
    front_first a b (zeros (place p - at)) (bytes_of cs p) (subst Z e f)

pub broken_body : (cs : List (List ℕ)) (at k : ℕ) (p : Segment) (a b c : Option (List ℕ)) (xs : List ℕ) → k ≡ place p
    → xs ≡ zeros (k - at) → Appends a b xs → AppendsPrefix b c (bytes_of cs p) → AppendsPrefix a c (next_bytes cs at p)
broken_body cs at k p a b c xs e z w f =
    let t : AppendsPrefix a c (xs ++ bytes_of cs p) = front_after a b c xs (bytes_of cs p) w f in
    (t.0, t.1, t.2, ap (λ (v : List ℕ). v ++ bytes_of cs p) (sym (z ∙ ap (λ (j : ℕ). zeros (j - at)) e)) ∙ t.3)
