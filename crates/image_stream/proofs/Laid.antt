-- An image is its superblock and its segments, laid one after the other.
use Rattle.std.proofs.Common.{◌≡◌, ℕ, suc, ◌+◌, ◌-◌, ◌<◌, List, [], ◌∷◌, ◌++◌, map, length, sym, ap, subst, ◌∙◌, arith}
use Rattle.std.proofs.Common.{append-nil}
use Rattle.rom_fields.specs.Parts.{Part, part, with_part, laid, bytes_from, Rises}
use Rattle.rom_fields.proofs.Laid.{laid_from}
use Rattle.image_stream.specs.Segments.{Segment, place, len, segment_at, bytes_of, zeros, image_from, SegmentsRise}
use Rattle.image_stream.specs.Segments.{HasSource, segment_part, Form, IsLaidOut}
use Rattle.image_stream.specs.Outcomes.{AreSized}
use Rattle.image_stream.proofs.Puts.{length_bytes}

abbrev AreSources : List ℕ → List Segment → Type 0
AreSources sizes ps = (i : ℕ) → i < length ps → HasSource sizes (segment_at ps i)

module _ (sizes : List ℕ) (cs : List (List ℕ)) (end : ℕ) (sized : AreSized sizes cs) where
  abbrev all_parts : List Segment → List Part
  all_parts ps = map (segment_part cs) ps ++ part end [] ∷ []

  from_parts : (at : ℕ) (ps : List Segment) → AreSources sizes ps
      → image_from cs at ps end ≡ bytes_from at (all_parts ps)
  from_parts at [] h = sym (append-nil (zeros (end - at)))
  from_parts at (p ∷ ps) h =
      let e : len p ≡ length (bytes_of cs p) = length_bytes sizes cs p (h 0 (omega arith)) sized in
      let later = from_parts (place p + len p) ps (λ i l. h (suc i) (omega arith)) in
      ap (λ (v : List ℕ). zeros (place p - at) ++ (bytes_of cs p ++ v))
      (later ∙ ap (λ (k : ℕ). bytes_from (place p + k) (all_parts ps)) e)

  parts_rise : (at : ℕ) (ps : List Segment) → AreSources sizes ps → SegmentsRise at ps end → Rises at (all_parts ps)
  parts_rise at [] h r = (r, tt)
  parts_rise at (p ∷ ps) h r =
      let e : len p ≡ length (bytes_of cs p) = length_bytes sizes cs p (h 0 (omega arith)) sized in (
        r.0,
        subst (λ (k : ℕ). Rises (place p + k) (all_parts ps)) e
            (parts_rise (place p + len p) ps (λ i l. h (suc i) (omega arith)) r.1),
      )

pub image_laid : (f : Form) (cs : List (List ℕ)) → IsLaidOut f → AreSized f.sizes cs → length (f.head 0) ≡ f.start
    → f.head 0 ++ image_from cs f.start f.segments f.end
    ≡ laid [] (part 0 (f.head 0) ∷ (map (segment_part cs) f.segments ++ part f.end [] ∷ []))
unfolding with_part
image_laid f cs h sized n =
    let ps = map (segment_part cs) f.segments ++ part f.end [] ∷ [] in
    let r = subst (λ (k : ℕ). Rises k ps) (sym n)
    (parts_rise f.sizes cs f.end sized f.start f.segments h.files h.rises) in
    ap (λ (v : List ℕ). f.head 0 ++ v)
    (from_parts f.sizes cs f.end sized f.start f.segments h.files ∙ ap (λ (k : ℕ). bytes_from k ps) (sym n))
    ∙ sym (laid_from (f.head 0) ps r)
