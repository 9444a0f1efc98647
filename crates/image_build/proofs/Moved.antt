-- An image of segments is one of segments with other sources.
use Rattle.std.proofs.Common.{◌≡◌, ℕ, ◌+◌, List, [], ◌∷◌, map, sym, ap, subst, ◌∙◌}
use Rattle.manifest_tree.specs.Items.{Item, Section, Body, super, record_of, table_of, text_of, contents_of}
use Rattle.manifest_tree.specs.Bodies.{item_at}
use Rattle.image_stream.specs.Segments.{Segment, fixed, content, place, len}
use Rattle.romfs_write.specs.Form.{segment_by, segment_of}
use Rattle.image_build.proofs.Bodies.{IsOf}
use Rattle.image_build.proofs.Alike.{IsAlikeItem, AlikeBody, AlikeSections, bytes_same}

-- the same bytes, or the contents of another source
abbrev AlikeSegment : (ℕ → ℕ) → Segment → Segment → Type 0
AlikeSegment S (fixed at bytes) q = q ≡ fixed at bytes
AlikeSegment S (content at size file) q = (g : ℕ) × (q ≡ content at size g) × (file ≡ S g)

abbrev pub AlikeSegments : (ℕ → ℕ) → List Segment → List Segment → Type 0
AlikeSegments S [] [] = Unit {0}
AlikeSegments S [] (q ∷ qs) = ⊥
AlikeSegments S (p ∷ ps) [] = ⊥
AlikeSegments S (p ∷ ps) (q ∷ qs) = AlikeSegment S p q × AlikeSegments S ps qs

module _ (S : ℕ → ℕ) (is js : List Item) (alike : (k : ℕ) → IsAlikeItem S (item_at is k) (item_at js k)) where
  body_alike : (at n : ℕ) (b c : Body) → AlikeBody S b c → AlikeSegment S (segment_by is at n b) (segment_by js at n c)
  body_alike at n super c a = ap (segment_by js at n) a
  body_alike at n (record_of k) c a = ap (segment_by js at n) a ∙ ap (fixed at) (alike k).written
  body_alike at n (table_of k) c a = ap (segment_by js at n) a
  body_alike at n (text_of k) c a =
      ap (segment_by js at n) a ∙ ap (fixed at) (bytes_same S (item_at is k).fill (item_at js k).fill (alike k).fill)
  body_alike at n (contents_of k) c a = (a.0, ap (segment_by js at n) a.1, a.2)

  pub segments_alike : (ss ts : List Section) → AlikeSections S ss ts
      → AlikeSegments S (map (segment_of is) ss) (map (segment_of js) ts)
  segments_alike [] [] a = tt
  segments_alike [] (t ∷ ts) a = absurd a
  segments_alike (s ∷ ss) [] a = absurd a
  segments_alike (s ∷ ss) (t ∷ ts) a =
      let G : ℕ → ℕ → Type 0 = λ at n. AlikeSegment S (segment_of is s) (segment_by js at n t.body) in (
        subst (λ (at : ℕ). G at t.len) (sym a.0.place)
            (subst (G s.place) (sym a.0.len) (body_alike s.place s.len s.body t.body a.0.body)),
        segments_alike ss ts a.1,
      )

pub image_moved : (S : ℕ → ℕ) (G : ℕ → List ℕ → Type 0) (ps qs : List Segment) (at end : ℕ) (xs : List ℕ)
    → AlikeSegments S ps qs
    → IsOf G at ps end xs → IsOf (λ g ys. G (S g) ys) at qs end xs
image_moved S G [] [] at end xs a h = h
image_moved S G [] (q ∷ qs) at end xs a h = absurd a
image_moved S G (p ∷ ps) [] at end xs a h = absurd a
image_moved S G (fixed p bytes ∷ ps) (q ∷ qs) at end xs a (body, rest, is, more, all) =
    let later = image_moved S G ps qs (place (fixed p bytes) + len (fixed p bytes)) end rest a.1 more in
    subst (λ (s : Segment). IsOf (λ g ys. G (S g) ys) at (s ∷ qs) end xs) (sym a.0) (body, rest, is, later, all)
image_moved S G (content p size file ∷ ps) (q ∷ qs) at end xs a (body, rest, is, more, all) =
    let later = image_moved S G ps qs (p + size) end rest a.1 more in
    let of : G (S a.0.0) body = subst (λ (k : ℕ). G k body) a.0.2 is.1 in
    subst (λ (s : Segment). IsOf (λ g ys. G (S g) ys) at (s ∷ qs) end xs) (sym a.0.1)
    (body, rest, (is.0, of), later, all)
