-- The bytes that sources returned are contents of the planned sizes, if each source is in one segment.
use Rattle.std.proofs.Common.{◌≡◌, ◌≢◌, ℕ, zero, suc, ◌+◌, ◌-◌, ◌<◌, List, [], ◌∷◌, ◌++◌, map, length, take, get_or}
use Rattle.std.proofs.Common.{refl, sym, ap, subst, ◌∙◌, arith, ◌⊎◌, inl, inr}
use Rattle.std.proofs.Math.ListN.{get_or-eq_default}
use Rattle.std.proofs.lemmas.Bool.{cases_lt}
use Rattle.std.proofs.lemmas.Bool.Decides.{eqb_tells}
use Rattle.std.proofs.lemmas.List.{take_all, length-map}
use Rattle.image_stream.specs.Sources.{content_of}
use Rattle.image_stream.specs.Segments.{Segment, fixed, content, zeros, segment_at, image_from, HasSource}
use Rattle.manifest_layout.proofs.Sized.{size_is}
use Rattle.image_build.proofs.Bodies.{IsOf}

-- no segment has the contents of this file
abbrev pub Lacks : ℕ → List Segment → Type 0
Lacks file [] = Unit {0}
Lacks file (fixed at bytes ∷ ps) = Lacks file ps
Lacks file (content at size other ∷ ps) = (file ≢ other) × Lacks file ps

-- no two have the contents of one
abbrev pub StandOnce : List Segment → Type 0
StandOnce [] = Unit {0}
StandOnce (fixed at bytes ∷ ps) = StandOnce ps
StandOnce (content at size file ∷ ps) = Lacks file ps × StandOnce ps

-- the contents, with others of one file
abbrev with_content : List (List ℕ) → ℕ → List ℕ → List (List ℕ)
with_content [] k b = []
with_content (c ∷ cs) zero b = b ∷ cs
with_content (c ∷ cs) (suc k) b = c ∷ with_content cs k b

content_there : (cs : List (List ℕ)) (k : ℕ) (b : List ℕ) → k < length cs → content_of (with_content cs k b) k ≡ b
content_there [] k b l = absurd (omega arith)
content_there (c ∷ cs) zero b l = refl
content_there (c ∷ cs) (suc k) b l = content_there cs k b (omega arith)

content_elsewhere : (cs : List (List ℕ)) (k j : ℕ) (b : List ℕ) → k ≢ j
    → content_of (with_content cs k b) j ≡ content_of cs j
content_elsewhere [] k j b n = refl
content_elsewhere (c ∷ cs) zero zero b n = absurd (n refl)
content_elsewhere (c ∷ cs) zero (suc j) b n = refl
content_elsewhere (c ∷ cs) (suc k) zero b n = refl
content_elsewhere (c ∷ cs) (suc k) (suc j) b n = content_elsewhere cs k j b (λ e. n (ap suc e))

sizes_kept : (cs : List (List ℕ)) (k : ℕ) (b : List ℕ) → k < length cs → length b ≡ get_or (map length cs) k 0
    → map length (with_content cs k b) ≡ map length cs
sizes_kept [] k b l e = refl
sizes_kept (c ∷ cs) zero b l e = ap (λ (n : ℕ). n ∷ map length cs) e
sizes_kept (c ∷ cs) (suc k) b l e = ap (λ (ns : List ℕ). length c ∷ ns) (sizes_kept cs k b (omega arith) e)

-- the image of segments that do not have the file
image_kept : (cs : List (List ℕ)) (k : ℕ) (b : List ℕ) (at : ℕ) (ps : List Segment) (end : ℕ) → Lacks k ps
    → image_from (with_content cs k b) at ps end ≡ image_from cs at ps end
image_kept cs k b at [] end h = refl
image_kept cs k b at (fixed p bytes ∷ ps) end h =
    ap (λ (xs : List ℕ). zeros (p - at) ++ (bytes ++ xs)) (image_kept cs k b (p + length bytes) ps end h)
image_kept cs k b at (content p size file ∷ ps) end h =
    ap (λ (xs : List ℕ). zeros (p - at) ++ (take size (content_of (with_content cs k b) file) ++ xs))
    (image_kept cs k b (p + size) ps end h.1)
    ∙ ap (λ (xs : List ℕ). zeros (p - at) ++ (take size xs ++ image_from cs (p + size) ps end))
    (content_elsewhere cs k file b h.0)

-- the contents of each segment have the property
abbrev pub AreGiven : (ℕ → List ℕ → Type 0) → List (List ℕ) → List Segment → Type 0
AreGiven G cs [] = Unit {0}
AreGiven G cs (fixed at bytes ∷ ps) = AreGiven G cs ps
AreGiven G cs (content at size file ∷ ps) = G file (content_of cs file) × AreGiven G cs ps

given_kept : (G : ℕ → List ℕ → Type 0) (cs : List (List ℕ)) (k : ℕ) (b : List ℕ) (ps : List Segment) → Lacks k ps
    → AreGiven G cs ps → AreGiven G (with_content cs k b) ps
given_kept G cs k b [] h g = tt
given_kept G cs k b (fixed at bytes ∷ ps) h g = given_kept G cs k b ps h g
given_kept G cs k b (content at size file ∷ ps) h g =
    (subst (G file) (sym (content_elsewhere cs k file b h.0)) g.0, given_kept G cs k b ps h.1 g.1)

-- the contents of a source, or no segment has them
pub given_or_lacks : (G : ℕ → List ℕ → Type 0) (cs : List (List ℕ)) (k : ℕ) (ps : List Segment) → AreGiven G cs ps
    → G k (content_of cs k) ⊎ Lacks k ps
given_or_lacks G cs k [] g = inr tt
given_or_lacks G cs k (fixed at bytes ∷ ps) g = given_or_lacks G cs k ps g
given_or_lacks G cs k (content at size file ∷ ps) g = elim (eqb_tells k file) [
  | inl y ↦ inl (subst (λ (j : ℕ). G j (content_of cs j)) (sym y.1) g.0)
  | inr y ↦ elim (given_or_lacks G cs k ps g.1) [ inl z ↦ inl z | inr z ↦ inr (y.1, z) ]
]

-- Contents that no segment has may be any of their length. So if all of them are the same, there are none.
pub lacking : (cs : List (List ℕ)) (k : ℕ) (at : ℕ) (ps : List Segment) (end : ℕ) → Lacks k ps
    → ((ds : List (List ℕ)) → map length ds ≡ map length cs → image_from ds at ps end ≡ image_from cs at ps end
    → content_of ds k ≡ content_of cs k)
    → content_of cs k ≡ []
lacking cs k at ps end lacks same = elim (cases_lt k (length cs)) [
  | inr far ↦ get_or-eq_default cs [] far
  | inl within ↦ by (content_of cs k) refl within
]
  where
    by : (b : List ℕ) → content_of cs k ≡ b → k < length cs → content_of cs k ≡ []
    by [] e within = e
    by (x ∷ xs) e within =
        let other = suc x ∷ xs in
        let ds = with_content cs k other in
        let long : length other ≡ get_or (map length cs) k 0 = ap (λ (v : List ℕ). length v) (sym e) ∙ size_is cs k in
        let equal = same ds (sizes_kept cs k other within long) (image_kept cs k other at ps end lacks) in
        let heads : suc x ∷ xs ≡ x ∷ xs = sym (content_there cs k other within) ∙ equal ∙ e in
        let more : suc x ≡ x = ap (λ (v : List ℕ). get_or v 0 0) heads in
        absurd (omega (arith, more))

-- contents of these sizes, of which the image is, and which have the property
abbrev pub IsOfContents : (ℕ → List ℕ → Type 0) → List ℕ → ℕ → List Segment → ℕ → List ℕ → Type 0
IsOfContents G sizes at ps end xs =
    (cs : List (List ℕ)) × (map length cs ≡ sizes) × (xs ≡ image_from cs at ps end) × AreGiven G cs ps

one_more : (G : ℕ → List ℕ → Type 0) (sizes : List ℕ) (at p size file : ℕ) (ps : List Segment) (end : ℕ)
    (body rest : List ℕ) → Lacks file ps
    → file < length sizes → size ≡ get_or sizes file 0 → length body ≡ size → G file body
    → IsOfContents G sizes (p + size) ps end rest
    → IsOfContents G sizes at (content p size file ∷ ps) end (zeros (p - at) ++ (body ++ rest))
one_more G sizes at p size file ps end body rest h l e n b (cs, same, is, each) =
    let within : file < length cs = omega (arith, l, ap (λ (xs : List ℕ). length xs) same, length-map cs length) in
    let long : length body ≡ get_or (map length cs) file 0 =
    n ∙ e ∙ ap (λ (xs : List ℕ). get_or xs file 0) (sym same) in
    let new = with_content cs file body in
    let put : content_of new file ≡ body = content_there cs file body within in
    let there : take size (content_of new file) ≡ body = ap (take size) put ∙ take_all size body (omega (arith, n)) in (
      new,
      sizes_kept cs file body within long ∙ same,
      ap (λ (xs : List ℕ). zeros (p - at) ++ (body ++ xs)) (is ∙ sym (image_kept cs file body (p + size) ps end h))
          ∙ ap (λ (xs : List ℕ). zeros (p - at) ++ (xs ++ image_from new (p + size) ps end)) (sym there),
      (subst (G file) (sym put) b, given_kept G cs file body ps h each),
    )

pub given : (G : ℕ → List ℕ → Type 0) (start : List (List ℕ)) (sizes : List ℕ) → map length start ≡ sizes
    → (at : ℕ) (ps : List Segment) (end : ℕ) (xs : List ℕ) → StandOnce ps
    → ((i : ℕ) → i < length ps → HasSource sizes (segment_at ps i)) → IsOf G at ps end xs
    → IsOfContents G sizes at ps end xs
given G start sizes s at [] end xs o f h = (start, s, h, tt)
given G start sizes s at (fixed p bytes ∷ ps) end xs o f (body, rest, is, more, all) =
    let r = given G start sizes s (p + length bytes) ps end rest o (λ i l. f (suc i) (omega arith)) more in (
      r.0,
      r.1,
      all ∙ ap (λ (ys : List ℕ). zeros (p - at) ++ (ys ++ rest)) is
          ∙ ap (λ (ys : List ℕ). zeros (p - at) ++ (bytes ++ ys)) r.2,
      r.3,
    )
given G start sizes s at (content p size file ∷ ps) end xs o f (body, rest, is, more, all) =
    let r = given G start sizes s (p + size) ps end rest o.1 (λ i l. f (suc i) (omega arith)) more in
    let source = f 0 (omega arith) in
    let k = one_more G sizes at p size file ps end body rest o.0 source.0 source.1 is.0 is.1 r in
    (k.0, k.1, all ∙ k.2, k.3)
