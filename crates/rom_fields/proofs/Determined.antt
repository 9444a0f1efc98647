-- Bytes that have all parts at their offsets, and zeros elsewhere, are the laid parts.
use Rattle.std.proofs.Common.{◌≡◌, ℕ, suc, ◌+◌, ◌-◌, ◌<◌, ◌≤◌, inl, inr, List, [], ◌∷◌, ◌++◌, length, take, drop}
use Rattle.std.proofs.Common.{replicate, get_or, refl, sym, ap, ◌∙◌, arith, take-append-drop, length-take, length-drop}
use Rattle.std.proofs.Common.{get_or-drop, get_or-take}
use Rattle.std.proofs.lemmas.List.{drop-drop, drop_all}
use Rattle.std.specs.List.{AllByRecursion as Every}
use Rattle.rom_fields.specs.Parts.{Part, end_of_part, laid, bytes_from, Rises, end_of_parts, HasParts, IsOutside}
use Rattle.rom_fields.proofs.Laid.{laid_from}

all_zeros : (xs : List ℕ) → ((j : ℕ) → j < length xs → get_or xs j 0 ≡ 0) → xs ≡ replicate (length xs) 0
all_zeros [] h = refl
all_zeros (x ∷ xs) h =
    let e : x ≡ 0 = h 0 (omega arith) in
    let r : xs ≡ replicate (length xs) 0 = all_zeros xs (λ j l. h (suc j) (omega arith)) in
    ap (λ (y : ℕ). y ∷ xs) e ∙ ap (λ (ys : List ℕ). 0 ∷ ys) r

-- a byte before all parts
before : (ps : List Part) (at i : ℕ) → i < at → Rises at ps → Every (IsOutside i) ps
before [] at i l r = tt
before (p ∷ ps) at i l r = let low = r.0 in (inl (omega arith), before ps (end_of_part p) i (omega arith) r.1)

ends_later : (ps : List Part) (at : ℕ) → Rises at ps → at ≤ end_of_parts at ps
ends_later [] at r = omega arith
ends_later (p ∷ ps) at r = let low = r.0 in let e = ends_later ps (end_of_part p) r.1 in omega arith

-- zeros between two offsets
gap_is : (b : List ℕ) (at k : ℕ) → at + k ≤ length b → ((i : ℕ) → at ≤ i → i < at + k → get_or b i 0 ≡ 0)
    → take k (drop at b) ≡ replicate k 0
gap_is b at k fits h =
    let xs = take k (drop at b) in
    let n : length xs ≡ k = omega (arith, length-take k (drop at b), length-drop at b) in
    all_zeros xs (λ j l. get_or-take k (drop at b) j 0 (omega (arith, n)) ∙ get_or-drop at b j 0
    ∙ h (at + j) (omega arith) (omega (arith, n)))
    ∙ ap (λ (m : ℕ). replicate m 0) n

from_there : (b : List ℕ) (ps : List Part) (at : ℕ) → Rises at ps → HasParts b ps → length b ≡ end_of_parts at ps
    → ((i : ℕ) → at ≤ i → Every (IsOutside i) ps → get_or b i 0 ≡ 0) → drop at b ≡ bytes_from at ps
from_there b [] at r has n z = drop_all at b (omega arith)
from_there b (p ∷ ps) at r has n z =
    let k = p.place - at in
    let low = r.0 in
    let e = ends_later ps (end_of_part p) r.1 in
    let gap : take k (drop at b) ≡ replicate k 0 =
    gap_is b at k (omega arith) (λ i l m. z i l (before (p ∷ ps) p.place i (omega arith) (omega arith, r.1))) in
    let s : at + k ≡ p.place = omega arith in
    let here : drop k (drop at b) ≡ p.bytes ++ has.0.0 = drop-drop k at b ∙ ap (λ (m : ℕ). drop m b) s ∙ has.0.1 in
    let behind : has.0.0 ≡ drop (end_of_part p) b =
    sym (drop_seam p.bytes has.0.0) ∙ ap (drop (length p.bytes)) (sym has.0.1) ∙ drop-drop (length p.bytes) p.place b in
    let later = from_there b ps (end_of_part p) r.1 has.1 n (λ i l o. z i (omega arith) (inr l, o)) in
    sym (take-append-drop k (drop at b)) ∙ ap (λ (v : List ℕ). v ++ drop k (drop at b)) gap
    ∙ ap (λ (v : List ℕ). replicate k 0 ++ v) (here ∙ ap (λ (v : List ℕ). p.bytes ++ v) (behind ∙ later))
  where
    drop_seam : (xs ys : List ℕ) → drop (length xs) (xs ++ ys) ≡ ys
    drop_seam [] ys = refl
    drop_seam (x ∷ xs) ys = drop_seam xs ys

pub determined : (b : List ℕ) (ps : List Part) → Rises 0 ps → HasParts b ps → length b ≡ end_of_parts 0 ps
    → ((i : ℕ) → Every (IsOutside i) ps → get_or b i 0 ≡ 0) → b ≡ laid [] ps
determined b ps r has n z = from_there b ps 0 r has n (λ i l o. z i o) ∙ sym (laid_from [] ps r)
