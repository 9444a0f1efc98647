-- Reading parts that were laid at their offsets.
use Rattle.std.proofs.Common.{◌≡◌, ℕ, ◌+◌, ◌-◌, ◌<◌, ◌≤◌, inl, inr, List, [], ◌∷◌, ◌++◌, length, drop, replicate}
use Rattle.std.proofs.Common.{get_or, refl, sym, ap, subst, ◌∙◌, arith, append_assoc, length-append}
use Rattle.std.proofs.lemmas.Bool.{cases_lt}
use Rattle.std.proofs.lemmas.List.{length-replicate, drop_all, drop_at, drop-append-le, drop-drop, get_or_append_left}
use Rattle.std.proofs.lemmas.List.{get_or-append_right, get_or-replicate, get_or_past, append-nil}
use Rattle.std.specs.List.{AllByRecursion}
use Rattle.rom_fields.specs.Parts.{Part, end_of_part, with_part, laid, Rises, end_of_parts, HasAt, HasParts, IsOutside}

pub length-with_part : (out : List ℕ) (p : Part) → length out ≤ p.place → length (with_part out p) ≡ end_of_part p
unfolding with_part
length-with_part out p h = simp (length-append, length-replicate) (omega arith)

-- what was laid stays in front
pub laid_keeps : (out : List ℕ) (ps : List Part) → (more : List ℕ) × (laid out ps ≡ out ++ more)
unfolding with_part
laid_keeps out [] = ([], sym (append-nil out))
laid_keeps out (p ∷ ps) =
    let r = laid_keeps (with_part out p) ps in
    let pad = replicate (p.place - length out) 0 ++ p.bytes in
    (pad ++ r.0, r.1 ∙ append_assoc out pad r.0)

pub length-laid : (out : List ℕ) (ps : List Part) → Rises (length out) ps
    → length (laid out ps) ≡ end_of_parts (length out) ps
length-laid out [] h = refl
length-laid out (p ∷ ps) h =
    let e = length-with_part out p h.0 in
    length-laid (with_part out p) ps (subst (λ (n : ℕ). Rises n ps) (sym e) h.1) ∙ ap (λ (n : ℕ). end_of_parts n ps) e

pub laid-append : (out : List ℕ) (ps qs : List Part) → laid out (ps ++ qs) ≡ laid (laid out ps) qs
laid-append out [] qs = refl
laid-append out (p ∷ ps) qs = laid-append (with_part out p) ps qs

-- what is in the front is in the whole
pub HasAt-front : (front more : List ℕ) (place : ℕ) (bytes : List ℕ) → place ≤ length front → HasAt front place bytes
    → HasAt (front ++ more) place bytes
HasAt-front front more place bytes h (back, e) =
    (back ++ more, drop-append-le place front more h ∙ ap (λ (x : List ℕ). x ++ more) e ∙ append_assoc bytes back more)

pub HasAt-with_part : (out : List ℕ) (p : Part) → length out ≤ p.place → HasAt (with_part out p) p.place p.bytes
unfolding with_part
HasAt-with_part out p h =
    let z = replicate (p.place - length out) 0 in
    let n : length (out ++ z) ≡ p.place = simp (length-append, length-replicate) (omega arith) in (
      [],
      ap (λ (x : List ℕ). drop p.place x) (sym (append_assoc out z p.bytes)) ∙ drop_at (out ++ z) p.bytes p.place n
          ∙ sym (append-nil p.bytes),
    )

-- each part can be read if it was laid
pub HasParts-laid : (out : List ℕ) (ps : List Part) → Rises (length out) ps → HasParts (laid out ps) ps
HasParts-laid out [] h = tt
HasParts-laid out (p ∷ ps) h =
    let e = length-with_part out p h.0 in
    let up = subst (λ (n : ℕ). Rises n ps) (sym e) h.1 in
    let k = laid_keeps (with_part out p) ps in
    let here = HasAt-front (with_part out p) k.0 p.place p.bytes (omega arith) (HasAt-with_part out p h.0) in
    (subst (λ (x : List ℕ). HasAt x p.place p.bytes) (sym k.1) here, HasParts-laid (with_part out p) ps up)

-- a range inside a part
pub HasAt-inside : (b : List ℕ) (place : ℕ) (front bytes back : List ℕ) → HasAt b place (front ++ (bytes ++ back))
    → HasAt b (place + length front) bytes
HasAt-inside b place front bytes back (more, e) = (
  back ++ more,
  sym (drop-drop (length front) place b)
      ∙ ap (λ (x : List ℕ). drop (length front) x) (e ∙ append_assoc front (bytes ++ back) more)
      ∙ drop_at front ((bytes ++ back) ++ more) (length front) refl ∙ append_assoc bytes back more,
)

-- between the bytes so far and the part there are zeros
pub gap-with_part : (out : List ℕ) (p : Part) (i : ℕ) → length out ≤ i → i < p.place → get_or (with_part out p) i 0 ≡ 0
unfolding with_part
gap-with_part out p i h k =
    let z = replicate {A = ℕ} (p.place - length out) 0 in
    let len : length z ≡ p.place - length out = length-replicate {A = ℕ} (p.place - length out) 0 in
    let m : i - length out < p.place - length out = omega arith in
    let n : i - length out < length z = omega (arith, m, len) in
    get_or-append_right out (z ++ p.bytes) (length out) i 0 refl h ∙ get_or_append_left z p.bytes 0 (i - length out) n
    ∙ get_or-replicate (p.place - length out) (i - length out) 0 0 m

-- past the bytes so far, and outside the parts, all is zero
pub zero_outside : (out : List ℕ) (ps : List Part) (i : ℕ) → Rises (length out) ps → AllByRecursion (IsOutside i) ps
    → length out ≤ i → get_or (laid out ps) i 0 ≡ 0
zero_outside out [] i h far past = get_or_past out i 0 past
zero_outside out (p ∷ ps) i h far past =
    let e = length-with_part out p h.0 in
    let up = subst (λ (n : ℕ). Rises n ps) (sym e) h.1 in
    elim far.0 [
      | inl before ↦ let k = laid_keeps (with_part out p) ps in
          ap (λ (x : List ℕ). get_or x i 0) k.1 ∙ get_or_append_left (with_part out p) k.0 0 i (omega arith)
          ∙ gap-with_part out p i past before
      | inr after ↦ zero_outside (with_part out p) ps i up far.1 (omega arith)
    ]

-- the front of what is at an offset, and what is behind it
pub HasAt-before : (b : List ℕ) (p : ℕ) (front back : List ℕ) → HasAt b p (front ++ back) → HasAt b p front
HasAt-before b p front back (more, e) = (back ++ more, e ∙ append_assoc front back more)

pub HasAt-after : (b : List ℕ) (p : ℕ) (front back : List ℕ) → HasAt b p (front ++ back)
    → HasAt b (p + length front) back
HasAt-after b p front back (more, e) = (
  more,
  sym (drop-drop (length front) p b)
      ∙ ap (λ (x : List ℕ). drop (length front) x) (e ∙ append_assoc front back more)
      ∙ drop_at front (back ++ more) (length front) refl,
)

pub HasAt-moved : (b : List ℕ) (p q : ℕ) (bytes : List ℕ) → p ≡ q → HasAt b p bytes → HasAt b q bytes
HasAt-moved b p q bytes e h = subst (λ (x : ℕ). HasAt b x bytes) e h

-- what is in the front is in the whole
nil_of : (xs ys : List ℕ) → xs ++ ys ≡ [] → xs ≡ []
nil_of [] ys e = refl
nil_of (x ∷ xs) ys e = absurd (cc)

pub moved : (b more : List ℕ) (q : ℕ) (bytes : List ℕ) → HasAt b q bytes → HasAt (b ++ more) q bytes
moved b more q bytes (back, e) = elim (cases_lt (length b) q) [
  | inl l ↦ let z : bytes ≡ [] = nil_of bytes back (sym e ∙ drop_all q b (omega arith)) in
      (drop q (b ++ more), ap (λ (xs : List ℕ). xs ++ drop q (b ++ more)) (sym z))
  | inr l ↦ HasAt-front b more q bytes (omega arith) (back, e)
]
