-- Three passes.
use Rattle.std.proofs.Common.{◌≡◌, ℕ, ◌+◌, ◌-◌, ◌<◌, List, [], ◌∷◌, ◌++◌, length, get_or, Option, Some, ap, refl}
use Rattle.std.proofs.Common.{◌∙◌, arith, subst, inl, inr, rules}
use Rattle.std.proofs.Math.ListN.{get_or-eq_default}
use Rattle.std.proofs.lemmas.Bool.{cases_lt}
use Rattle.std.specs.Io.KnownBytes.{Appends, Keeps}
use Rattle.rom_fields.specs.Failures.{Rose}
use Rattle.rom_fields.specs.Written.{AppendsPrefix, Output}
use Rattle.rom_fields.proofs.Joins.{front_after, front_first, appends_join, appends_keep}
use Rattle.image_stream.specs.declared.error.StreamError.{StreamError}
use Rattle.image_stream.specs.declared.error.StreamError.TheVariants.{SizeDiffers, SourceFault, WriteFault, Changed}
use Rattle.image_stream.specs.Sources.{content_of, IfKnown, Reads, FailedAt}
use Rattle.image_stream.specs.Segments.{Form, Segment, place, len, bytes_of, zeros, IsImage, image_from}
use Rattle.image_stream.specs.Segments.{checked, image_of}
use Rattle.image_stream.specs.Outcomes.{FrontSized, AreSized, IsStreamFault}
use Rattle.image_stream.specs.Steps.{Gone, IsFault, IsLeastStreamFault}
use Rattle.image_stream.proofs.Images.{body_known}

-- if the contents are known, so is the image
pub image_known : (known : Option (List (List ℕ))) (cs : List (List ℕ)) (at end : ℕ) (ps : List Segment) (xs : List ℕ)
    → known ≡ Some cs → IsImage known at ps end xs → xs ≡ image_from cs at ps end
image_known known cs at end [] xs is h = h
image_known known cs at end (p ∷ ps) xs is h =
    let body = body_known known p h.0 cs is h.2 in
    let rest = image_known known cs (place p + len p) end ps h.1 is h.3 in
    h.4 ∙ ap (λ (v : List ℕ). zeros (place p - at) ++ (v ++ h.1)) body
    ∙ ap (λ (v : List ℕ). zeros (place p - at) ++ (bytes_of cs p ++ v)) rest

-- if the contents are known, the image went out
pub image_gone : {R : List ℕ → Type 0} {Was Is : List ℕ → Type 0} (known : Option (List (List ℕ))) (cs : List (List ℕ))
    (f : Form) (a b : Option (List ℕ)) → known ≡ Some cs
    → Gone (λ xs. IsImage known f.start f.segments f.end xs × R xs) a b Was Is
    → Appends a b (image_from cs f.start f.segments f.end)
image_gone known cs f a b is g =
    let A : List ℕ → Type 0 = λ v. Appends a b v in
    subst A (image_known known cs f.start f.end f.segments g.bytes is g.are.0) g.written

-- the value over the superblock without it and all that went out
pub value_of : {P : List ℕ → Type 0} {a b : Option (List ℕ)} (Start First Is : List ℕ → Type 0) (head : List ℕ)
    (S : List ℕ → ℕ) (v : ℕ) → Start [] → ((xs : List ℕ) → Start xs → First (xs ++ head)) → (h : Gone P a b First Is)
    → ((xs : List ℕ) → Is xs → v ≡ S xs) → v ≡ S (head ++ h.bytes)
value_of Start First Is head S v s f h k = k (head ++ h.bytes) (h.added head (f [] s))

-- the same if the contents are known
pub value_known : {R : List ℕ → Type 0} {a b : Option (List ℕ)} (Start First Is : List ℕ → Type 0)
    (known : Option (List (List ℕ))) (cs : List (List ℕ)) (f : Form) (S : List ℕ → ℕ) (v : ℕ) → known ≡ Some cs
    → Start []
    → ((xs : List ℕ) → Start xs → First (xs ++ f.head 0))
    → Gone (λ xs. IsImage known f.start f.segments f.end xs × R xs) a b First Is
    → ((xs : List ℕ) → Is xs → v ≡ S xs) → v ≡ S (f.head 0 ++ image_from cs f.start f.segments f.end)
value_known Start First Is known cs f S v is s h g k =
    value_of Start First Is (f.head 0) S v s h g k
    ∙ ap (λ (x : List ℕ). S (f.head 0 ++ x)) (image_known known cs f.start f.end f.segments g.bytes is g.are.0)

module _ (head : ℕ → List ℕ) (S : List ℕ → ℕ) (stored : ℕ) (image : List ℕ) (right : stored ≡ S (head 0 ++ image)) where
  pub front_head : (a b : Option (List ℕ)) → AppendsPrefix a b (head stored) → AppendsPrefix a b (checked head S image)
  front_head a b f = let H : ℕ → Type 0 =
      λ v. AppendsPrefix a b (head v ++ image) in subst H right (front_first a b (head stored) image f)

  pub front_image : (a b c : Option (List ℕ)) → Appends a b (head stored) → AppendsPrefix b c image
      → AppendsPrefix a c (checked head S image)
  front_image a b c w f = let H : ℕ → Type 0 =
      λ v. AppendsPrefix a c (head v ++ image) in subst H right (front_after a b c (head stored) image w f)

  pub whole_image : (a b c d : Option (List ℕ)) → Appends a b (head stored) → Appends b c image → Keeps c d
      → Appends a d (checked head S image)
  whole_image a b c d w f k = let H : ℕ → Type 0 =
      λ v. Appends a d (head v ++ image) in subst H right
      (appends_keep a c d (head stored ++ image) (appends_join a b c (head stored) image w f) k)

-- a whole image if the contents are known: summed by one pass, and sent by the next
pub whole_known : {Q R : List ℕ → Type 0} {Start First Sum Was Is : List ℕ → Type 0} {x y : Option (List ℕ)}
    (known known' : Option (List (List ℕ))) (cs : List (List ℕ)) (f : Form) (S : List ℕ → ℕ) (v : ℕ)
    (a b c d : Option (List ℕ)) → known ≡ Some cs → known' ≡ Some cs → Start []
    → ((xs : List ℕ) → Start xs → First (xs ++ f.head 0))
    → Gone (λ xs. IsImage known f.start f.segments f.end xs × Q xs) x y First Sum
    → ((xs : List ℕ) → Sum xs → v ≡ S xs) → Appends a b (f.head v)
    → Gone (λ xs. IsImage known' f.start f.segments f.end xs × R xs) b c Was Is → Keeps c d
    → Appends a d (image_of f S cs)
whole_known known known' cs f S v a b c d is is' s h one k head two keep =
    whole_image f.head S v (image_from cs f.start f.segments f.end) (value_known _ _ _ known cs f S v is s h one k)
    a b c d head (image_gone known' cs f b c is' two) keep

-- nothing was written yet
pub size_fault : (known : Option (List (List ℕ))) (f : Form) (stored : List ℕ → ℕ) (r r' : Reads) (w : Output)
    (e : StreamError) → IsLeastStreamFault known f.sizes r r' e
    → IsStreamFault known f stored r r' w w e
size_fault known f stored r r' w (SizeDiffers k) h = (h.0, λ cs is. (h.1 cs is, refl))
size_fault known f stored r r' w (SourceFault k) h = h
size_fault known f stored r r' w WriteFault h = absurd h
size_fault known f stored r r' w Changed h = absurd h

-- a file that has its planned size is not too short
not_short : (sizes : List ℕ) (cs : List (List ℕ)) (f : ℕ) → AreSized sizes cs
    → length (content_of cs f) < get_or sizes f 0 → ⊥
not_short sizes cs f h small = elim (cases_lt f (length sizes)) [
  | inl q ↦ let e = h f q in omega arith
  | inr q ↦ let z = get_or-eq_default sizes 0 q in omega arith
]

-- the files before one of those that have their sizes
front_sized : (sizes : List ℕ) (cs : List (List ℕ)) (k : ℕ) → k < length sizes → AreSized sizes cs
    → FrontSized sizes k cs
front_sized sizes cs k within h = λ j less. h j (omega arith)

-- a fault of a pass over sources of the planned sizes; n and n' count the failures of its sink
pub pass_fault : (known known' : Option (List (List ℕ))) (f : Form) (stored : List ℕ → ℕ) (r r' r'' : Reads) (n n' : ℕ)
    (w w' : Output) (e : StreamError) → known' ≡ known → r' ≡ r → (Rose n n' → Rose w.failures w'.failures)
    → IfKnown known (AreSized f.sizes) → IsFault known' f.sizes r' r'' n n' e
    → IsStreamFault known f stored r r'' w w' e
pass_fault known known' f stored r r' r'' n n' w w' (SizeDiffers k) t q o h g =
    (g.0, λ cs is. absurd (not_short f.sizes cs k (h cs is) (g.1 cs (t ∙ is))))
pass_fault known known' f stored r r' r'' n n' w w' (SourceFault k) t q o h g =
    let R : Reads → Type 0 = λ v. FailedAt k v r'' in
    (g.0, subst R q g.1, λ cs is. front_sized f.sizes cs k g.0 (h cs is))
pass_fault known known' f stored r r' r'' n n' w w' WriteFault t q o h g = o g
pass_fault known known' f stored r r' r'' n n' w w' Changed t q o h g = absurd g

-- a pass with no writer counts no failure
pub never : {A : Type 0} → Rose 0 0 → A
never h = absurd (search rules)
