-- An image beside what a reader has, part by part.
use Rattle.std.proofs.Common.{◌≡◌, ℕ, ◌+◌, ◌-◌, ◌≤◌, List, ◌++◌, length, take, drop, Option, Some, None, IfSome}
use Rattle.std.proofs.Common.{Result, Ok, Err, IfOk, sym, ap, ◌∙◌, subst, arith, length-take, length-append}
use Rattle.std.proofs.Math.Seq.{take-add, take-append-add}
use Rattle.std.proofs.Math.Seq.{drop-append_seam}
use Rattle.std.proofs.lemmas.Option.{none-some, same_Some}
use Rattle.std.proofs.lemmas.List.{take_rest, take-append-drop, drop-drop}
use Rattle.std.specs.Io.KnownBytes.{Consumes}
use Rattle.std.proofs.KnownBytes.{Consumes-trans}
use Rattle.image_compare.specs.Differences.{DiffersAt, StepPrints, Passes, Begins, Compares}
use Rattle.image_compare.specs.declared.dump.Step.{Step}
use Rattle.image_compare.specs.declared.dump.Step.TheVariants.{Same, Differs}
use Rattle.image_compare.proofs.ComparedBytes.{behind_same}

module _ (image : List ℕ) (at : ℕ) (a b c : Option (List ℕ)) (h : at ≤ length image)
    (r : Consumes a b (take at image)) (s : Step)
    (t : StepPrints (take (length image - at) (drop at image)) b c s) where
  printed : StepPrints (drop at image) b c s
  printed = let P : List ℕ → Type 0 = λ v. StepPrints v b c s in subst P (take_rest image at) t

  -- the bytes before `at`, and those that one read has more
  pub read_more : (n : ℕ) → s ≡ Same n → Consumes a c (take (at + n) image)
  read_more n e =
      let P : Step → Type 0 = λ v. StepPrints (drop at image) b c v in
      let q : StepPrints (drop at image) b c (Same n) = subst P e printed in
      let Q : List ℕ → Type 0 = λ v. Consumes a c v in
      subst Q (sym (take-add at n image)) (Consumes-trans a b c (take at image) (take n (drop at image)) r q.2)

  pub more_within : (n : ℕ) → s ≡ Same n → at + n ≤ length image
  more_within n e =
      let P : Step → Type 0 = λ v. StepPrints (take (length image - at) (drop at image)) b c v in
      let q : StepPrints (take (length image - at) (drop at image)) b c (Same n) = subst P e t in
      omega (arith, h, q.1, length-take (length image - at) (drop at image))

differs_known : (image : List ℕ) (at i : ℕ) (a b : Option (List ℕ)) → at ≤ length image
    → Consumes a b (take at image)
    → IfSome b (λ xs. DiffersAt (drop at image) (take (length (drop at image)) xs) i)
    → IfSome a (λ xs. DiffersAt image (take (length image) xs) (at + i))
differs_known image at i None b h r d = tt
differs_known image at i (Some xs) None h r d = absurd r
differs_known image at i (Some xs) (Some ys) h r d =
    let f : List ℕ = take at image in
    let k : length f ≡ at = length-take at image ∙ omega (arith, h) in
    let whole : f ++ drop at image ≡ image = take-append-drop at image in
    let n : length image ≡ length f + length (drop at image) =
    ap length (sym whole) ∙ length-append f (drop at image) in
    let front : f ++ take (length (drop at image)) ys ≡ take (length image) xs =
    sym (take-append-add f ys (length (drop at image)))
    ∙ (ap (λ (v : ℕ). take v (f ++ ys)) (sym n) ∙ ap (take (length image)) (sym r)) in
    let P : List ℕ → Type 0 = λ v. DiffersAt v (f ++ take (length (drop at image)) ys) (length f + i) in
    let Q : List ℕ → Type 0 = λ v. DiffersAt image v (length f + i) in
    let R : ℕ → Type 0 = λ v. DiffersAt image (take (length image) xs) (v + i) in
    subst R k (subst Q front (subst P whole
    (behind_same f (drop at image) (take (length (drop at image)) ys) i d)))

module _ (image : List ℕ) (at : ℕ) (a b c : Option (List ℕ)) (h : at ≤ length image)
    (r : Consumes a b (take at image)) (s : Step)
    (t : StepPrints (take (length image - at) (drop at image)) b c s) where
  -- where the rest differs, the image does
  pub differs_more : (i : ℕ) → s ≡ Differs i → IfSome a (λ xs. DiffersAt image (take (length image) xs) (at + i))
  differs_more i e =
      let P : Step → Type 0 = λ v. StepPrints (drop at image) b c v in
      let q : StepPrints (drop at image) b c (Differs i) = subst P e (printed image at a b c h r s t) in
      differs_known image at i a b h r q.1

-- more bytes are passed
pub passes_more : (a b c : Option (List ℕ)) (k n : ℕ) (bs : List ℕ) → length bs ≡ n → Passes a b k → Consumes b c bs
    → Passes a c (k + n)
passes_more None b c k n bs e p r = tt
passes_more (Some xs) None c k n bs e p r = let q : None ≡ Some (drop k xs) = p in absurd (none-some (drop k xs) q)
passes_more (Some xs) (Some ys) None k n bs e p r = absurd r
passes_more (Some xs) (Some ys) (Some zs) k n bs e p r =
    let p' : Some ys ≡ Some (drop k xs) = p in
    let r' : ys ≡ bs ++ zs = r in
    let q : drop k xs ≡ bs ++ zs = sym (same_Some ys (drop k xs) p') ∙ r' in
    ap Some (sym (sym (drop-drop n k xs) ∙ (ap (drop n) q
    ∙ (ap (λ (v : ℕ). drop v (bs ++ zs)) (sym e) ∙ drop-append_seam bs zs))))

-- bytes that are read from a place before an offset on, of which those before it are passed over
from_offset : (stored rest rest' : Option (List ℕ)) (before offset : ℕ) (image : List ℕ) (r : Option ℕ)
    → Begins stored rest before offset → Passes rest rest' before → IfSome rest' (λ xs. Compares image xs r)
    → IfSome stored (λ xs. Compares image (drop offset xs) r)
from_offset None rest rest' before offset image r begins passes compares = tt
from_offset (Some xs) rest rest' before offset image r (at, is, sum) passes compares =
    let behind : rest' ≡ Some (drop before (drop at xs)) = subst (λ o. Passes o rest' before) is passes in
    let found : Compares image (drop before (drop at xs)) r =
    subst (λ o. IfSome o (λ ys. Compares image ys r)) behind compares
    in
    subst (λ ys. Compares image ys r) (drop-drop before at xs ∙ ap (λ n. drop n xs) sum) found

pub told_from_offset : {E : Type 0} (stored rest rest' : Option (List ℕ)) (before offset : ℕ) (image : List ℕ)
    (found : Result (Option ℕ) E) → Begins stored rest before offset → Passes rest rest' before
    → IfOk found (λ r. IfSome rest' (λ xs. Compares image xs r))
    → IfOk found (λ r. IfSome stored (λ xs. Compares image (drop offset xs) r))
told_from_offset stored rest rest' before offset image (Ok r) begins passes compares =
    from_offset stored rest rest' before offset image r begins passes compares
told_from_offset stored rest rest' before offset image (Err e) begins passes compares = tt
