-- Lists that are compared from their first difference on.
use Rattle.std.proofs.Common.{◌≡◌, ◌≢◌, ℕ, zero, suc, ◌<◌, ◌≤◌, List, [], ◌∷◌, length, take, refl, sym, ap}
use Rattle.std.proofs.Common.{◌∙◌, arith}
use Rattle.std.specs.Cmp.{nat_cmp_is}
use Rattle.std.specs.Cmp.Lexicographic.{slice_cmp}
use Rattle.std.specs.Ordering.{nat_cmp, ordering_then, MatchOrdering}
use Rattle.std.specs.Prelude.{min, slice_index}
use Rattle.std.specs.declared.cmp.Ordering.{Ordering}
use Rattle.std.specs.declared.cmp.Ordering.TheVariants.{Less, Equal, Greater}
use Rattle.std.proofs.lemmas.Cmp.{nat_cmp_total, ranked, tied_itself}
use Rattle.std.proofs.lemmas.List.{take_at}
use Rattle.image_compare.specs.Directories.{IsFront}

-- two lists with one front
pub same_front : (f a b : List ℕ) → IsFront f a → IsFront f b → take (length f) a ≡ take (length f) b
same_front f a b h k =
    ap (take (length f)) h.1 ∙ (take_at f h.0 (length f) refl
    ∙ (sym (take_at f k.0 (length f) refl) ∙ sym (ap (take (length f)) k.1)))

heads : (x y : ℕ) (xs ys : List ℕ) → x ∷ xs ≡ y ∷ ys → x ≡ y
heads x y xs ys e = cc

tails : (x y : ℕ) (xs ys : List ℕ) → x ∷ xs ≡ y ∷ ys → xs ≡ ys
tails x y xs ys e = cc

equal_first : (x y : ℕ) (o : Ordering) → x ≡ y → ordering_then (nat_cmp x y) o ≡ o
equal_first x y o e = ap (λ (v : Ordering). ordering_then v o)
    (ap (nat_cmp x) (sym e) ∙ tied_itself nat_cmp_total x)

differ_first : (x y : ℕ) (o : Ordering) → x ≢ y → ordering_then (nat_cmp x y) o ≡ nat_cmp x y
differ_first x y o d = by (nat_cmp x y) (ranked x y (nat_cmp x y) refl)
  where
    by : (r : Ordering) → MatchOrdering r (x < y) (x ≡ y) (y < x) → ordering_then r o ≡ r
    by Less h = refl
    by Equal h = absurd (d h)
    by Greater h = refl

-- the first bytes that differ decide
pub differ_at : (a b : List ℕ) (k : ℕ) → k < length a → k < length b → take k a ≡ take k b
    → slice_index a k ≢ slice_index b k → slice_cmp nat_cmp a b ≡ nat_cmp (slice_index a k) (slice_index b k)
differ_at [] b k l m e d = absurd (omega (arith, l))
differ_at (x ∷ xs) [] k l m e d = absurd (omega (arith, m))
differ_at (x ∷ xs) (y ∷ ys) zero l m e d = differ_first x y (slice_cmp nat_cmp xs ys) d
differ_at (x ∷ xs) (y ∷ ys) (suc k) l m e d =
    equal_first x y (slice_cmp nat_cmp xs ys) (heads x y (take k xs) (take k ys) e)
    ∙ differ_at xs ys k (omega (arith, l)) (omega (arith, m)) (tails x y (take k xs) (take k ys) e) d

-- if one list is the front of the other, their lengths decide
pub shorter : (a b : List ℕ) (k : ℕ) → min (length a) (length b) ≤ k → take k a ≡ take k b
    → slice_cmp nat_cmp a b ≡ nat_cmp (length a) (length b)
shorter [] [] k l e = refl
shorter [] (y ∷ ys) k l e = nat_cmp_is 0 (suc (length ys)) Less (omega arith)
shorter (x ∷ xs) [] k l e = nat_cmp_is (suc (length xs)) 0 Greater (omega arith)
shorter (x ∷ xs) (y ∷ ys) zero l e = absurd (omega (arith, l))
shorter (x ∷ xs) (y ∷ ys) (suc k) l e =
    equal_first x y (slice_cmp nat_cmp xs ys) (heads x y (take k xs) (take k ys) e)
    ∙ (shorter xs ys k (omega (arith, l)) (tails x y (take k xs) (take k ys) e)
    ∙ more (length xs) (length ys))
  where
    more : (m n : ℕ) → nat_cmp m n ≡ nat_cmp (suc m) (suc n)
    more m n = nat_cmp_is (suc m) (suc n) (nat_cmp m n) (up (nat_cmp m n) (ranked m n (nat_cmp m n) refl))
      where
        up : (r : Ordering) → MatchOrdering r (m < n) (m ≡ n) (n < m)
            → MatchOrdering r (suc m < suc n) (suc m ≡ suc n) (suc n < suc m)
        up Less h = omega (arith, h)
        up Equal h = ap suc h
        up Greater h = omega (arith, h)
