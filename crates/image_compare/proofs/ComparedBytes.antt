-- Two slices that are the same up to an index, and what the byte there decides.
use Rattle.std.proofs.Common.{◌≡◌, ℕ, ◌+◌, ◌<◌, List, [], ◌∷◌, ◌++◌, length, take, get_or, sym, ap, ◌∙◌}
use Rattle.std.proofs.Common.{arith}
use Rattle.std.proofs.Common.{length-take, length-append, min, inl, inr, refl}
use Rattle.std.proofs.Math.Seq.{take-append-add}
use Rattle.std.proofs.lemmas.List.{take_more, take_all, get_or-take, take-append-le, append_cancel_left}
use Rattle.std.proofs.lemmas.Bool.{cases_lt}
use Rattle.image_compare.specs.Differences.{DiffersAt}

module _ (a b : List ℕ) (i : ℕ) (e : take i a ≡ take i b) where
  -- a byte that differs
  pub at_byte : i < length a → i < length b → (get_or a i 0 ≡ get_or b i 0 → ⊥) → DiffersAt a b i
  at_byte h k d = record {
    within_a = omega (arith, h);
    within_b = omega (arith, k);
    same_before = e;
    differs = λ t. d (sym (get_or-take (i + 1) a i 0 (omega arith))
        ∙ (ap (λ (v : List ℕ). get_or v i 0) t ∙ get_or-take (i + 1) b i 0 (omega arith)));
  }

  -- the end of the shorter one
  pub at_end : i ≡ min (length a) (length b) → (length a ≡ length b → ⊥) → DiffersAt a b i
  at_end h d = record {
    within_a = omega (arith, h);
    within_b = omega (arith, h);
    same_before = e;
    differs = λ t. d (omega (arith, h, ap length t, length-take (i + 1) a, length-take (i + 1) b));
  }

  -- no difference
  pub nowhere : i ≡ min (length a) (length b) → length a ≡ length b → a ≡ b
  nowhere h d = sym (take_all i a (omega (arith, h, d))) ∙ (e ∙ take_all i b (omega (arith, h, d)))

  -- one more byte that is the same
  pub further : i < length a → i < length b → get_or a i 0 ≡ get_or b i 0 → take (i + 1) a ≡ take (i + 1) b
  further h k s = take_more a i 0 h
      ∙ (ap (λ (v : List ℕ). v ++ get_or a i 0 ∷ []) e
      ∙ (ap (λ (v : ℕ). take i b ++ v ∷ []) s ∙ sym (take_more b i 0 k)))

-- in slices that are as long as one another, the index is that of a byte
pub is_inside : (a b : List ℕ) (i : ℕ) → length a ≡ length b → DiffersAt a b i → i < length a
is_inside a b i e d = elim (cases_lt i (length a)) [
  | inl h ↦ h
  | inr h ↦ absurd (d.differs (take_all (i + 1) a (omega (arith, h))
      ∙ (sym (take_all i a h) ∙ (d.same_before ∙ (take_all i b (omega (arith, h, e))
      ∙ sym (take_all (i + 1) b (omega (arith, h, e))))))))
]

-- what follows changes nothing
pub before_rests : (a b p q : List ℕ) (i : ℕ) → length a ≡ length b → DiffersAt a b i → DiffersAt (a ++ p) (b ++ q) i
before_rests a b p q i e d =
    let h : i < length a = is_inside a b i e d in
    record {
      within_a = omega (arith, h, length-append a p);
      within_b = omega (arith, h, e, length-append b q);
      same_before = take-append-le i a p (omega (arith, h))
          ∙ (d.same_before ∙ sym (take-append-le i b q (omega (arith, h, e))));
      differs = λ t. d.differs (sym (take-append-le (i + 1) a p (omega (arith, h)))
          ∙ (t ∙ take-append-le (i + 1) b q (omega (arith, h, e))));
    }

-- the same bytes before both
pub behind_same : (f a b : List ℕ) (i : ℕ) → DiffersAt a b i → DiffersAt (f ++ a) (f ++ b) (length f + i)
behind_same f a b i d = record {
  within_a = omega (arith, d.within_a, length-append f a);
  within_b = omega (arith, d.within_b, length-append f b);
  same_before = take-append-add f a i
      ∙ (ap (λ (v : List ℕ). f ++ v) d.same_before ∙ sym (take-append-add f b i));
  differs = λ t. d.differs (append_cancel_left f (take (i + 1) a) (take (i + 1) b)
      (sym (take-append-add f a (i + 1)) ∙ (ap (λ (n : ℕ). take n (f ++ a)) (omega arith)
      ∙ (t ∙ (ap (λ (n : ℕ). take n (f ++ b)) (omega arith) ∙ take-append-add f b (i + 1))))));
}

-- a slice that has ended beside one that has not
pub at_once : (a : List ℕ) (n : ℕ) → 0 < length a → DiffersAt a (take n []) 0
at_once a n h = record {
  within_a = omega arith;
  within_b = omega arith;
  same_before = refl;
  differs = λ t.
      let none : List ℕ = [] in
      let l : length (take n none) ≡ min n (length none) = length-take n none in
      let k : length (take 1 (take n none)) ≡ min 1 (length (take n none)) = length-take 1 (take n none) in
      let m : length (take 1 a) ≡ min 1 (length a) = length-take 1 a in
      let s : length (take 1 a) ≡ length (take 1 (take n none)) = ap length t in
      omega (arith, h, s, l, k, m);
}
