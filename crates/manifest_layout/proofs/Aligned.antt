-- Alignments and contents, whatever the format.
use Rattle.std.proofs.Common.{◌≡◌, ◌≢◌, ℕ, zero, suc, ◌||◌, ◌*◌, ◌<◌, ◌≤◌, ◌==◌, max, true, false, inl, inr, List, []}
use Rattle.std.proofs.Common.{◌∷◌, length, map, get_or, refl, sym, subst, arith}
use Rattle.std.proofs.lemmas.Bool.{eqb-true, cases_lt}
use Rattle.std.proofs.lemmas.Bool.Decides.{eqb_tells}
use Rattle.std.specs.List.{AllByRecursion as Every, list_any}
use Rattle.manifest.specs.Grammar.{is_align}

-- a multiple of 4, and of 16 if it is no less than 16
pub record IsAligned (n : ℕ) : Type 0 where
  pub fours : ℕ
  pub some_fours : 0 < fours
  pub of_four : n ≡ 4 * fours
  pub sixteens : ℕ
  pub some : 0 < sixteens
  pub of_sixteen : max 16 n ≡ 16 * sixteens
  pub times : ℕ
  pub of_times : max 16 n ≡ times * n

pub four_aligned : IsAligned 4
four_aligned = record {
  fours = 1;
  some_fours = omega arith;
  of_four = refl;
  sixteens = 1;
  some = omega arith;
  of_sixteen = refl;
  times = 4;
  of_times = refl;
}

one_of : (n : ℕ) (ks : List ℕ) → list_any (λ k. n == k) ks ≡ true → Every IsAligned ks → IsAligned n
one_of n [] h a = absurd (cc)
one_of n (k ∷ ks) h a = elim (n == k) as (λ t. (n == k) ≡ t → (t || list_any (λ j. n == j) ks) ≡ true → IsAligned n) [
  | true ↦ λ e g. subst IsAligned (sym (eqb-true n k e)) a.0
  | false ↦ λ e g. one_of n ks g a.1
] refl h

aligned : (f s t : ℕ) (n : ℕ) → 0 < f → n ≡ 4 * f → 0 < s → max 16 n ≡ 16 * s → max 16 n ≡ t * n → IsAligned n
aligned f s t n p e q g u =
    record { fours = f; some_fours = p; of_four = e; sixteens = s; some = q; of_sixteen = g; times = t; of_times = u }

pub is_aligned : (n : ℕ) → is_align n ≡ true → IsAligned n
is_aligned n h =
    one_of n (4 ∷ 8 ∷ 16 ∷ 32 ∷ 64 ∷ 128 ∷ 256 ∷ 512 ∷ 1024 ∷ 2048 ∷ 4096 ∷ 8192 ∷ 16384 ∷ 32768 ∷ 65536 ∷ []) h (
      four_aligned,
      (
        aligned 2 1 2 8 (omega arith) refl (omega arith) refl refl,
        (
          aligned 4 1 1 16 (omega arith) refl (omega arith) refl refl,
          (
            aligned 8 2 1 32 (omega arith) refl (omega arith) refl refl,
            (
              aligned 16 4 1 64 (omega arith) refl (omega arith) refl refl,
              (
                aligned 32 8 1 128 (omega arith) refl (omega arith) refl refl,
                (
                  aligned 64 16 1 256 (omega arith) refl (omega arith) refl refl,
                  (
                    aligned 128 32 1 512 (omega arith) refl (omega arith) refl refl,
                    (
                      aligned 256 64 1 1024 (omega arith) refl (omega arith) refl refl,
                      (
                        aligned 512 128 1 2048 (omega arith) refl (omega arith) refl refl,
                        (
                          aligned 1024 256 1 4096 (omega arith) refl (omega arith) refl refl,
                          (
                            aligned 2048 512 1 8192 (omega arith) refl (omega arith) refl refl,
                            (
                              aligned 4096 1024 1 16384 (omega arith) refl (omega arith) refl refl,
                              (
                                aligned 8192 2048 1 32768 (omega arith) refl (omega arith) refl refl,
                                (
                                  aligned 16384 4096 1 65536 (omega arith) refl (omega arith) refl refl,
                                  tt,
                                ),
                              ),
                            ),
                          ),
                        ),
                      ),
                    ),
                  ),
                ),
              ),
            ),
          ),
        ),
      ),
    )

-- the length of a source's contents
pub size_is : (cs : List (List ℕ)) (k : ℕ) → length (get_or cs k []) ≡ get_or (map length cs) k 0
size_is [] k = refl
size_is (c ∷ cs) zero = refl
size_is (c ∷ cs) (suc k) = size_is cs k

-- from what is not refuted
pub equal_by : (a b : ℕ) → (a ≢ b → ⊥) → a ≡ b
equal_by a b h = elim (eqb_tells a b) [ inl t ↦ t.1 | inr t ↦ absurd (h t.1) ]

pub below_by : (a b : ℕ) → (a < b → ⊥) → b ≤ a
below_by a b h = elim (cases_lt a b) [ inl l ↦ absurd (h l) | inr l ↦ l ]

pub under_by : (a b : ℕ) → (a ≤ b → ⊥) → b < a
under_by a b h = elim (cases_lt b a) [ inl l ↦ l | inr l ↦ absurd (h l) ]
