-- The way to what a path names, the number of its names and the last of them, from its bytes.
use Rattle.std.proofs.Common.{◌≡◌, ℕ, zero, suc, ◌+◌, eqb, cond, true, false, List, [], ◌∷◌, length, drop, refl, sym}
use Rattle.std.proofs.Common.{ap, ◌∙◌, arith}
use Rattle.memchr.specs.Find.{Nowhere, NoneAfter, Passes, is_byte}
use Rattle.plan_rows.specs.Keyed.{behind}

-- if no byte is b, all of it
pub behind_none : (b : ℕ) (all xs : List ℕ) → Nowhere (Passes (is_byte b) xs) 0 (length xs) → behind b all xs ≡ all
behind_none b all [] h = refl
behind_none b all (x ∷ xs) h = elim (eqb x b) as (λ t. eqb x b ≡ t → cond t (behind b xs xs) (behind b all xs) ≡ all) [
  | true ↦ λ e. absurd (h zero (omega arith) (omega arith) e)
  | false ↦ λ e. behind_none b all xs (λ k i j p. h (suc k) (omega arith) (omega (arith, j)) p)
] refl

-- from the last b on
behind_suc : (b : ℕ) (all xs : List ℕ) (i : ℕ) → NoneAfter (Passes (is_byte b) xs) 0 (length xs) i
    → Passes (is_byte b) xs i → drop (suc i) xs ≡ behind b all xs
behind_suc b all [] i h p = absurd (omega (arith, h.high))
behind_suc b all (x ∷ xs) zero h p =
    rw p (sym (behind_none b xs xs (λ k i j q. h.after (suc k) (omega arith) (omega (arith, j)) q)))
behind_suc b all (x ∷ xs) (suc i) h p =
    elim (eqb x b) as (λ t. drop (suc i) xs ≡ cond t (behind b xs xs) (behind b all xs)) [
      | true ↦ behind_suc b xs xs i later p
      | false ↦ behind_suc b all xs i later p
    ] where
      later : NoneAfter (Passes (is_byte b) xs) 0 (length xs) i
      later = record {
        low = omega arith;
        high = omega (arith, h.high);
        after = λ k l m q. h.after (suc k) (omega (arith, l)) (omega (arith, m)) q;
      }

one_more : (i : ℕ) → i + 1 ≡ suc i
one_more i = omega arith

pub behind_at : (b : ℕ) (all xs : List ℕ) (i : ℕ) → NoneAfter (Passes (is_byte b) xs) 0 (length xs) i
    → Passes (is_byte b) xs i → drop (i + 1) xs ≡ behind b all xs
behind_at b all xs i h p = ap (λ (n : ℕ). drop n xs) (one_more i) ∙ behind_suc b all xs i h p
