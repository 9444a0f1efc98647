-- What is before the last of some bytes.
use Rattle.std.proofs.Common.{◌≡◌, ℕ, zero, suc, eqb, cond, true, false, List, [], ◌∷◌, length, take, refl, sym}
use Rattle.std.proofs.Common.{ap, ◌∙◌, ◌<◌, arith, ◌||◌, Bool}
use Rattle.std.specs.List.{list_any}
use Rattle.memchr.specs.Find.{Nowhere, NoneAfter, Passes, is_byte}
use Rattle.build_commands.specs.Fitting.{before_last}

-- no byte is b
nowhere : (b : ℕ) (xs : List ℕ) → Nowhere (Passes (is_byte b) xs) 0 (length xs) → list_any (λ y. eqb y b) xs ≡ false
nowhere b [] h = refl
nowhere b (x ∷ xs) h = elim (eqb x b) as (λ t. eqb x b ≡ t → t || list_any (λ y. eqb y b) xs ≡ false) [
  | true ↦ λ e. absurd (h zero (omega arith) (omega arith) e)
  | false ↦ λ e. nowhere b xs (λ k i j p. h (suc k) (omega arith) (omega (arith, j)) p)
] refl

pub before_none : (b : ℕ) (xs : List ℕ) → Nowhere (Passes (is_byte b) xs) 0 (length xs) → before_last b xs ≡ []
before_none b [] h = refl
before_none b (x ∷ xs) h =
    ap (λ (t : Bool). cond t (x ∷ before_last b xs) [])
    (nowhere b xs (λ k i j p. h (suc k) (omega arith) (omega (arith, j)) p))

-- this byte is b
somewhere : (b i : ℕ) (xs : List ℕ) → i < length xs → Passes (is_byte b) xs i → list_any (λ y. eqb y b) xs ≡ true
somewhere b i [] l p = absurd (omega (arith, l))
somewhere b zero (x ∷ xs) l p = rw p refl
somewhere b (suc i) (x ∷ xs) l p = elim (eqb x b) as (λ t. t || list_any (λ y. eqb y b) xs ≡ true) [
  | true ↦ refl
  | false ↦ somewhere b i xs (omega (arith, l)) p
]

pub before_at : (b : ℕ) (xs : List ℕ) (i : ℕ) → NoneAfter (Passes (is_byte b) xs) 0 (length xs) i
    → Passes (is_byte b) xs i → take i xs ≡ before_last b xs
before_at b [] i h p = absurd (omega (arith, h.high))
before_at b (x ∷ xs) zero h p =
    ap (λ (t : Bool). cond t (x ∷ before_last b xs) [])
    (sym (nowhere b xs (λ k i j q. h.after (suc k) (omega arith) (omega (arith, j)) q)))
before_at b (x ∷ xs) (suc i) h p =
    ap (λ (ys : List ℕ). x ∷ ys) (before_at b xs i later p)
    ∙ ap (λ (t : Bool). cond t (x ∷ before_last b xs) []) (sym (somewhere b i xs later.high p)) where
      later : NoneAfter (Passes (is_byte b) xs) 0 (length xs) i
      later = record {
        low = omega arith;
        high = omega (arith, h.high);
        after = λ k l m q. h.after (suc k) (omega (arith, l)) (omega (arith, m)) q;
      }
