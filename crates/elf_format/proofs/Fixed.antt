-- The segments that cannot be written, one after the other.
use Rattle.std.proofs.Common.{◌≡◌, ℕ, zero, suc, ◌+◌, ◌<◌, Bool, true, false, List, refl, sym, ap, ◌∙◌, arith, inl, inr}
use Rattle.std.proofs.Common.{Result, Ok}
use Rattle.std.specs.Prelude.{if◌then◌else◌}
use Rattle.std.proofs.lemmas.Bool.{cases_lt}
use Rattle.elf_format.specs.Header.{header_of, program_at}
use Rattle.elf_format.specs.Mapped.{fixed_among, fixed_by, has_fixed, is_executed, is_fixed}
use Rattle.elf_format.specs.declared.header.Header.{Header}

pub some_fixed : (b : List ℕ) (h : Header) (i n : ℕ) → i < n → is_fixed (program_at b h i) ≡ true
    → fixed_among b h n ≡ true
some_fixed b h i zero k r = absurd (omega arith)
some_fixed b h i (suc n) k r =
    elim (cases_lt i n) [
      | inl s ↦ earlier (is_fixed (program_at b h n)) (some_fixed b h i n s r)
      | inr s ↦
          let z : n ≡ i = omega arith in
          rw z (rw r refl)
    ]
  where
    earlier : {x : Bool} (t : Bool) → x ≡ true → (if t then true else x) ≡ true
    earlier true e = refl
    earlier false e = e

pub none_fixed : (b : List ℕ) (h : Header) (n : ℕ) → is_fixed (program_at b h n) ≡ false
    → fixed_among b h n ≡ false → fixed_among b h (n + 1) ≡ false
none_fixed b h n r e =
    let k : n + 1 ≡ suc n = omega arith in
    rw (k, r) e

-- the answer by what was read
pub fixed_found : (b : List ℕ) (h : Header) (n : ℕ) (y : Bool) → Ok h ≡ header_of b → is_executed h.kind ≡ true
    → n ≡ h.count → fixed_among b h n ≡ y → y ≡ has_fixed b
unfolding has_fixed
fixed_found b h n y e x k m =
    let z : fixed_by b (Ok h) ≡ fixed_among b h h.count = rw x refl in
    sym m ∙ (ap (fixed_among b h) k ∙ (sym z ∙ ap (fixed_by b) e))

pub not_executed : (b : List ℕ) (h : Header) → Ok h ≡ header_of b → is_executed h.kind ≡ false → false ≡ has_fixed b
unfolding has_fixed
not_executed b h e x =
    let z : fixed_by b (Ok h) ≡ false = rw x refl in
    sym z ∙ ap (fixed_by b) e
