-- The program headers for dynamic linking, one after the other.
use Rattle.std.proofs.Common.{◌≡◌, ℕ, zero, suc, ◌+◌, ◌<◌, Bool, true, false, List, refl, arith, inl, inr}
use Rattle.std.specs.Prelude.{if◌then◌else◌}
use Rattle.std.proofs.lemmas.Bool.{cases_lt}
use Rattle.elf_format.specs.Header.{program_at}
use Rattle.elf_format.specs.declared.header.Header.{Header}
use Rattle.program_pages.specs.Counted.{dynamic_among, is_dynamic}

pub some_dynamic : (b : List ℕ) (h : Header) (i n : ℕ) → i < n → is_dynamic (program_at b h i) ≡ true
    → dynamic_among b h n ≡ true
some_dynamic b h i zero k r = absurd (omega arith)
some_dynamic b h i (suc n) k r =
    elim (cases_lt i n) [
      | inl s ↦ earlier (is_dynamic (program_at b h n)) (some_dynamic b h i n s r)
      | inr s ↦
          let z : n ≡ i = omega arith in
          rw z (rw r refl)
    ]
  where
    earlier : {x : Bool} (t : Bool) → x ≡ true → (if t then true else x) ≡ true
    earlier true e = refl
    earlier false e = e

pub none_dynamic : (b : List ℕ) (h : Header) (n : ℕ) → is_dynamic (program_at b h n) ≡ false
    → dynamic_among b h n ≡ false → dynamic_among b h (n + 1) ≡ false
none_dynamic b h n r e =
    let k : n + 1 ≡ suc n = omega arith in
    rw (k, r) e
