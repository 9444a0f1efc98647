-- The entries of a table for dynamic linking.
use Rattle.std.proofs.Common.{◌≡◌, ◌==◌, ℕ, Bool, true, false, List, zero, suc, ◌+◌, ◌-◌, ◌*◌, ◌<◌, ◌≤◌, arith}
use Rattle.std.proofs.Common.{refl, sym, ap, ◌∙◌, inl, inr, Ok}
use Rattle.std.specs.Prelude.{if◌then◌else◌}
use Rattle.std.proofs.lemmas.Bool.{cases_lt, ne_eqb}
use Rattle.elf_format.specs.Dynamic.{file_moves_text, has_text_tag, is_text_tag, moves_among, moves_by, moves_text}
use Rattle.elf_format.specs.Header.{header_of, number, program_at, width}
use Rattle.elf_format.specs.declared.header.Header.{Header}
use Rattle.elf_format.specs.declared.numbers.Class.{Class}
use Rattle.elf_format.specs.declared.numbers.Order.{Order}
use Rattle.elf_format.specs.declared.numbers.Class.TheVariants.{Bits32, Bits64}

pub entry_within : (c : Class) (n at len : ℕ) → 0 < n → at + n * (2 * width c) ≤ len → at + 2 * width c ≤ len
entry_within Bits32 n at len s h = omega arith
entry_within Bits64 n at len s h = omega arith

pub entries_on : (c : Class) (n at len : ℕ) → 0 < n → at + n * (2 * width c) ≤ len
    → (at + 2 * width c) + (n - 1) * (2 * width c) ≤ len
entries_on Bits32 n at len s h = omega arith
entries_on Bits64 n at len s h = omega arith

passed : (s t x : Bool) → s ≡ false → t ≡ false → x ≡ (if s then false else (if t then true else x))
passed s t x e f = rw (e, f) refl

-- an entry that is passed over
pub goes_on : (c : Class) (o : Order) (b : List ℕ) (at left tag value : ℕ) → 0 < left
    → tag ≡ number o (width c) b at → value ≡ number o (width c) b (at + width c) → (tag ≡ 0 → ⊥)
    → is_text_tag tag value ≡ false
    → has_text_tag c o b (left - 1) (at + 2 * width c) ≡ has_text_tag c o b left at
goes_on c o b at zero tag value s t v d f = absurd (omega arith)
goes_on c o b at (suc n) tag value s t v d f =
    let k : suc n - 1 ≡ n = omega arith in
    let z : (number o (width c) b at == 0) ≡ false = ne_eqb (number o (width c) b at) 0 (λ e. d (t ∙ e)) in
    let w : is_text_tag (number o (width c) b at) (number o (width c) b (at + width c)) ≡ false =
    sym (ap (λ (x : ℕ). is_text_tag x value) t ∙ ap (λ (x : ℕ). is_text_tag (number o (width c) b at) x) v) ∙ f in
    ap (λ (m : ℕ). has_text_tag c o b m (at + 2 * width c)) k
    ∙ passed (number o (width c) b at == 0)
    (is_text_tag (number o (width c) b at) (number o (width c) b (at + width c)))
    (has_text_tag c o b n (at + 2 * width c)) z w

-- one of the first n program headers
pub some_moves : (b : List ℕ) (h : Header) (i n : ℕ) → i < n → moves_text h.class h.order b (program_at b h i) ≡ true
    → moves_among b h n ≡ true
some_moves b h i zero k r = absurd (omega arith)
some_moves b h i (suc n) k r =
    elim (cases_lt i n) [
      | inl s ↦ earlier (moves_text h.class h.order b (program_at b h n)) (some_moves b h i n s r)
      | inr s ↦
          let z : n ≡ i = omega arith in
          rw z (rw r refl)
    ]
  where
    earlier : {x : Bool} (t : Bool) → x ≡ true → (if t then true else x) ≡ true
    earlier true e = refl
    earlier false e = e

pub none_more : (b : List ℕ) (h : Header) (n : ℕ) → moves_text h.class h.order b (program_at b h n) ≡ false
    → moves_among b h n ≡ false → moves_among b h (n + 1) ≡ false
none_more b h n r e =
    let k : n + 1 ≡ suc n = omega arith in
    rw (k, r) e

-- the answer by what was read
pub moves_found : (b : List ℕ) (h : Header) (n : ℕ) (y : Bool) → Ok h ≡ header_of b → n ≡ h.count
    → moves_among b h n ≡ y → y ≡ file_moves_text b
unfolding file_moves_text
moves_found b h n y e k m = sym m ∙ (ap (moves_among b h) k ∙ ap (moves_by b) e)
