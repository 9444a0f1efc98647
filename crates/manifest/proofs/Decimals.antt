-- Numbers as texts, which are read as these numbers.
use Rattle.std.proofs.Common.{◌≡◌, ℕ, ◌+◌, ◌-◌, ◌*◌, ◌/◌, ◌%◌, ◌^◌, ◌<◌, ◌≤◌, eqb, nat_lt, true, false, cond, List, []}
use Rattle.std.proofs.Common.{◌∷◌, ◌++◌, get_or, Some, None, refl, sym, ap, ◌∙◌, arith, append_assoc, append-nil}
use Rattle.std.specs.Prelude.{decimal}
use Rattle.std.proofs.lemmas.Bool.{lt-ltb, le-ltb}
use Rattle.std.proofs.lemmas.Fmt.{decimal_by_steps, decimal_digit}
use Rattle.rom_fields.specs.Texts.{octal}
use Rattle.manifest.specs.Texts as read
use Rattle.manifest.specs.Texts.{is_empty, is_digit, digits_from, has_leading_zero, below}
use Rattle.manifest.proofs.Digits.{digit_step, below_small}
use Rattle.manifest.proofs.Fitting.{IsField, by_tests, clear, clear-append}

-- a digit, read
digit_of : (base d : ℕ) → base ≤ 10 → d < base → cond (is_digit base (48 + d)) (Some (48 + d - 48)) None ≡ Some d
digit_of base d h k =
    let a : nat_lt (48 + d) 48 ≡ false = le-ltb (48 + d) 48 (omega arith) in
    let b : nat_lt (48 + d) (48 + base) ≡ true = lt-ltb (48 + d) (48 + base) (omega (arith, k)) in
    let e : 48 + d - 48 ≡ d = omega arith in
    rw (a, b, e) refl

one_digit : (base n d : ℕ) (bs : List ℕ) → base ≤ 10 → d < base
    → digits_from base n ((48 + d) ∷ bs) ≡ digits_from base (n * base + d) bs
one_digit base n d bs h k = digit_step base n (48 + d) d bs (digit_of base d h k)

-- Four octal digits.

octal_sum : (m : ℕ) → m < 4096 → (((0 * 8 + m / 512 % 8) * 8 + m / 64 % 8) * 8 + m / 8 % 8) * 8 + m % 8 ≡ m
octal_sum m h = omega (arith, h)

small : (n : ℕ) → n % 8 < 8
small n = omega arith

pub octal_read : (m : ℕ) → m < 4096 → read.octal (octal m) ≡ Some m
unfolding read.octal octal
octal_read m h =
    one_digit 8 0 (m / 512 % 8) ((48 + m / 64 % 8) ∷ (48 + m / 8 % 8) ∷ (48 + m % 8) ∷ []) (omega arith)
    (small (m / 512))
    ∙ one_digit 8 (0 * 8 + m / 512 % 8) (m / 64 % 8) ((48 + m / 8 % 8) ∷ (48 + m % 8) ∷ []) (omega arith)
    (small (m / 64))
    ∙ one_digit 8 ((0 * 8 + m / 512 % 8) * 8 + m / 64 % 8) (m / 8 % 8) ((48 + m % 8) ∷ []) (omega arith) (small (m / 8))
    ∙ one_digit 8 (((0 * 8 + m / 512 % 8) * 8 + m / 64 % 8) * 8 + m / 8 % 8) (m % 8) [] (omega arith) (small m)
    ∙ ap (λ (x : ℕ). Some x) (octal_sum m h)

-- a digit is neither a space nor a line feed
digit_clear : (c d : ℕ) → c < 48 → clear c ((48 + d) ∷ []) ≡ true
unfolding clear
digit_clear c d h = let e : eqb (48 + d) c ≡ false = grind (arith, h) in rw e refl

pub octal_field : (m : ℕ) → IsField (octal m)
unfolding octal
octal_field m =
    let two = λ (c x y : ℕ) (h : c < 48). clear-append c ((48 + x) ∷ []) ((48 + y) ∷ []) (digit_clear c x h)
    (digit_clear c y h) in
    let four = λ (c : ℕ) (h : c < 48). clear-append c ((48 + m / 512 % 8) ∷ (48 + m / 64 % 8) ∷ [])
    ((48 + m / 8 % 8) ∷ (48 + m % 8) ∷ [])
    (two c (m / 512 % 8) (m / 64 % 8) h) (two c (m / 8 % 8) (m % 8) h) in
    by_tests ((48 + m / 512 % 8) ∷ (48 + m / 64 % 8) ∷ (48 + m / 8 % 8) ∷ (48 + m % 8) ∷ []) refl
    (four 32 (omega arith)) (four 10 (omega arith))

-- Decimal digits.

-- the text of a number
record Spells (n : ℕ) (ds : List ℕ) : Type 0 where
  pub field : IsField ds
  pub first : 0 < n → 48 < get_or ds 0 0
  pub plain : has_leading_zero ds ≡ false
  pub value : (bs : List ℕ) → digits_from 10 0 (ds ++ bs) ≡ digits_from 10 n bs

spells_one : (n : ℕ) → n < 10 → Spells n ((48 + n) ∷ [])
spells_one n h = record {
  field = by_tests ((48 + n) ∷ []) refl (digit_clear 32 n (omega arith)) (digit_clear 10 n (omega arith));
  first = λ k. omega (arith, k);
  plain = refl;
  value = λ bs. one_digit 10 0 n bs (omega arith) h ∙ ap (λ (x : ℕ). digits_from 10 x bs) (nothing_before n);
}
  where
    nothing_before : (n : ℕ) → 0 * 10 + n ≡ n
    nothing_before n = omega arith

some_more : (ds : List ℕ) (d : ℕ) → is_empty (ds ++ d ∷ []) ≡ false
some_more [] d = refl
some_more (b ∷ ds) d = refl

first_stays : (ds : List ℕ) (d : ℕ) → 48 < get_or ds 0 0 → 48 < get_or (ds ++ d ∷ []) 0 0
first_stays [] d h = absurd (omega (arith, h))
first_stays (b ∷ ds) d h = h

no_zero : (ds : List ℕ) → 48 < get_or ds 0 0 → has_leading_zero ds ≡ false
no_zero [] h = refl
no_zero (b ∷ []) h = refl
no_zero (b ∷ c ∷ ds) h = above b h
  where
    above : (b : ℕ) → 48 < b → eqb b 48 ≡ false
    above b h = grind (arith, h)

last_digit : (n : ℕ) → n % 10 < 10
last_digit n = omega arith

spells_more : (n : ℕ) (ds : List ℕ) → 10 ≤ n → Spells (n / 10) ds → Spells n (ds ++ ((48 + n % 10) ∷ []))
spells_more n ds h s =
    let f : 48 < get_or ds 0 0 = s.first (omega (arith, h)) in
    record {
      field = by_tests (ds ++ (48 + n % 10) ∷ []) (some_more ds (48 + n % 10))
          (clear-append 32 ds ((48 + n % 10) ∷ []) s.field.no_space (digit_clear 32 (n % 10) (omega arith)))
          (clear-append 10 ds ((48 + n % 10) ∷ []) s.field.no_feed (digit_clear 10 (n % 10) (omega arith)));
      first = λ k. first_stays ds (48 + n % 10) f;
      plain = no_zero (ds ++ (48 + n % 10) ∷ []) (first_stays ds (48 + n % 10) f);
      value = λ bs.
          ap (digits_from 10 0) (append_assoc ds ((48 + n % 10) ∷ []) bs) ∙ s.value ((48 + n % 10) ∷ bs)
          ∙ one_digit 10 (n / 10) (n % 10) bs (omega arith) (last_digit n)
          ∙ ap (λ (x : ℕ). digits_from 10 x bs) (whole n);
    }
  where
    whole : (n : ℕ) → n / 10 * 10 + n % 10 ≡ n
    whole n = omega arith

spells : (n : ℕ) → n < 2 ^ 32 → Spells n (decimal n)
spells n h = decimal_by_steps Spells spells_one spells_more n (omega (arith, h))

pub decimal_field : (n : ℕ) → n < 2 ^ 32 → IsField (decimal n)
decimal_field n h = (spells n h).field

read_if : (ds : List ℕ) (n : ℕ) → n < 2 ^ 32 → Spells n ds → read.decimal ds ≡ Some n
unfolding read.decimal
read_if ds n h s =
    let v : digits_from 10 0 ds ≡ Some n = ap (digits_from 10 0) (sym (append-nil ds)) ∙ s.value [] in
    rw (s.field.some, s.plain, v) (below_small (2 ^ 32) n h)

pub decimal_read : (n : ℕ) → n < 2 ^ 32 → read.decimal (decimal n) ≡ Some n
decimal_read n h = read_if (decimal n) n h (spells n h)

pub decimal_zero : decimal 0 ≡ 48 ∷ []
decimal_zero = decimal_digit 0 (omega arith)
