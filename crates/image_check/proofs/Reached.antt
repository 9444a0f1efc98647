-- A file and any front of it that has the bytes up to what the first 76 name are alike to an image.
use Rattle.std.proofs.Common.{◌≡◌, ℕ, ◌%◌, ◌^◌, ◌≤◌, max, min, Bool, true, false, ◌==◌, if◌then◌else◌, List, length}
use Rattle.std.proofs.Common.{take, inl, inr, sym, ap, ap₂, subst, ◌∙◌, arith, length-take, take-take, take_all}
use Rattle.std.proofs.lemmas.List.{take_min}
use Rattle.std.proofs.lemmas.Bool.{cases_Bool, false≢true, cond-true, cond-false}
use Rattle.std.proofs.Math.Nat.{min_comm}
use Rattle.rom_fields.specs.declared.check_error.CheckError.TheVariants.{Fault}
use Rattle.cramfs_format.specs.declared.order.Order.{Order}
use Rattle.cramfs_format.specs.Superblock.{order_of, has_crc, size_word, accessible_size}
use Rattle.romfs_format.specs.Tree.{full_size}
use Rattle.formats.specs.Begins.{BeginsRomfs, BeginsCramfs}
use Rattle.image_check.proofs.Formats.{apart}
use Rattle.formats.specs.Reach.{Reaches, short, romfs, cramfs, neither, size_in}
use Rattle.image_check.proofs.Fronts.{front_be, front_word, front_order, front_long, front_short, front_test}
use Rattle.image_check.proofs.Fronts.{front_romfs, front_cramfs}
use Rattle.image_check.proofs.Romfs as of_romfs
use Rattle.image_check.proofs.Cramfs as of_cramfs
use Rattle.image_check.proofs.Both.{Alike}

-- of romfs, if the front goes to the full size
romfs_alike : (b : List ℕ) (n : ℕ) → 76 ≤ n → full_size b ≤ n → of_romfs.Alike b (take n b)
romfs_alike b n l reach =
    let s : full_size (take n b) ≡ full_size b = front_be b n 8 (omega arith) in
    let e = length-take n b in
    record {
      long = front_long 32 n b (omega arith);
      few = front_short 32 n b (omega arith);
      begins = sym (take-take 8 n b (omega arith));
      size = (
        λ h. ((let x = h.0 in omega arith), (let y = h.1 in omega arith)),
        λ h. ((let x = h.0 in omega arith), (let y = h.1 in omega arith)),
      );
      bytes = sym (ap (λ (k : ℕ). take k (take n b)) s ∙ take-take (full_size b) n b reach);
    }

-- what a cramfs image's superblock says of its size
same_flag : (o : Order) (b : List ℕ) (n : ℕ) → 12 ≤ n → has_crc o (take n b) ≡ has_crc o b
same_flag o b n l = ap (λ (w : ℕ). w % 2 == 1) (front_word o b n 8 l)

same_word : (o : Order) (b : List ℕ) (n : ℕ) → 12 ≤ n → size_word o (take n b) ≡ size_word o b
same_word o b n l = front_word o b n 4 (omega arith)

same_size : (o : Order) (b : List ℕ) (n : ℕ) → 12 ≤ n → size_in o (take n b) ≡ size_in o b
same_size o b n l = ap₂ (λ (c : Bool) (s : ℕ). if c then max 76 s else 2 ^ 28) (same_flag o b n l) (same_word o b n l)

-- the number of accessible bytes, if the size is stored, and if it is not
stored_size : (o : Order) (b : List ℕ) → has_crc o b ≡ true → accessible_size o b ≡ size_word o b
unfolding accessible_size
stored_size o b c = cond-true (has_crc o b) (size_word o b) (min (length b) (2 ^ 28)) c

open_size : (o : Order) (b : List ℕ) → has_crc o b ≡ false → accessible_size o b ≡ min (length b) (2 ^ 28)
unfolding accessible_size
open_size o b c = cond-false (has_crc o b) (size_word o b) (min (length b) (2 ^ 28)) c

-- the first m bytes, by the length
whole_front : (b : List ℕ) (m : ℕ) → take (min (length b) m) b ≡ take m b
whole_front b m = ap (λ (k : ℕ). take k b) (min_comm (length b) m) ∙ take_min m b

open_front : (b : List ℕ) (m n : ℕ) → m ≤ n → take (min (length (take n b)) m) (take n b) ≡ take (min (length b) m) b
open_front b m n l = whole_front (take n b) m ∙ take-take m n b l ∙ sym (whole_front b m)

cramfs_stored : (o : Order) (b : List ℕ) (n : ℕ) → 76 ≤ n → has_crc o b ≡ true → size_word o b ≤ n
    → of_cramfs.Alike o b (take n b)
cramfs_stored o b n l c reach =
    let f : has_crc o (take n b) ≡ has_crc o b = same_flag o b n (omega arith) in
    let s : size_word o (take n b) ≡ size_word o b = same_word o b n (omega arith) in
    let e = length-take n b in
    record {
      long = front_long 76 n b l;
      few = front_short 76 n b l;
      begins = sym (front_word o b n 0 (omega arith));
      size = (
        λ h d. ((let x = (h c).0 in omega arith), (let y = (h c).1 in omega arith)),
        λ h d. ((let x = (h (f ∙ c)).0 in omega arith), (let y = (h (f ∙ c)).1 in omega arith)),
      );
      bytes = sym (ap (λ (k : ℕ). take k (take n b)) (stored_size o (take n b) (f ∙ c) ∙ s)
          ∙ take-take (size_word o b) n b reach ∙ ap (λ (k : ℕ). take k b) (sym (stored_size o b c)));
    }

cramfs_open : (o : Order) (b : List ℕ) (n : ℕ) → 76 ≤ n → has_crc o b ≡ false → 2 ^ 28 ≤ n
    → of_cramfs.Alike o b (take n b)
cramfs_open o b n l c reach =
    let f : has_crc o (take n b) ≡ has_crc o b = same_flag o b n (omega arith) in
    record {
      long = front_long 76 n b l;
      few = front_short 76 n b l;
      begins = sym (front_word o b n 0 (omega arith));
      size = (λ h d. absurd (false≢true (sym (f ∙ c) ∙ d)), λ h d. absurd (false≢true (sym c ∙ d)));
      bytes = sym (ap (λ (k : ℕ). take k (take n b)) (open_size o (take n b) (f ∙ c)) ∙ open_front b (2 ^ 28) n reach
          ∙ ap (λ (k : ℕ). take k b) (sym (open_size o b c)));
    }

cramfs_alike : (o : Order) (b : List ℕ) (r n : ℕ) → r ≡ size_in o b → r ≤ n → (76 ≤ n) × of_cramfs.Alike o b (take n b)
cramfs_alike o b r n e far = elim (cases_Bool (has_crc o b)) [
  | inl c ↦
      let m : r ≡ max 76 (size_word o b) = e ∙ cond-true (has_crc o b) (max 76 (size_word o b)) (2 ^ 28) c in
      let l : 76 ≤ n = omega arith in
      (l, cramfs_stored o b n l c (omega arith))
  | inr c ↦
      let m : r ≡ 2 ^ 28 = e ∙ cond-false (has_crc o b) (max 76 (size_word o b)) (2 ^ 28) c in
      let l : 76 ≤ n = omega arith in
      (l, cramfs_open o b n l c (omega arith))
]

-- a file and its front begin alike, if the front has 76 bytes at least
alike_by : (b : List ℕ) (n : ℕ) → 76 ≤ n → (BeginsRomfs b → of_romfs.Alike b (take n b))
    → (BeginsCramfs b → of_cramfs.Alike (order_of b) b (take n b)) → Alike b (take n b)
alike_by b n l r c = record {
  in_romfs = r;
  in_cramfs = c;
  begins_romfs = front_romfs b n (omega arith);
  begins_cramfs = front_cramfs b n (omega arith);
  order = sym (front_order b n (omega arith));
  other = ap (λ (x : Bool). Fault (if x then 2 else 3) 0) (front_test 8 n b (omega arith));
}

pub alike : (b : List ℕ) (r n : ℕ) → Reaches (take 76 b) r → r ≤ n → Alike b (take n b)
alike b r n (short l e) far =
    let s = length-take 76 b in
    let same : b ≡ take n b = sym (take_all n b (omega arith)) in
    alike_by b n (omega arith) (λ h. subst (of_romfs.Alike b) same (of_romfs.alike_self b))
    (λ h. subst (of_cramfs.Alike (order_of b) b) same (of_cramfs.alike_self (order_of b) b))
alike b r n (romfs l h e) far =
    let begins = (front_romfs b 76 (omega arith)).1 h in
    let s : full_size (take 76 b) ≡ full_size b = front_be b 76 8 (omega arith) in
    let m : 76 ≤ n = omega arith in
    alike_by b n m (λ h. romfs_alike b n m (omega arith)) (λ c. absurd (apart (order_of b) b begins c.1))
alike b r n (cramfs l h e) far =
    let begins = (front_cramfs b 76 (omega arith)).1 h in
    let size : r ≡ size_in (order_of b) b =
    e ∙ ap (λ (o : Order). size_in o (take 76 b)) (front_order b 76 (omega arith))
    ∙ same_size (order_of b) b 76 (omega arith) in
    let a = cramfs_alike (order_of b) b r n size far in
    alike_by b n a.0 (λ h. absurd (apart (order_of b) b h begins.1)) (λ c. a.1)
alike b r n (neither l f g e) far =
    alike_by b n (omega arith) (λ h. absurd (f ((front_romfs b 76 (omega arith)).0 h)))
    (λ h. absurd (g ((front_cramfs b 76 (omega arith)).0 h)))
