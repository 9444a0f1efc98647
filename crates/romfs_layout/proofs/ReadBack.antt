-- A header that was laid is read back.
use Rattle.rom_fields.proofs.Parts.{HasAt-before, HasAt-after, HasAt-moved}
use Rattle.std.proofs.Common.{◌≡◌, ◌≢◌, ℕ, zero, suc, ◌+◌, ◌-◌, ◌<◌, true, false, eqb, cond, List, [], ◌∷◌, ◌++◌}
use Rattle.std.proofs.Common.{length, drop, take, replicate, refl, ap, ◌∙◌, arith, append_assoc, length-append}
use Rattle.std.proofs.lemmas.List.{length-replicate, take_at}
use Rattle.std.proofs.lemmas.Bool.{eqb-true}
use Rattle.std.specs.List.{AllByRecursion}
use Rattle.byteorder.specs.Endian.{big_bytes}
use Rattle.rom_fields.specs.Words.{words_sum, words_total, part_of}
use Rattle.romfs_format.specs.Record.{before_zero, name_of, size_of, end_of, pad16}
use Rattle.rom_fields.specs.Parts.{HasAt, HasParts}
use Rattle.rom_fields.specs.Sums.{balance, balanced}
use Rattle.manifest_tree.specs.Names.{bytes_of}
use Rattle.romfs_layout.specs.Layout.{Header, header_bytes, padded_name, record_len, parts}
use Rattle.romfs_layout.specs.Reads.{Reads, IsHeader}
use Rattle.rom_fields.proofs.Words.{words_sum-balanced, word_be-has}

before_zero_ended : (name rest : List ℕ) → AllByRecursion (λ x. x ≢ 0) name → before_zero (name ++ 0 ∷ rest) ≡ name
before_zero_ended [] rest h = refl
before_zero_ended (x ∷ xs) rest h =
    let ih = before_zero_ended xs rest h.1 in
    elim (eqb x 0) as (λ t. eqb x 0 ≡ t → cond t [] (x ∷ before_zero (xs ++ 0 ∷ rest)) ≡ x ∷ xs)
    [ true ↦ λ e. absurd (h.0 (eqb-true x 0 e)) | false ↦ λ e. ap (λ (ys : List ℕ). x ∷ ys) ih ] refl

replicate_more : (k : ℕ) → 0 < k → replicate {A = ℕ} k 0 ≡ 0 ∷ replicate (k - 1) 0
replicate_more zero h = absurd (omega arith)
replicate_more (suc k) h = let e : k ≡ suc k - 1 = omega arith in ap (λ (n : ℕ). 0 ∷ replicate n 0) e

pub length-padded_name : (name : List ℕ) → length (padded_name name) ≡ pad16 (length name + 1)
unfolding padded_name
length-padded_name name = simp (length-append, length-replicate) (omega arith)

pub length-header : (next spec size : ℕ) (name : List ℕ) → length (header_bytes next spec size name) ≡ record_len name
unfolding header_bytes balanced
length-header next spec size name = let e = length-padded_name name in omega (arith, e)

-- the name is before its zeros
pub name_of-has : (b : List ℕ) (p : ℕ) (name : List ℕ) → AllByRecursion (λ x. x ≢ 0) name
    → HasAt b (p + 16) (padded_name name) → name_of b p ≡ name
unfolding name_of padded_name
name_of-has b p name h (more, e) =
    let k = pad16 (length name + 1) - length name in
    let z = replicate_more k (omega arith) in
    let s : drop (p + 16) b ≡ name ++ (0 ∷ (replicate (k - 1) 0 ++ more)) =
    e ∙ append_assoc name (replicate k 0) more ∙ ap (λ (x : List ℕ). name ++ (x ++ more)) z in
    ap before_zero s ∙ before_zero_ended name (replicate (k - 1) 0 ++ more) h

-- an item that was laid is read back
pub header_reads : (b : List ℕ) (contents : List (List ℕ)) (i : Header) → IsHeader contents i
    → HasAt b i.place (header_bytes i.next i.spec i.size i.name)
    → HasAt b (i.place + record_len i.name) (bytes_of contents i.fill) → Reads b contents i
unfolding header_bytes balanced size_of end_of
header_reads b contents i w has laid =
    let p = i.place in
    let name = i.name in
    let numbers = big_bytes 4 i.next ++ (big_bytes 4 i.spec ++ big_bytes 4 i.size) in
    let sum_word = big_bytes 4 (balance (words_total numbers + words_total (padded_name name))) in
    let small = w.next in
    let small_spec = w.spec in
    let small_size = w.size in
    let h0 = HasAt-before b p numbers (sum_word ++ padded_name name) has in
    let h4 = HasAt-after b p (big_bytes 4 i.next) (big_bytes 4 i.spec ++ big_bytes 4 i.size) h0 in
    let h8 = HasAt-moved b (p + 4 + 4) (p + 8) (big_bytes 4 i.size) (omega arith)
    (HasAt-after b (p + 4) (big_bytes 4 i.spec) (big_bytes 4 i.size) h4) in
    let h12 = HasAt-after b p numbers (sum_word ++ padded_name name) has in
    let h16 = HasAt-moved b (p + 12 + 4) (p + 16) (padded_name name) (omega arith)
    (HasAt-after b (p + 12) sum_word (padded_name name) h12) in
    let n = name_of-has b p name w.name.no_zero h16 in
    record {
      word = word_be-has b p i.next (big_bytes 4 i.spec ++ big_bytes 4 i.size) (omega arith) h0;
      spec = word_be-has b (p + 4) i.spec (big_bytes 4 i.size) (omega arith) h4;
      size = word_be-has b (p + 8) i.size [] (omega arith) h8;
      name = n;
      ends = rw n (omega arith);
      sum =
          let t : part_of b p (record_len name) ≡ header_bytes i.next i.spec i.size name =
          ap (λ (x : List ℕ). take (record_len name) x) has.1
          ∙ take_at (header_bytes i.next i.spec i.size name) has.0 (record_len name)
          (length-header i.next i.spec i.size name) in
          ap words_sum t ∙ words_sum-balanced 3 numbers (padded_name name) refl;
      content = laid;
    }

pub all_read : (b : List ℕ) (contents : List (List ℕ)) (is : List Header) → AllByRecursion (IsHeader contents) is
    → HasParts b (parts contents is) → AllByRecursion (Reads b contents) is
all_read b contents [] w has = tt
all_read b contents (i ∷ is) w has = (header_reads b contents i w.0 has.0 has.1.0, all_read b contents is w.1 has.1.1)
