-- The entries of a layout are valid.
use Rattle.std.proofs.Common.{◌≡◌, ℕ, zero, suc, ◌+◌, ◌*◌, ◌/◌, ◌%◌, ◌^◌, ◌<◌, ◌≤◌, true, List, length, refl, arith}
use Rattle.cramfs_format.specs.Order.{word}
use Rattle.cramfs_format.specs.declared.order.Order.{Order}
use Rattle.cramfs_format.specs.Inode.{block_count, block_start, is_direct}
use Rattle.rom_fields.specs.Parts.{HasAt}
use Rattle.rom_fields.proofs.Parts.{HasAt-after, HasAt-moved}
use Rattle.cramfs_layout.specs.Layout.{word_bytes, pointers}
use Rattle.cramfs_layout.specs.Wells.{IsStored}
use Rattle.cramfs_layout.proofs.Entries.{word_has, length-word}

-- the i-th of n pointers
pub pointer_at : (o : Order) (b : List ℕ) (t place n i : ℕ) → place + 4096 * n < 2 ^ 28 + 4096 → i < n
    → HasAt b t (pointers o place n) → word o b (t + 4 * i) ≡ 3 * 2 ^ 30 + (place + 4096 * i) / 4
pointer_at o b t place zero i h l has = absurd (omega arith)
pointer_at o b t place (suc n) zero h l has =
    let r = word_has o b t (3 * 2 ^ 30 + place / 4) (pointers o (place + 4096) n) (omega arith) has in
    let e : t + 4 * 0 ≡ t = omega arith in
    let f : place + 4096 * 0 ≡ place = omega arith in
    rw (e, f) r
pointer_at o b t place (suc n) (suc i) h l has =
    let w = word_bytes o (3 * 2 ^ 30 + place / 4) in
    let len = length-word o (3 * 2 ^ 30 + place / 4) in
    let next = HasAt-moved b (t + length w) (t + 4) (pointers o (place + 4096) n) (omega (arith, len))
    (HasAt-after b t w (pointers o (place + 4096) n) has) in
    let r = pointer_at o b (t + 4) (place + 4096) n i (omega arith) (omega arith) next in
    let e : t + 4 * suc i ≡ t + 4 + 4 * i = omega arith in
    let f : place + 4096 * suc i ≡ place + 4096 + 4096 * i = omega arith in
    rw (e, f) r

-- what a pointer of a layout says
pub pointer_says : (w place : ℕ) → w ≡ 3 * 2 ^ 30 + place / 4 → place < 2 ^ 28 → place % 4 ≡ 0
    → (is_direct w ≡ true) × (block_start w ≡ place)
pointer_says w place e l even =
    let a : w / 2 ^ 31 % 2 ≡ 1 = omega (arith, e) in
    let c : w / 2 ^ 30 % 2 ≡ 1 = omega (arith, e) in
    (rw (a, c) refl, omega (arith, e))

-- a table of blocks lies there, and its blocks
pub record IsTable (o : Order) (b : List ℕ) (t size : ℕ) : Type 0 where
  pub place : ℕ
  pub table : (76 ≤ t) × (t + 4 * block_count size ≤ length b)
  pub each : (i : ℕ) → i < block_count size
      → (is_direct (word o b (t + 4 * i)) ≡ true) × (block_start (word o b (t + 4 * i)) ≡ place + 4096 * i)
  pub blocks : (76 ≤ place) × (place + size ≤ length b)

pub table_is : (o : Order) (b bytes : List ℕ) (high t : ℕ) → high ≤ length b → high ≤ 2 ^ 28 → 0 < length bytes
    → IsStored o b bytes high t → IsTable o b t (length bytes)
table_is o b bytes high t l top some st =
    let low = st.low in
    let behind = st.behind in
    let within = st.within in
    let even = st.place_even in
    record {
      place = st.place;
      table = (low, omega arith);
      each = λ i k. pointer_says (word o b (t + 4 * i)) (st.place + 4096 * i)
          (pointer_at o b t st.place (block_count (length bytes)) i (omega arith) k st.table) (omega arith)
          (omega arith);
      blocks = (omega arith, omega arith);
    }
