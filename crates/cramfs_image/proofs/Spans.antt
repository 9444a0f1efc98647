-- The extents of a file, pointer by pointer.
use Rattle.std.proofs.Common.{◌≡◌, ℕ, suc, ◌+◌, ◌-◌, ◌*◌, ◌<◌, ◌≤◌, min, true, List, ◌++◌, length, refl, sym, ap, ◌∙◌}
use Rattle.std.proofs.Common.{arith, append_assoc}
use Rattle.rom_fields.specs.declared.span.Span.{Span}
use Rattle.rom_fields.specs.declared.span.Extent.TheVariants.{Table, Data}
use Rattle.rom_fields.specs.Extents.{added}
use Rattle.cramfs_format.specs.Order.{word}
use Rattle.cramfs_format.specs.declared.order.Order.{Order}
use Rattle.cramfs_format.specs.Inode.{type_of, size_of, offset_of, has_data, block_count, block_start, block_len}
use Rattle.cramfs_format.specs.Inode.{pointer_of, HasBody}
use Rattle.cramfs_format.specs.Tree.{data_from, file_extents}
use Rattle.cramfs_image.proofs.Faults.{pointer_read}

pub file_start : (o : Order) (b : List ℕ) (p table size count : ℕ) (old es : List Span)
    → es ≡ old ++ added Table table (4 * count) → table ≡ offset_of o b p → size ≡ size_of o b p
    → count ≡ block_count size
    → es ++ data_from o b (count - 0) (table + 4 * 0) (size - 4096 * 0) ≡ old ++ file_extents o b p
unfolding file_extents
file_start o b p table size count old es e et es' ec =
    let n : count - 0 ≡ count = omega arith in
    let q : table + 4 * 0 ≡ table = omega arith in
    let s : size - 4096 * 0 ≡ size = omega arith in
    rw (n, q, s, e) (append_assoc old (added Table table (4 * count)) (data_from o b count table size)
    ∙ (rw (ec, et, es') refl))

pub file_more : (o : Order) (b : List ℕ) (i table size count pointer start len : ℕ) (es next all : List Span)
    → i < count → es ++ data_from o b (count - i) (table + 4 * i) (size - 4096 * i) ≡ all
    → next ≡ es ++ added Data start len
    → pointer ≡ word o b (table + 4 * i) → start ≡ block_start pointer → len ≡ block_len size i
    → next ++ data_from o b (count - (i + 1)) (table + 4 * (i + 1)) (size - 4096 * (i + 1)) ≡ all
file_more o b i table size count pointer start len es next all l h e ep et el =
    let k : ℕ = count - (i + 1) in
    let n : count - i ≡ suc k = omega arith in
    let q : table + 4 * (i + 1) ≡ table + 4 * i + 4 = omega arith in
    let s : size - 4096 * (i + 1) ≡ size - 4096 * i - 4096 = omega arith in
    let here : added Data start len ≡ added Data (block_start (word o b (table + 4 * i))) (min 4096 (size - 4096 * i)) =
    rw (el, et, ep) refl in
    let rest = data_from o b k (table + 4 * i + 4) (size - 4096 * i - 4096) in
    let step : data_from o b (count - i) (table + 4 * i) (size - 4096 * i) ≡ added Data start len ++ rest =
    ap (λ (v : ℕ). data_from o b v (table + 4 * i) (size - 4096 * i)) n
    ∙ ap (λ (v : List Span). v ++ rest) (sym here) in
    rw (q, s, e) (append_assoc es (added Data start len) rest ∙ ap (λ (v : List Span). es ++ v) (sym step) ∙ h)

-- a block that is added ends among the bytes
pub block_small : (o : Order) (b : List ℕ) (p i table pointer start len size count : ℕ) → HasBody o b p
    → has_data (type_of o b p) ≡ true → table ≡ offset_of o b p → pointer ≡ word o b (table + 4 * i)
    → size ≡ size_of o b p → count ≡ block_count size
    → start ≡ block_start pointer → len ≡ block_len size i → i < count → start + len ≤ length b
block_small o b p i table pointer start len size count h d et ep es ec ex el l =
    let within : i < block_count (size_of o b p) = rw (← es, ← ec) l in
    let is = pointer_read o b p i table pointer et ep in
    let x : start ≡ block_start (pointer_of o b p i) = ex ∙ ap block_start is in
    let y : len ≡ block_len (size_of o b p) i = el ∙ ap (λ (v : ℕ). block_len v i) es in
    let w = (h.blocks d i within (omega arith)).1 in
    omega arith
