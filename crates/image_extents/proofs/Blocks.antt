-- Extents of cramfs, block by block and record by record.
use Rattle.std.proofs.Common.{◌≡◌, ◌<◌, ℕ, zero, suc, ◌+◌, ◌-◌, ◌*◌, List, [], ◌∷◌, ◌++◌, length, Bool, true, false}
use Rattle.std.proofs.Common.{refl}
use Rattle.std.proofs.Common.{sym, ap}
use Rattle.std.proofs.Common.{◌∙◌, arith, min, if◌then◌else◌, take, get_or, length-take}
use Rattle.std.proofs.lemmas.List.{take_more}
use Rattle.cramfs_format.specs.declared.order.Order.{Order}
use Rattle.cramfs_format.specs.Order.{word}
use Rattle.cramfs_format.specs.Inode.{block_start}
use Rattle.image_extents.specs.declared.extent.Record.{Record}
use Rattle.image_extents.specs.declared.extent.Extent.{Extent}
use Rattle.image_extents.specs.declared.extent.Kind.TheVariants.{Data}
use Rattle.image_extents.specs.Found.{goes_on, longer, with_block, with_blocks, with_list, with_contents}
use Rattle.image_extents.specs.Found.{table_in, with_record, with_records}
use Rattle.image_extents.specs.Tables.{is_first}

-- a block behind a last extent
pub block_last : (j : Bool) (xs : List Extent) (x y : Extent)
    → with_block j (xs ++ x ∷ []) y
    ≡ (if (if j then goes_on x y else false) then xs ++ longer x y ∷ [] else (xs ++ x ∷ []) ++ y ∷ [])
block_last j [] x y = refl
block_last j (z ∷ []) x y = elim (if j then goes_on x y else false) as
    (λ v. z ∷ (if v then longer x y ∷ [] else x ∷ y ∷ []) ≡ (if v then z ∷ longer x y ∷ [] else z ∷ x ∷ y ∷ []))
    [ true ↦ refl | false ↦ refl ]
block_last j (z ∷ w ∷ ws) x y =
    ap (λ (v : List Extent). z ∷ v) (block_last j (w ∷ ws) x y)
    ∙ elim (if j then goes_on x y else false) as
    (λ v. z ∷ (if v then (w ∷ ws) ++ longer x y ∷ [] else ((w ∷ ws) ++ x ∷ []) ++ y ∷ [])
    ≡ (if v then (z ∷ w ∷ ws) ++ longer x y ∷ [] else ((z ∷ w ∷ ws) ++ x ∷ []) ++ y ∷ []))
    [ true ↦ refl | false ↦ refl ]

pub block_joined : (j : Bool) (xs : List Extent) (x y : Extent) → (if j then goes_on x y else false) ≡ true
    → with_block j (xs ++ x ∷ []) y ≡ xs ++ longer x y ∷ []
block_joined j xs x y e = block_last j xs x y
    ∙ ap (λ (v : Bool). if v then xs ++ longer x y ∷ [] else (xs ++ x ∷ []) ++ y ∷ []) e

pub block_apart : (j : Bool) (xs : List Extent) (x y : Extent) → (if j then goes_on x y else false) ≡ false
    → with_block j (xs ++ x ∷ []) y ≡ (xs ++ x ∷ []) ++ y ∷ []
block_apart j xs x y e = block_last j xs x y
    ∙ ap (λ (v : Bool). if v then xs ++ longer x y ∷ [] else (xs ++ x ∷ []) ++ y ∷ []) e

abbrev pub block_at : Order → List ℕ → ℕ → ℕ → ℕ → ℕ → Extent
block_at o b i q size offset =
    record { kind = Data; start = block_start (word o b q); len = min 4096 size; offset = offset; owner = i }

-- the blocks from the k-th on
pub block_more : (j : Bool) (o : Order) (b : List ℕ) (i table size count k : ℕ) (xs ys all : List Extent) (y : Extent)
    → k < count
    → with_blocks j o b i xs (count - k) (table + 4 * k) (size - 4096 * k) (4096 * k)
    ≡ with_blocks j o b i all count table size 0
    → y ≡ block_at o b i (table + 4 * k) (size - 4096 * k) (4096 * k) → ys ≡ with_block j xs y
    → with_blocks j o b i ys (count - (k + 1)) (table + 4 * (k + 1)) (size - 4096 * (k + 1)) (4096 * (k + 1))
    ≡ with_blocks j o b i all count table size 0
block_more j o b i table size count k xs ys all y h inv ey es =
    let n : count - k ≡ suc (count - (k + 1)) = omega (arith, h) in
    let q : table + 4 * (k + 1) ≡ table + 4 * k + 4 = omega arith in
    let s : size - 4096 * (k + 1) ≡ size - 4096 * k - 4096 = omega arith in
    let f : 4096 * (k + 1) ≡ 4096 * k + 4096 = omega arith in
    let e : ys ≡ with_block j xs (block_at o b i (table + 4 * k) (size - 4096 * k) (4096 * k)) =
    es ∙ ap (with_block j xs) ey in
    ap (λ (v : List Extent). with_blocks j o b i v (count - (k + 1)) (table + 4 * (k + 1)) (size - 4096 * (k + 1))
    (4096 * (k + 1))) e
    ∙ ap (λ (v : ℕ). with_blocks j o b i (with_block j xs (block_at o b i (table + 4 * k) (size - 4096 * k) (4096 * k)))
    (count - (k + 1)) v (size - 4096 * (k + 1)) (4096 * (k + 1))) q
    ∙ ap (λ (v : ℕ). with_blocks j o b i (with_block j xs (block_at o b i (table + 4 * k) (size - 4096 * k) (4096 * k)))
    (count - (k + 1)) (table + 4 * k + 4) v (4096 * (k + 1))) s
    ∙ ap (λ (v : ℕ). with_blocks j o b i (with_block j xs (block_at o b i (table + 4 * k) (size - 4096 * k) (4096 * k)))
    (count - (k + 1)) (table + 4 * k + 4) (size - 4096 * k - 4096) v) f
    ∙ sym (ap (λ (v : ℕ). with_blocks j o b i xs v (table + 4 * k) (size - 4096 * k) (4096 * k)) n) ∙ inv

-- a record more
records_push : (j : Bool) (o : Order) (b : List ℕ) (all : List Record) (xs : List Extent) (n : ℕ) (rs : List Record)
    (x : Record)
    → with_records j o b all xs n (rs ++ x ∷ [])
    ≡ with_record j o b all (with_records j o b all xs n rs) (n + length rs) x
records_push j o b all xs n [] x =
    let z : n ≡ n + 0 = omega arith in
    ap (λ (v : ℕ). with_record j o b all xs v x) z
records_push j o b all xs n (y ∷ ys) x =
    let m : suc n + length ys ≡ n + suc (length ys) = omega arith in
    let zs : List Extent = with_record j o b all xs n y in
    records_push j o b all zs (suc n) ys x
    ∙ ap (λ (v : ℕ). with_record j o b all (with_records j o b all zs (suc n) ys) v x) m

pub found_more : (j : Bool) (o : Order) (b : List ℕ) (all : List Record) (xs : List Extent) (rs : List Record) (i : ℕ)
    (d : Record) → i < length rs
    → with_records j o b all xs 0 (take (i + 1) rs)
    ≡ with_record j o b all (with_records j o b all xs 0 (take i rs)) i (get_or rs i d)
found_more j o b all xs rs i d h =
    let l = length-take i rs in
    let n : 0 + length (take i rs) ≡ i = grind (arith, l, h) in
    ap (with_records j o b all xs 0) (take_more rs i d h)
    ∙ records_push j o b all xs 0 (take i rs) (get_or rs i d)
    ∙ ap (λ (v : ℕ). with_record j o b all (with_records j o b all xs 0 (take i rs)) v (get_or rs i d)) n

-- the first record with its block pointers, or one that has none; and another one
pub record_first : (j : Bool) (o : Order) (b : List ℕ) (all : List Record) (xs : List Extent) (n : ℕ) (x : Record)
    → is_first (table_in o b) all n x ≡ true
    → with_record j o b all xs n x ≡ with_contents j o b x.offset n (with_list o b x.offset n xs)
record_first j o b all xs n x h = rw h refl

pub record_later : (j : Bool) (o : Order) (b : List ℕ) (all : List Record) (xs : List Extent) (n : ℕ) (x : Record)
    → is_first (table_in o b) all n x ≡ false → with_record j o b all xs n x ≡ xs
record_later j o b all xs n x h = rw h refl

pub any_record : (rs : List Record) (i : ℕ) (a b : Record) → i < length rs → get_or rs i a ≡ get_or rs i b
any_record [] i a b h = absurd (omega (arith, h))
any_record (x ∷ xs) zero a b h = refl
any_record (x ∷ xs) (suc i) a b h = any_record xs i a b (omega (arith, h))
