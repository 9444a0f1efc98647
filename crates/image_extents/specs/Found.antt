-- The extents of the records of an image. (This project's own.)
use Rattle.std.specs.Prelude.{ℕ, zero, suc, ◌+◌, ◌-◌, ◌*◌, ◌^◌, ◌≤◌, ◌==◌, nat_lt, min, length}
use Rattle.std.specs.Prelude.{if◌then◌else◌}
use Rattle.std.specs.Prelude.{Bool, true, false, List, [], ◌∷◌, ◌++◌, Option, None, Some}
use Rattle.romfs_format.specs.Record.{end_of, size_of, type_of, has_data}
use Rattle.cramfs_format.specs.declared.order.Order.{Order}
use Rattle.cramfs_format.specs.Order.{word}
use Rattle.cramfs_format.specs.Inode.{offset_of, block_count, block_start, TableLies}
use Rattle.cramfs_format.specs.Inode.{size_of as cramfs_size_of}
use Rattle.cramfs_format.specs.Inode.{type_of as cramfs_type_of, has_data as has_blocks}
use Rattle.image_extents.specs.Listed.{romfs_listed, cramfs_listed}
use Rattle.image_extents.specs.Tables.{nexts, is_first}
use Rattle.image_extents.specs.declared.extent.Record.{Record}
use Rattle.image_extents.specs.declared.extent.Extent.{Extent}
use Rattle.image_extents.specs.declared.extent.Kind.{Kind}
use Rattle.image_extents.specs.declared.extent.Kind.TheVariants.{Super, Header, Data, Table}
use Rattle.image_extents.specs.declared.extent.Kind.TheVariants.{List as ListOf}

-- an extent of the i-th record, and nothing if it has no byte
abbrev pub found : Kind → ℕ → ℕ → ℕ → ℕ → List Extent
found kind start zero offset i = []
found kind start (suc n) offset i =
    record { kind = kind; start = start; len = suc n; offset = offset; owner = i } ∷ []

-- of a romfs record at p: its header with its name, and its data, if it has any
abbrev pub romfs_found : List ℕ → ℕ → ℕ → List Extent
romfs_found b p i =
    found Header p (end_of b p - p) 0 i
    ++ (if has_data (type_of b p) then found Data (end_of b p) (size_of b p) 0 i else [])

-- those of some records, of which the first has the number n
abbrev pub found_from : (ℕ → ℕ → List Extent) → ℕ → List Record → List Extent
found_from of n [] = []
found_from of n (x ∷ xs) = of x.offset n ++ found_from of (suc n) xs

-- the bytes before the root, and the extents of all records in the order of a list
unfoldable pub romfs_all_found : List ℕ → ℕ → List Extent
romfs_all_found b r =
    found Super 0 r 0 0 ++ found_from (romfs_found b) 0 (romfs_listed b r)

abbrev pub is_data : Kind → Bool
is_data Data = true
is_data _ = false

-- y begins, in the image and in the contents, where the data x of the same record end
abbrev pub goes_on : Extent → Extent → Bool
goes_on x y =
    if is_data x.kind then (if x.owner == y.owner then (if x.start + x.len == y.start
    then (if x.offset + x.len == y.offset then nat_lt (x.len + y.len) (2 ^ 32) else false)
    else false) else false) else false

-- x with the bytes of y behind it
abbrev pub longer : Extent → Extent → Extent
longer x y = record {
  kind = x.kind;
  start = x.start;
  len = x.len + y.len;
  offset = x.offset;
  owner = x.owner;
}

-- one more block: if blocks are joined and it goes on where the last extent ends, this extent
-- becomes longer
abbrev pub with_block : Bool → List Extent → Extent → List Extent
with_block j [] y = y ∷ []
with_block j (x ∷ []) y = if (if j then goes_on x y else false) then longer x y ∷ [] else x ∷ y ∷ []
with_block j (x ∷ z ∷ zs) y = x ∷ with_block j (z ∷ zs) y

-- the extents after k more blocks of `size` bytes. They begin at the byte `offset` of the contents
-- of the i-th record, and their block pointers begin at q.
abbrev pub with_blocks : Bool → Order → List ℕ → ℕ → List Extent → ℕ → ℕ → ℕ → ℕ → List Extent
with_blocks j o b i xs zero q size offset = xs
with_blocks j o b i xs (suc k) q size offset =
    with_blocks j o b i (with_block j xs
    (record {
      kind = Data;
      start = block_start (word o b q);
      len = min 4096 size;
      offset = offset;
      owner = i;
    })) k (q + 4) (size - 4096) (offset + 4096)

-- one more list of a cramfs directory
abbrev pub with_list : Order → List ℕ → ℕ → ℕ → List Extent → List Extent
with_list o b p i xs =
    if cramfs_type_of o b p == 4
    then xs ++ found ListOf (offset_of o b p) (cramfs_size_of o b p) 0 i else xs

-- the block pointers and the blocks of a file or a link
abbrev pub with_contents : Bool → Order → List ℕ → ℕ → ℕ → List Extent → List Extent
with_contents j o b p i xs =
    if has_blocks (cramfs_type_of o b p)
    then with_blocks j o b i
    (xs ++ found Table (offset_of o b p) (4 * block_count (cramfs_size_of o b p)) 0 i)
    (block_count (cramfs_size_of o b p)) (offset_of o b p) (cramfs_size_of o b p) 0 else xs

-- the record at p has its inode, and its block pointers, if it has some, among the bytes
abbrev pub IsWithin : Order → List ℕ → ℕ → Type 0
IsWithin o b p = (p + 12 ≤ length b) × TableLies o b p

-- The block pointers of the record at p: their offset, and the number of bytes of the contents.
-- Other records than files and links have none.
abbrev pub table_of : Order → List ℕ → ℕ → Option (ℕ × ℕ)
table_of o b p =
    if has_blocks (cramfs_type_of o b p) then Some (offset_of o b p, cramfs_size_of o b p) else None

abbrev pub table_in : Order → List ℕ → Record → Option (ℕ × ℕ)
table_in o b x = table_of o b x.offset

-- The extents of the n-th record more, if it is the first one of `all` with its block pointers, or
-- has none.
abbrev pub with_record : Bool → Order → List ℕ → List Record → List Extent → ℕ → Record
    → List Extent
with_record j o b all xs n x =
    if is_first (table_in o b) all n x
    then with_contents j o b x.offset n (with_list o b x.offset n xs) else xs

-- those of some records of `all`, of which the first has the number n
abbrev pub with_records : Bool → Order → List ℕ → List Record → List Extent → ℕ → List Record
    → List Extent
with_records j o b all xs n [] = xs
with_records j o b all xs n (x ∷ rs) =
    with_records j o b all (with_record j o b all xs n x) (suc n) rs

-- The superblock, and the extents of the records in the order of a list, blocks joined or not. Of
-- records with the same block pointers, the first has them.
unfoldable pub cramfs_all_found : Bool → Order → List ℕ → List Extent
cramfs_all_found j o b =
    with_records j o b (cramfs_listed o b) (found Super 0 76 0 0) 0 (cramfs_listed o b)

-- for each record, the next one with its block pointers
unfoldable pub cramfs_nexts : Order → List ℕ → List (Option ℕ)
cramfs_nexts o b = nexts (table_in o b) 0 (cramfs_listed o b)
