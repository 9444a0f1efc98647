-- What Linux maps of a file whose bytes are in one run.
use Rattle.std.proofs.Common.{false, ◌≡◌, ◌≢◌, ℕ, zero, suc, ◌+◌, ◌-◌, ◌*◌, ◌/◌, ◌%◌, ◌^◌, ◌<◌, ◌≤◌, min, Bool, true}
use Rattle.std.proofs.Common.{eqb, List, ◌++◌, length, inl, inr, refl, sym, ap, ◌∙◌, arith, if◌then◌else◌}
use Rattle.std.proofs.lemmas.Bool.{eq-eqb, le-ltb, lt-ltb, ne_eqb}
use Rattle.std.proofs.lemmas.Bool.Decides.{eqb_tells}
use Rattle.std.specs.Prelude.{slice_index}
use Rattle.rom_tree.specs.Tree.{row_from}
use Rattle.rom_tree.proofs.Numbers.{row_at}
use Rattle.cramfs_format.specs.declared.order.Order.{Order}
use Rattle.cramfs_format.specs.Order.{word}
use Rattle.cramfs_format.specs.Inode.{type_of, size_of, block_count, block_start, has_data, has_kinds, is_direct}
use Rattle.cramfs_format.specs.Inode.{pointer_of, pointer_place, HasBody}
use Rattle.cramfs_format.specs.Tree.{places_at}
use Rattle.cramfs_format.proofs.Contents.{place_at}
use Rattle.cramfs_format.proofs.Lists.{lt_decides}
use Rattle.program_pages.specs.declared.mapping.Mapping.{Mapping}
use Rattle.program_pages.specs.Physmem.{Flash, is_mappable, is_expected, range_from, mapped_at, mapped_pages}
use Rattle.program_pages.specs.Physmem.{last_is_shared}
use Rattle.program_pages.specs.Physmem.{shares_page, without_shared}
use Rattle.program_pages.specs.Physmem.{is_run, is_whole}
use Rattle.program_pages.specs.InPlace.{pages_in_place}
use Rattle.program_pages.proofs.Fronts.{same_word, same_type, same_size, same_pointer}

-- pointers that are all as expected
range_all : (o : Order) (b : List ℕ) (q start i n : ℕ)
    → ((j : ℕ) → i ≤ j → j < i + n → is_expected start j (word o b (q + 4 * j)) ≡ true)
    → range_from o b q start i n ≡ n
range_all o b q start i zero h = refl
range_all o b q start i (suc n) h =
    rw (h i (omega arith) (omega arith)) (ap suc (range_all o b q start (suc i) n
    (λ j a c. h j (omega arith) (omega arith))))

-- a pointer is as expected
expected : (start i pointer : ℕ) → is_direct pointer ≡ true → pointer % 2 ^ 30 ≡ start + 1024 * i
    → is_expected start i pointer ≡ true
expected start i pointer d e =
    rw d (eq-eqb (pointer % 2 ^ 30) ((start + 1024 * i) % 2 ^ 30) (omega arith))

-- the mapped pages where each pointer is as expected
at_start : (o : Order) (f : Flash) (p first n w start size : ℕ) → w ≢ 0 → w * 4 ≡ start + 4096 * first
    → range_from o f.bytes (pointer_place o f.bytes p first) w 0 n ≡ n → size_of o f.bytes p ≡ size
    → last_is_shared o f.bytes p ≡ shares_page f.bytes (start + size) size
    → mapped_at o f p first n w
    ≡ (if eqb ((f.address + start) % 4096) 0 then without_shared (shares_page f.bytes (start + size) size) size first n
    else 0)
at_start o f p first n w start size nz e r s l =
    let a : (f.address + w * 4) % 4096 ≡ (f.address + start) % 4096 = omega arith in
    rw (ne_eqb w 0 nz, a, r, s, l) refl

-- j pointers further
moved : (o : Order) (b : List ℕ) (p i j : ℕ) → pointer_place o b p i + 4 * j ≡ pointer_place o b p (i + j)
unfolding pointer_place
moved o b p i j = omega arith

-- the inode of a file that is in one run, in an image at the front of the flash
pub record IsFileAt (o : Order) (f : Flash) (p start size : ℕ) : Type 0 where
  pub b : List ℕ
  pub rest : List ℕ
  pub front : f.bytes ≡ b ++ rest
  pub header : p + 12 ≤ length b
  pub body : HasBody o b p
  pub file : type_of o b p ≡ 8
  pub run : places_at o b p ≡ row_from start (size_of o b p)
  pub long : size_of o b p ≡ size

module _ {o : Order} {f : Flash} {p start size : ℕ} (h : IsFileAt o f p start size) where
  has : has_data (type_of o h.b p) ≡ true
  has = rw h.file refl

  -- the table is among the image's bytes
  table : (i : ℕ) → i < block_count size → pointer_place o h.b p i + 4 ≤ length h.b
  unfolding pointer_place
  table i l = let e = h.long in let t = (h.body.table has (omega arith)).1 in omega arith

  -- the block of a page begins at its place
  begins : (i : ℕ) → i < block_count size → block_start (pointer_of o h.b p i) ≡ start + 4096 * i
  begins i l =
      let b : List ℕ = h.b in
      let long : size_of o b p ≡ size = h.long in
      let j : ℕ = 4096 * i in
      let small : j < size_of o b p = omega arith in
      let q : j / 4096 ≡ i = omega arith in
      let z : j % 4096 ≡ 0 = omega arith in
      let e : slice_index (places_at o b p) j ≡ block_start (pointer_of o b p (j / 4096)) + j % 4096 =
      place_at o b p j small in
      let u : block_start (pointer_of o b p (j / 4096)) ≡ block_start (pointer_of o b p i) =
      ap (λ (k : ℕ). block_start (pointer_of o b p k)) q in
      let r : slice_index (places_at o b p) j ≡ start + j =
      ap (λ (ps : List ℕ). slice_index ps j) h.run ∙ row_at start (size_of o b p) j small in
      omega arith

  flash_pointer : (i : ℕ) → i < block_count size → pointer_of o f.bytes p i ≡ pointer_of o h.b p i
  flash_pointer i l = same_pointer o h.b f.bytes h.rest h.front p i h.header (table i l)

  -- the block of a page begins in the flash at its place
  pub flash_begins : (i : ℕ) → i < block_count size → block_start (pointer_of o f.bytes p i) ≡ start + 4096 * i
  flash_begins i l = ap block_start (flash_pointer i l) ∙ begins i l

  pub flash_size : size_of o f.bytes p ≡ size
  flash_size = same_size o h.b f.bytes h.rest h.front p h.header ∙ h.long

  mappable : f.address ≢ 0 → 0 < block_count size → is_mappable o f p ≡ true
  mappable a l =
      let long = h.long in
      let header = h.header in
      let t : type_of o f.bytes p ≡ 8 = same_type o h.b f.bytes h.rest h.front p h.header ∙ h.file in
      let w : word o f.bytes 8 ≡ word o h.b 8 = same_word o h.b f.bytes h.rest h.front 8 (omega arith) in
      let k : has_kinds (word o f.bytes 8) ≡ true = ap has_kinds w ∙ (h.body.plain has 0 (omega arith)).0 in
      rw (eq-eqb (type_of o f.bytes p) 8 t, k, ne_eqb f.address 0 a) refl

  -- where the file's last page begins, and what is behind the file
  shared : 0 < size → last_is_shared o f.bytes p ≡ shares_page f.bytes (start + size) size
  unfolding last_is_shared
  shared s =
      rw flash_size (elim (eqb_tells (size % 4096) 0) [
        | inl z ↦ rw z.0 refl
        | inr z ↦
            let n : size % 4096 ≢ 0 = z.1 in
            let e : block_start (pointer_of o f.bytes p (size / 4096)) + size % 4096 ≡ start + size =
            (let g = flash_begins (size / 4096) (omega arith) in omega arith) in
            rw e refl
      ])

  -- the pointers from a page on are those that are expected
  all : (first n : ℕ) → first + n ≤ block_count size → first < block_count size
      → range_from o f.bytes (pointer_place o f.bytes p first) (pointer_of o f.bytes p first % 2 ^ 30) 0 n ≡ n
  all first n l some =
      range_all o f.bytes (pointer_place o f.bytes p first) (pointer_of o f.bytes p first % 2 ^ 30) 0 n (λ j a c.
      let k : first + j < block_count size = omega arith in
      let place : pointer_place o f.bytes p first + 4 * j ≡ pointer_place o f.bytes p (first + j) =
      moved o f.bytes p first j in
      let long = h.long in
      let d : is_direct (pointer_of o f.bytes p (first + j)) ≡ true =
      ap is_direct (flash_pointer (first + j) k) ∙ (h.body.plain has (first + j) (omega arith)).1 in
      let x = flash_begins (first + j) k in
      let y = flash_begins first some in
      ap (λ (q : ℕ). is_expected (pointer_of o f.bytes p first % 2 ^ 30) j (word o f.bytes q)) place
      ∙ expected (pointer_of o f.bytes p first % 2 ^ 30) j (pointer_of o f.bytes p (first + j)) d (omega arith))

  -- a mapping that begins in the file
  inside : f.address ≢ 0 → (first count : ℕ) → first < block_count (size_of o f.bytes p)
      → (if is_mappable o f p then mapped_at o f p first (min count (block_count (size_of o f.bytes p) - first))
      (pointer_of o f.bytes p first % 2 ^ 30) else 0)
      ≡ (if eqb ((f.address + start) % 4096) 0 then
      without_shared (shares_page f.bytes (start + size_of o f.bytes p) (size_of o f.bytes p)) (size_of o f.bytes p)
      first
      (min count (block_count (size_of o f.bytes p) - first)) else 0)
  inside a first count l =
      let n : ℕ = min count (block_count (size_of o f.bytes p) - first) in
      let s : size_of o f.bytes p ≡ size = flash_size in
      let long = h.long in
      let l' : first < block_count size = omega arith in
      let g = flash_begins first l' in
      let e = begins first l' in
      let low : 76 ≤ block_start (pointer_of o h.b p first) = (h.body.blocks has first (omega arith) (omega arith)).0 in
      let own : last_is_shared o f.bytes p
      ≡ shares_page f.bytes (start + size_of o f.bytes p) (size_of o f.bytes p) =
      shared (omega arith) ∙ sym (ap (λ (k : ℕ). shares_page f.bytes (start + k) k) s) in
      ap (λ (v : Bool). if v then mapped_at o f p first n (pointer_of o f.bytes p first % 2 ^ 30) else 0)
      (mappable a (omega arith))
      ∙ at_start o f p first n (pointer_of o f.bytes p first % 2 ^ 30) start (size_of o f.bytes p) (λ z. (omega arith))
      g
      (all first n (omega arith) l') refl own

  -- the mapped pages of a file in one run
  pub mapped_is : f.address ≢ 0 → (m : Mapping) → mapped_pages o f p m ≡ pages_in_place f start size m
  unfolding mapped_pages
  mapped_is a m =
      ap (λ (n : ℕ). if m.writable then 0 else n) (elim (lt_decides m.first (block_count (size_of o f.bytes p))) [
        | inl z ↦ rw z.0 (inside a m.first m.count z.1)
        | inr z ↦ rw z.0 refl
      ])
      ∙ ap (λ (n : ℕ). pages_in_place f start n m) flash_size

  -- any pages of the file are in one run
  in_run : (first n : ℕ) → first < block_count size → first + n ≤ block_count size → is_run o f p first n ≡ true
  in_run first n l r =
      let long = h.long in
      let g = flash_begins first l in
      let e = begins first l in
      let low : 76 ≤ block_start (pointer_of o h.b p first) = (h.body.blocks has first (omega arith) (omega arith)).0 in
      rw (
        flash_size,
        lt-ltb first (block_count size) l,
        le-ltb (block_count size - first) n (omega arith),
        ne_eqb (pointer_of o f.bytes p first % 2 ^ 30) 0 (λ z. (omega arith)),
        all first n r l,
      ) (eq-eqb n n refl)

  -- without an MMU
  pub whole_is : f.address ≢ 0 → (m : Mapping) → m.writable ≡ false → m.first < block_count size
      → m.first + m.count ≤ block_count size → is_whole o f p m ≡ true
  unfolding is_whole
  whole_is a m w l r =
      ap (λ (v : Bool). if v then false else (if is_mappable o f p then is_run o f p m.first m.count else false)) w
      ∙ ap (λ (v : Bool). if v then is_run o f p m.first m.count else false) (mappable a (omega arith))
      ∙ in_run m.first m.count l r
