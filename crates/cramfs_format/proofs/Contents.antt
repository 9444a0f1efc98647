-- The contents of the nodes that are made of inodes.
use Rattle.std.proofs.Common.{◌≡◌, ℕ, zero, suc, ◌+◌, ◌-◌, ◌*◌, ◌/◌, ◌%◌, ◌<◌, ◌≤◌, min, Bool, true, false, List, []}
use Rattle.std.proofs.Common.{length, get_or, length-append, inl, inr, refl, ap, subst, ◌∙◌, arith, if◌then◌else◌}
use Rattle.std.proofs.lemmas.Bool.{cases_lt}
use Rattle.std.proofs.lemmas.Bool.Decides.{eqb_tells}
use Rattle.std.proofs.lemmas.List.{get_or_append_left, get_or-append_right}
use Rattle.std.specs.Prelude.{slice_index}
use Rattle.rom_tree.specs.Tree.{Node, IsIn, is_device, attributes_of, nodes, places_of, is_link, ino_of, row_from}
use Rattle.cramfs_format.specs.Order.{word}
use Rattle.cramfs_format.specs.declared.order.Order.{Order}
use Rattle.cramfs_format.specs.Inode.{type_of, size_of, offset_of, has_data, block_count, block_start, block_len}
use Rattle.cramfs_format.specs.Inode.{pointer_place, pointer_of, HasBody}
use Rattle.cramfs_format.specs.Refers.{root_place}
use Rattle.cramfs_format.specs.Tree.{kind_numbers, attributes_at, blocks_from, places_at, node_of, entries_at, by_type}
use Rattle.cramfs_format.specs.Made.{made, list_at, IsCramfs}
use Rattle.rom_tree.proofs.ByKind.{body_places_is, only_link, device_zero}
use Rattle.rom_tree.proofs.Numbers.{length_row, row_at}
use Rattle.cramfs_format.proofs.Trees.{all_made}

-- what files and links have, and nothing else
pub pick_data : {A : Type 0} (t : ℕ) (a n : A) → by_type t n a a n n n n ≡ (if has_data t then a else n)
pick_data t a n =
    elim (eqb_tells t 4) [
      | inl h ↦ rw (h.1) refl
      | inr h ↦
          elim (eqb_tells t 8) [
            | inl i ↦ rw (i.1) refl
            | inr i ↦
                elim (eqb_tells t 10) [
                  | inl j ↦ rw (j.1) refl
                  | inr j ↦
                      elim (eqb_tells t 6) [
                        | inl k ↦ rw (k.1) refl
                        | inr k ↦
                            elim (eqb_tells t 2) [
                              | inl l ↦ rw (l.1) refl
                              | inr l ↦
                                  elim (eqb_tells t 12) [
                                    | inl m ↦ rw (m.1) refl
                                    | inr m ↦ rw
                                        (h.0, i.0, j.0, k.0, l.0, m.0) refl
                                  ]
                            ]
                      ]
                ]
          ]
    ]

-- how long the contents of the inode at n are
abbrev pub file_size : Order → List ℕ → ℕ → ℕ
file_size o b n = if has_data (type_of o b n) then size_of o b n else 0

pub length_blocks : (k : ℕ) (o : Order) (b : List ℕ) (q size : ℕ) → size ≤ 4096 * k
    → length (blocks_from o b k q size) ≡ size
length_blocks zero o b q size h = omega arith
length_blocks (suc k) o b q size h =
    let ih = length_blocks k o b (q + 4) (size - 4096) (omega arith) in
    let row = length_row (block_start (word o b q)) (min 4096 size) in
    let both =
    length-append (row_from (block_start (word o b q)) (min 4096 size)) (blocks_from o b k (q + 4) (size - 4096)) in
    omega arith

-- the place of byte j: j % 4096 behind the start of its block
pub block_at : (k : ℕ) (o : Order) (b : List ℕ) (q size j : ℕ) → size ≤ 4096 * k → j < size
    → get_or (blocks_from o b k q size) j 0 ≡ block_start (word o b (q + 4 * (j / 4096))) + j % 4096
block_at zero o b q size j h l = absurd (omega arith)
block_at (suc k) o b q size j h l =
    let front = row_from (block_start (word o b q)) (min 4096 size) in
    let rest = blocks_from o b k (q + 4) (size - 4096) in
    let row : length front ≡ min 4096 size = length_row (block_start (word o b q)) (min 4096 size) in
    elim (cases_lt j 4096) [
      | inl s ↦
          let z : q + 4 * (j / 4096) ≡ q = omega arith in
          let m : j % 4096 ≡ j = omega arith in
          rw (z, m) (get_or_append_left front rest 0 j (omega arith)
          ∙ row_at (block_start (word o b q)) (min 4096 size) j (omega arith))
      | inr s ↦
          let full : min 4096 size ≡ 4096 = omega arith in
          let z : (q + 4) + 4 * ((j - 4096) / 4096) ≡ q + 4 * (j / 4096) = omega arith in
          let m : (j - 4096) % 4096 ≡ j % 4096 = omega arith in
          let ih = block_at k o b (q + 4) (size - 4096) (j - 4096) (omega arith) (omega arith) in
          get_or-append_right front rest 4096 j 0 (row ∙ full) s ∙ ih ∙ rw (z, m) refl
    ]

pub made_places : (o : Order) (b : List ℕ) (k n : ℕ)
    → places_of (made o b k n) ≡ (if has_data (type_of o b n) then places_at o b n else [])
unfolding made node_of
made_places o b k n = body_places_is kind_numbers (type_of o b n) (places_at o b n) (entries_at o b (list_at o b k n))
    ∙ pick_data (type_of o b n) (places_at o b n) []

pub length_places : (o : Order) (b : List ℕ) (n : ℕ) → length (places_at o b n) ≡ size_of o b n
unfolding places_at
length_places o b n = length_blocks (block_count (size_of o b n)) o b (offset_of o b n) (size_of o b n) (omega arith)

pub place_at : (o : Order) (b : List ℕ) (n j : ℕ) → j < size_of o b n
    → slice_index (places_at o b n) j ≡ block_start (pointer_of o b n (j / 4096)) + j % 4096
unfolding places_at pointer_place
place_at o b n j l = block_at (block_count (size_of o b n)) o b (offset_of o b n) (size_of o b n) j (omega arith) l

length_if : (v : Bool) (ps : List ℕ) (s : ℕ) → length ps ≡ s → length (if v then ps else []) ≡ (if v then s else 0)
length_if true ps s e = e
length_if false ps s e = refl

pub made_length : (o : Order) (b : List ℕ) (k n : ℕ) → length (places_of (made o b k n)) ≡ file_size o b n
made_length o b k n = ap length (made_places o b k n)
    ∙ length_if (has_data (type_of o b n)) (places_at o b n) (size_of o b n) (length_places o b n)

size_if : (v : Bool) (s j : ℕ) → j < (if v then s else 0) → (v ≡ true) × (j < s)
size_if true s j l = (refl, l)
size_if false s j l = absurd (omega arith)

-- byte j of a file or a link
pub file_byte : (o : Order) (b : List ℕ) (n j : ℕ) → j < file_size o b n
    → (has_data (type_of o b n) ≡ true) × (j < size_of o b n)
file_byte o b n j l = size_if (has_data (type_of o b n)) (size_of o b n) j l

pub made_place : (o : Order) (b : List ℕ) (k n j : ℕ) → j < file_size o b n
    → slice_index (places_of (made o b k n)) j ≡ block_start (pointer_of o b n (j / 4096)) + j % 4096
made_place o b k n j l =
    let d = file_byte o b n j l in
    let e : places_of (made o b k n) ≡ places_at o b n = made_places o b k n ∙ (rw d.0 refl) in
    ap (λ (ps : List ℕ). slice_index ps j) e ∙ place_at o b n j d.1

-- it lies among the bytes
pub byte_within : (o : Order) (b : List ℕ) (n j : ℕ) → HasBody o b n → j < file_size o b n
    → block_start (pointer_of o b n (j / 4096)) + j % 4096 < length b
byte_within o b n j h l =
    let d = file_byte o b n j l in
    let size : ℕ = size_of o b n in
    let i : ℕ = j / 4096 in
    let small : j < size = d.1 in
    let some : i < block_count size = omega arith in
    let room : j % 4096 < block_len size i = omega arith in
    let w = h.blocks d.0 i some (omega arith) in
    let w' = w.1 in
    omega arith

pub made_link : (o : Order) (b : List ℕ) (k n : ℕ) → is_link (made o b k n) ≡ true → type_of o b n ≡ 10
unfolding made node_of
made_link o b k n e = only_link kind_numbers (type_of o b n) (places_at o b n) (entries_at o b (list_at o b k n)) e

made_zeros : (o : Order) (b : List ℕ) (k n : ℕ) → is_device (made o b k n) ≡ false
    → ((attributes_of (made o b k n)).major ≡ 0) × ((attributes_of (made o b k n)).minor ≡ 0)
unfolding made node_of attributes_at
made_zeros o b k n e = (
  device_zero kind_numbers (type_of o b n) (places_at o b n) (entries_at o b (list_at o b k n)) (size_of o b n / 256) e,
  device_zero kind_numbers (type_of o b n) (places_at o b n) (entries_at o b (list_at o b k n)) (size_of o b n % 256) e,
)

pub link_data : (o : Order) (b : List ℕ) (n : ℕ) → type_of o b n ≡ 10 → file_size o b n ≡ size_of o b n
link_data o b n h = rw h refl

module _ {o : Order} {b : List ℕ} {k : ℕ} where
  -- a link has a text of 1 to 4095 bytes
  pub made_links : IsCramfs o b k → (x : Node) → IsIn x (nodes (made o b k root_place)) → is_link x ≡ true
      → (0 < length (places_of x)) × (length (places_of x) ≤ 4095)
  made_links s x h e =
      let m = all_made s x h in
      let n : ℕ = ino_of x in
      let link = made_link o b k n (subst (λ (y : Node). is_link y ≡ true) m.is e) in
      let size : length (places_of x) ≡ size_of o b n =
      ap (λ (y : Node). length (places_of y)) m.is ∙ made_length o b k n ∙ link_data o b n link in
      let bounds = m.known.body.link_size link in
      (omega arith, omega arith)

  -- each byte of a file or a link is one of the image
  pub made_placed : (bytes : List ℕ) → IsCramfs o b k → length b ≤ length bytes → (x : Node)
      → IsIn x (nodes (made o b k root_place)) → (j : ℕ) → j < length (places_of x)
      → slice_index (places_of x) j < length bytes
  made_placed bytes s within x h j l =
      let m = all_made s x h in
      let n : ℕ = ino_of x in
      let size : length (places_of x) ≡ file_size o b n =
      ap (λ (y : Node). length (places_of y)) m.is ∙ made_length o b k n in
      let small : j < file_size o b n = omega arith in
      let place : slice_index (places_of x) j ≡ block_start (pointer_of o b n (j / 4096)) + j % 4096 =
      ap (λ (y : Node). slice_index (places_of y) j) m.is ∙ made_place o b k n j small in
      let w = byte_within o b n j m.known.body small in
      omega arith

  -- what is no device has no numbers of one
  pub made_devices : IsCramfs o b k → (x : Node) → IsIn x (nodes (made o b k root_place)) → is_device x ≡ false
      → ((attributes_of x).major ≡ 0) × ((attributes_of x).minor ≡ 0)
  made_devices s x h e =
      let m = all_made s x h in
      let n : ℕ = ino_of x in
      let other : is_device (made o b k n) ≡ false = subst (λ (y : Node). is_device y ≡ false) m.is e in
      let zeros = made_zeros o b k n other in (
        ap (λ (y : Node). (attributes_of y).major) m.is ∙ zeros.0,
        ap (λ (y : Node). (attributes_of y).minor) m.is ∙ zeros.1,
      )
