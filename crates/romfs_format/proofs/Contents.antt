-- The contents of the nodes that are made of records.
use Rattle.std.proofs.Common.{◌≡◌, ℕ, ◌+◌, ◌/◌, ◌%◌, ◌<◌, ◌≤◌, true, false, List, length, ◌⊎◌, inl, inr, refl, sym, ap}
use Rattle.std.proofs.Common.{subst, ◌∙◌, arith, rules}
use Rattle.std.proofs.lemmas.Bool.Decides.{eqb_tells}
use Rattle.std.specs.Prelude.{IsTrue, slice_index}
use Rattle.rom_tree.specs.Tree.{Node, IsIn, is_device, attributes_of, nodes, places_of, is_link, ino_of, row_from}
use Rattle.rom_fields.specs.Words.{word_be}
use Rattle.romfs_format.specs.Record.{end_of, type_of, size_of, has_data, IsSound}
use Rattle.romfs_format.specs.Tree.{kind_numbers, attributes_at, places_at, node_of, entries_at, by_type}
use Rattle.romfs_format.specs.Made.{made, list_at, IsRomfs}
use Rattle.rom_tree.proofs.ByKind.{by_kind_map, body_places_is, only_link, device_zero}
use Rattle.rom_tree.proofs.Numbers.{length_row, row_at}
use Rattle.romfs_format.proofs.Trees.{all_made}

-- how long the contents of the record at n are
abbrev pub file_size : List ℕ → ℕ → ℕ
file_size b n = by_type (type_of b n) 0 (size_of b n) (size_of b n) 0 0 0 0

pub made_places : (b : List ℕ) (r k n : ℕ) → places_of (made b r k n) ≡ row_from (end_of b n) (file_size b n)
unfolding made node_of places_at
made_places b r k n =
    body_places_is kind_numbers (type_of b n) (row_from (end_of b n) (size_of b n)) (entries_at b (list_at b r k n))
    ∙ sym (by_kind_map (row_from (end_of b n)) kind_numbers (type_of b n) 0 (size_of b n) (size_of b n) 0 0 0 0)

-- only data have a length
data_cases : (t s : ℕ) → IsTrue (has_data t) ⊎ (by_type t 0 s s 0 0 0 0 ≡ 0)
data_cases t s =
    elim (eqb_tells t 1) [
      | inl h ↦ inr (rw (h.0) refl)
      | inr h ↦
          elim (eqb_tells t 2) [
            | inl i ↦ inl (rw (i.0) (search rules))
            | inr i ↦
                elim (eqb_tells t 3) [
                  | inl j ↦ inl (rw (i.0, j.0) (search rules))
                  | inr j ↦
                      elim (eqb_tells t 4) [
                        | inl k ↦ inr (rw (h.0, i.0, j.0, k.0) refl)
                        | inr k ↦
                            elim (eqb_tells t 5) [
                              | inl l ↦ inr (rw (h.0, i.0, j.0, k.0, l.0) refl)
                              | inr l ↦
                                  elim (eqb_tells t 6) [
                                    | inl m ↦ inr
                                        (rw (h.0, i.0, j.0, k.0, l.0, m.0) refl)
                                    | inr m ↦ inr
                                        (rw (h.0, i.0, j.0, k.0, l.0, m.0) refl)
                                  ]
                            ]
                      ]
                ]
          ]
    ]

at_most : (t s : ℕ) → by_type t 0 s s 0 0 0 0 ≤ s
at_most t s =
    elim (eqb_tells t 1) [
      | inl h ↦ rw (h.0) (omega arith)
      | inr h ↦
          elim (eqb_tells t 2) [
            | inl i ↦ rw (h.0, i.0) (omega arith)
            | inr i ↦
                elim (eqb_tells t 3) [
                  | inl j ↦ rw (h.0, i.0, j.0) (omega arith)
                  | inr j ↦
                      elim (eqb_tells t 4) [
                        | inl k ↦ rw (h.0, i.0, j.0, k.0) (omega arith)
                        | inr k ↦
                            elim (eqb_tells t 5) [
                              | inl l ↦ rw (h.0, i.0, j.0, k.0, l.0) (omega arith)
                              | inr l ↦
                                  elim (eqb_tells t 6) [
                                    | inl m ↦ rw (h.0, i.0, j.0, k.0, l.0, m.0)
                                        (omega arith)
                                    | inr m ↦ rw (h.0, i.0, j.0, k.0, l.0, m.0) (omega arith)
                                  ]
                            ]
                      ]
                ]
          ]
    ]

pub file_fits : (b : List ℕ) (r n : ℕ) → IsSound b r n → end_of b n + file_size b n ≤ length b
file_fits b r n s =
    let w = s.within in
    let m = at_most (type_of b n) (size_of b n) in
    elim (data_cases (type_of b n) (size_of b n)) [
      | inl d ↦ let v = s.data_within d in omega arith
      | inr z ↦ omega arith
    ]

made_link : (b : List ℕ) (r k n : ℕ) → is_link (made b r k n) ≡ true → type_of b n ≡ 3
unfolding made node_of
made_link b r k n e = only_link kind_numbers (type_of b n) (places_at b n) (entries_at b (list_at b r k n)) e

made_zeros : (b : List ℕ) (r k n : ℕ) → is_device (made b r k n) ≡ false
    → ((attributes_of (made b r k n)).major ≡ 0) × ((attributes_of (made b r k n)).minor ≡ 0)
unfolding made node_of attributes_at
made_zeros b r k n e = (
  device_zero kind_numbers (type_of b n) (places_at b n) (entries_at b (list_at b r k n)) (word_be b (n + 4) / 65536) e,
  device_zero kind_numbers (type_of b n) (places_at b n) (entries_at b (list_at b r k n)) (word_be b (n + 4) % 65536) e,
)

link_size : (b : List ℕ) (n : ℕ) → type_of b n ≡ 3 → file_size b n ≡ size_of b n
link_size b n h = rw h refl

module _ {b : List ℕ} {r k : ℕ} where
  -- a link has a text of 1 to 4095 bytes
  pub made_links : IsRomfs b r k → (x : Node) → IsIn x (nodes (made b r k r)) → is_link x ≡ true
      → (0 < length (places_of x)) × (length (places_of x) ≤ 4095)
  made_links s x h e =
      let m = all_made s x h in
      let n : ℕ = ino_of x in
      let link = made_link b r k n (subst (λ (y : Node). is_link y ≡ true) m.is e) in
      let size : length (places_of x) ≡ size_of b n =
      ap (λ (y : Node). length (places_of y)) m.is ∙ ap length (made_places b r k n)
      ∙ length_row (end_of b n) (file_size b n) ∙ link_size b n link in
      let bounds = m.known.sound.link_size link in
      (omega arith, omega arith)

  -- each byte of a file or a link is one of the image
  pub made_placed : (bytes : List ℕ) → IsRomfs b r k → length b ≤ length bytes → (x : Node)
      → IsIn x (nodes (made b r k r)) → (j : ℕ) → j < length (places_of x) → slice_index (places_of x) j < length bytes
  made_placed bytes s within x h j l =
      let m = all_made s x h in
      let n : ℕ = ino_of x in
      let places : places_of x ≡ row_from (end_of b n) (file_size b n) = ap places_of m.is ∙ made_places b r k n in
      let size : length (places_of x) ≡ file_size b n = ap length places ∙ length_row (end_of b n) (file_size b n) in
      let fits = file_fits b r n m.known.sound in
      let small : j < file_size b n = omega arith in
      let at : slice_index (places_of x) j ≡ end_of b n + j =
      ap (λ (ps : List ℕ). slice_index ps j) places ∙ row_at (end_of b n) (file_size b n) j small in
      omega arith

  -- what is no device has no numbers of one
  pub made_devices : IsRomfs b r k → (x : Node) → IsIn x (nodes (made b r k r)) → is_device x ≡ false
      → ((attributes_of x).major ≡ 0) × ((attributes_of x).minor ≡ 0)
  made_devices s x h e =
      let m = all_made s x h in
      let n : ℕ = ino_of x in
      let other : is_device (made b r k n) ≡ false = subst (λ (y : Node). is_device y ≡ false) m.is e in
      let zeros = made_zeros b r k n other in (
        ap (λ (y : Node). (attributes_of y).major) m.is ∙ zeros.0,
        ap (λ (y : Node). (attributes_of y).minor) m.is ∙ zeros.1,
      )
