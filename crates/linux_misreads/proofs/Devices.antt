-- The numbers of a device, in the tree and in its record of romfs.
use Rattle.std.proofs.Common.{◌≡◌, ℕ, ◌+◌, ◌/◌, ◌%◌, true, false, List, length, inl, inr, refl, sym}
use Rattle.std.proofs.Common.{ap, subst, ◌∙◌, arith}
use Rattle.std.proofs.lemmas.Bool.{true≢false}
use Rattle.std.proofs.lemmas.Bool.Decides.{eqb_tells}
use Rattle.rom_fields.specs.Words.{word_be}
use Rattle.rom_tree.specs.Kinds.{KindNumbers, body_by, by_kind, device_by}
use Rattle.rom_tree.specs.Tree.{Node, Entries, IsIn, attributes_of, ino_of, is_device, is_device_body, nodes}
use Rattle.rom_tree.specs.Tree.{directory, regular, symlink, block, character, socket, fifo}
use Rattle.rom_tree.proofs.ByKind.{by_kind_map}
use Rattle.romfs_format.specs.Made.{made, list_at}
use Rattle.romfs_format.specs.Record.{type_of}
use Rattle.romfs_format.specs.Tree.{attributes_at, entries_at, kind_numbers, node_of, places_at}
use Rattle.romfs_format.proofs.Trees.{all_made}
use Rattle.romfs_image.specs.declared.image.Romfs.{Romfs}
use Rattle.image_check.proofs.Fronts.{front_be}
use Rattle.linux_misreads.specs.Readers.{device_number, romfs_device}
use Rattle.linux_misreads.specs.Tables.{romfs_view}

-- only block and character devices have numbers
numbered : (k : KindNumbers) (t n : ℕ) → by_kind k t false false false true true false false ≡ true
    → device_by k t n ≡ n
numbered k t n h = elim (eqb_tells t k.of_directory) [
  | inl a ↦ absurd (true≢false (sym (rw a.0 at h)))
  | inr a ↦ elim (eqb_tells t k.of_regular) [
    | inl b ↦ absurd (true≢false (sym (rw (a.0, b.0) at h)))
    | inr b ↦ elim (eqb_tells t k.of_symlink) [
      | inl d ↦ absurd (true≢false (sym (rw (a.0, b.0, d.0) at h)))
      | inr d ↦ elim (eqb_tells t k.of_block) [
        | inl e ↦ rw (a.0, b.0, d.0, e.0) refl
        | inr e ↦ elim (eqb_tells t k.of_character) [
          | inl f ↦ rw (a.0, b.0, d.0, e.0, f.0) refl
          | inr f ↦ elim (eqb_tells t k.of_socket) [
            | inl g ↦ absurd (true≢false (sym (rw (a.0, b.0, d.0, e.0, f.0, g.0) at h)))
            | inr g ↦ absurd (true≢false (sym (rw (a.0, b.0, d.0, e.0, f.0, g.0) at h)))
          ]
        ]
      ]
    ]
  ]
]

pub device_here : (k : KindNumbers) (t n : ℕ) (ps : List ℕ) (es : Entries)
    → is_device_body (body_by k t ps es) ≡ true → device_by k t n ≡ n
device_here k t n ps es h = numbered k t n
    (sym (by_kind_map is_device_body k t (directory es) (regular ps) (symlink ps) block character socket fifo) ∙ h)

-- of the node that is made of a record
made_number : (b : List ℕ) (r k p : ℕ) → is_device (made b r k p) ≡ true
    → ((attributes_of (made b r k p)).major ≡ word_be b (p + 4) / 65536)
    × ((attributes_of (made b r k p)).minor ≡ word_be b (p + 4) % 65536)
unfolding made node_of attributes_at
made_number b r k p h = (
  device_here kind_numbers (type_of b p) (word_be b (p + 4) / 65536) (places_at b p) (entries_at b (list_at b r k p)) h,
  device_here kind_numbers (type_of b p) (word_be b (p + 4) % 65536) (places_at b p) (entries_at b (list_at b r k p)) h,
)

pub kept : (s : Romfs) (x : Node) → IsIn x (nodes (romfs_view s).tree) → is_device x ≡ true
    → romfs_device (romfs_view s).bytes (ino_of x) ≡ device_number (attributes_of x).major (attributes_of x).minor
kept s x i d =
    let b : List ℕ = s.accessible.bytes.now in
    let p : ℕ = ino_of x in
    let m = all_made s.sound x i in
    let h = m.known.sound.header in
    let same : word_be s.all.now (p + 4) ≡ word_be b (p + 4) =
    sym (ap (λ (v : List ℕ). word_be v (p + 4)) s.front ∙ front_be s.all.now (length b) (p + 4) (omega (arith, h))) in
    let n = made_number b s.accessible.root s.references p (subst (λ (y : Node). is_device y ≡ true) m.is d) in
    let major : (attributes_of x).major ≡ word_be b (p + 4) / 65536 =
    ap (λ (y : Node). (attributes_of y).major) m.is ∙ n.0 in
    let minor : (attributes_of x).minor ≡ word_be b (p + 4) % 65536 =
    ap (λ (y : Node). (attributes_of y).minor) m.is ∙ n.1 in
    ap (λ (w : ℕ). device_number (w / 65536) (w % 65536)) same
    ∙ (ap (λ (v : ℕ). device_number v (word_be b (p + 4) % 65536)) (sym major)
    ∙ ap (device_number (attributes_of x).major) (sym minor))
