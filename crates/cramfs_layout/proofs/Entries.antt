-- An entry that was laid is read back, in either byte order.
use Rattle.std.proofs.Common.{◌≡◌, ◌≢◌, ℕ, zero, suc, ◌+◌, ◌-◌, ◌*◌, ◌/◌, ◌^◌, ◌<◌, List, [], ◌∷◌, ◌++◌, length, take}
use Rattle.std.proofs.Common.{replicate, refl, sym, ap, ◌∙◌, arith, append_assoc, length-append}
use Rattle.std.proofs.lemmas.List.{length-replicate, take_at}
use Rattle.std.proofs.lemmas.Bool.{ne_eqb}
use Rattle.std.specs.List.{AllByRecursion as Every}
use Rattle.byteorder.specs.Endian.{big_bytes, little_bytes, big_number, little_number}
use Rattle.byteorder.specs.Numbers.{big_number-reads_back, little_number-reads_back}
use Rattle.rom_fields.specs.Words.{word_be, word_le}
use Rattle.rom_tree.specs.declared.types.Kind.{Kind}
use Rattle.rom_tree.specs.declared.types.Kind.TheVariants.{Directory, Regular, Symlink, Block, Character, Socket, Fifo}
use Rattle.cramfs_format.specs.Order.{word, first_field, field_after, packed}
use Rattle.cramfs_format.specs.declared.order.Order.{Order}
use Rattle.cramfs_format.specs.declared.order.Order.TheVariants.{Little, Big}
use Rattle.cramfs_format.specs.Inode.{mode_of, uid_of, size_of, gid_of, offset_of, type_of, name_of, name_room, end_of}
use Rattle.cramfs_format.specs.Inode.{without_zeros}
use Rattle.rom_fields.specs.Parts.{HasAt}
use Rattle.manifest_tree.specs.Names.{Inode}
use Rattle.rom_fields.proofs.Parts.{HasAt-after, HasAt-moved}
use Rattle.cramfs_layout.specs.Layout.{word_bytes, pad4, type_bits, entry_len, entry_bytes}
use Rattle.cramfs_layout.specs.Reads.{IsEntry, ReadsEntry}

-- a word that is at an offset is read there
pub word_has : (o : Order) (b : List ℕ) (p x : ℕ) (more : List ℕ) → x < 2 ^ 32 → HasAt b p (word_bytes o x ++ more)
    → word o b p ≡ x
unfolding word word_be word_le
word_has Little b p x more h (back, e) =
    ap (little_number 4) (e ∙ append_assoc (little_bytes 4 x) more back)
    ∙ little_number-reads_back 4 x (more ++ back) (omega arith)
word_has Big b p x more h (back, e) =
    ap (big_number 4) (e ∙ append_assoc (big_bytes 4 x) more back)
    ∙ big_number-reads_back 4 x (more ++ back) (omega arith)

pub length-word : (o : Order) (x : ℕ) → length (word_bytes o x) ≡ 4
length-word Little x = refl
length-word Big x = refl

-- the two fields of a packed word
packed16 : (o : Order) (x y : ℕ) → x < 2 ^ 16 → y < 2 ^ 16
    → (packed o 16 x y < 2 ^ 32) × (first_field o 16 (packed o 16 x y) ≡ x) × (field_after o 16 (packed o 16 x y) ≡ y)
packed16 Little x y h k = (omega arith, omega arith, omega arith)
packed16 Big x y h k = (omega arith, omega arith, omega arith)

packed24 : (o : Order) (x y : ℕ) → x < 2 ^ 24 → y < 2 ^ 8
    → (packed o 24 x y < 2 ^ 32) × (first_field o 24 (packed o 24 x y) ≡ x) × (field_after o 24 (packed o 24 x y) ≡ y)
packed24 Little x y h k = (omega arith, omega arith, omega arith)
packed24 Big x y h k = (omega arith, omega arith, omega arith)

packed6 : (o : Order) (x y : ℕ) → x < 2 ^ 6 → y < 2 ^ 26
    → (packed o 6 x y < 2 ^ 32) × (first_field o 6 (packed o 6 x y) ≡ x) × (field_after o 6 (packed o 6 x y) ≡ y)
packed6 Little x y h k = (omega arith, omega arith, omega arith)
packed6 Big x y h k = (omega arith, omega arith, omega arith)

no_zeros : (k : ℕ) → without_zeros (replicate k 0) ≡ []
no_zeros zero = refl
no_zeros (suc k) = rw (no_zeros k) refl

ended : (name : List ℕ) (k : ℕ) → Every (λ x. x ≢ 0) name → without_zeros (name ++ replicate k 0) ≡ name
ended [] k h = no_zeros k
ended (x ∷ []) k h = rw (no_zeros k, ne_eqb x 0 h.0) refl
ended (x ∷ y ∷ ys) k h = rw (ended (y ∷ ys) k h.1) refl

kind_small : (k : Kind) → type_bits k < 16
kind_small Directory = omega arith
kind_small Regular = omega arith
kind_small Symlink = omega arith
kind_small Block = omega arith
kind_small Character = omega arith
kind_small Socket = omega arith
kind_small Fifo = omega arith

pub length-entry : (o : Order) (name : List ℕ) (i : Inode) (size offset : ℕ)
    → length (entry_bytes o name i size offset) ≡ entry_len name
unfolding entry_bytes
length-entry Little name i size offset =
    omega (
      arith,
      length-append name (replicate (pad4 (length name) - length name) 0),
      length-replicate {A = ℕ} (pad4 (length name) - length name) 0,
    )
length-entry Big name i size offset =
    omega (
      arith,
      length-append name (replicate (pad4 (length name) - length name) 0),
      length-replicate {A = ℕ} (pad4 (length name) - length name) 0,
    )

pub entry_reads : (o : Order) (b : List ℕ) (p : ℕ) (name : List ℕ) (i : Inode) (size offset : ℕ)
    → IsEntry name i size offset → HasAt b p (entry_bytes o name i size offset) → ReadsEntry o b p name i size offset
unfolding entry_bytes type_of mode_of uid_of size_of gid_of offset_of name_of name_room end_of
entry_reads o b p name i size offset h has =
    let mode = type_bits i.kind * 4096 + i.mode in
    let units = pad4 (length name) / 4 in
    let k = kind_small i.kind in
    let m = h.mode in
    let short = h.short in
    let small = h.offset_small in
    let even = h.offset_even in
    let padded = name ++ replicate (pad4 (length name) - length name) 0 in
    let mode_word = packed o 16 mode i.uid in
    let size_word = packed o 24 size i.gid in
    let offset_word = packed o 6 units (offset / 4) in
    let mode_packed = packed16 o mode i.uid (omega arith) h.uid in
    let size_packed = packed24 o size i.gid h.size_small h.gid in
    let offset_packed = packed6 o units (offset / 4) (omega arith) (omega arith) in
    let mode_long = length-word o mode_word in
    let size_long = length-word o size_word in
    let offset_long = length-word o offset_word in
    let h4 = HasAt-moved b (p + length (word_bytes o mode_word)) (p + 4)
    (word_bytes o size_word ++ (word_bytes o offset_word ++ padded)) (omega (arith, mode_long))
    (HasAt-after b p (word_bytes o mode_word)
    (word_bytes o size_word ++ (word_bytes o offset_word ++ padded)) has) in
    let h8 = HasAt-moved b (p + 4 + length (word_bytes o size_word)) (p + 8) (word_bytes o offset_word ++ padded)
    (omega (arith, size_long)) (HasAt-after b (p + 4) (word_bytes o size_word)
    (word_bytes o offset_word ++ padded) h4) in
    let h12 = HasAt-moved b (p + 8 + length (word_bytes o offset_word)) (p + 12) padded (omega (arith, offset_long))
    (HasAt-after b (p + 8) (word_bytes o offset_word) padded h8) in
    let mode_read =
    word_has o b p mode_word (word_bytes o size_word ++ (word_bytes o offset_word ++ padded)) mode_packed.0 has in
    let size_read = word_has o b (p + 4) size_word (word_bytes o offset_word ++ padded) size_packed.0 h4 in
    let offset_read = word_has o b (p + 8) offset_word padded offset_packed.0 h8 in
    let mode_is : first_field o 16 (word o b p) ≡ mode = ap (first_field o 16) mode_read ∙ mode_packed.1 in
    let units_is : first_field o 6 (word o b (p + 8)) ≡ units = ap (first_field o 6) offset_read ∙ offset_packed.1 in
    let room : first_field o 6 (word o b (p + 8)) * 4 ≡ length padded =
    omega (
      arith,
      units_is,
      length-append name (replicate (pad4 (length name) - length name) 0),
      length-replicate {A = ℕ} (pad4 (length name) - length name) 0,
    ) in
    let after_is : field_after o 6 (word o b (p + 8)) ≡ offset / 4 =
    ap (field_after o 6) offset_read ∙ offset_packed.2 in
    record {
      type = omega (arith, mode_is);
      mode = omega (arith, mode_is);
      uid = ap (field_after o 16) mode_read ∙ mode_packed.2;
      size_is = ap (first_field o 24) size_read ∙ size_packed.1;
      gid = ap (field_after o 24) size_read ∙ size_packed.2;
      offset_is = omega (arith, after_is);
      name_is = ap without_zeros (ap (take (first_field o 6 (word o b (p + 8)) * 4)) h12.1
          ∙ take_at padded h12.0 (first_field o 6 (word o b (p + 8)) * 4) (sym room))
          ∙ ended name (pad4 (length name) - length name) h.no_zero;
      end = omega (arith, units_is);
    }
