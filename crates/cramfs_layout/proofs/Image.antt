-- A planned volume, laid out, is a cramfs image.
use Rattle.std.proofs.Common.{◌≡◌, append_assoc, ℕ, zero, suc, ◌+◌, ◌-◌, ◌/◌, ◌%◌, ◌^◌, ◌<◌, ◌≤◌, true, false, eqb}
use Rattle.std.proofs.Common.{Bool, if◌then◌else◌, ◌⊎◌, List, [], ◌∷◌, ◌++◌, length, take, drop, replicate, refl, sym}
use Rattle.std.proofs.Common.{ap, subst, ◌∙◌, arith, inl, inr, length-append}
use Rattle.std.proofs.lemmas.List.{take_at, take_all, length-replicate, append-nil, drop-drop}
use Rattle.std.proofs.lemmas.Nat.{xor_lt}
use Rattle.std.specs.Int.Bits.{bit_xor}
use Rattle.cramfs_format.specs.Order.{word}
use Rattle.cramfs_format.specs.declared.order.Order.{Order}
use Rattle.cramfs_format.specs.declared.order.Order.TheVariants.{Little, Big}
use Rattle.cramfs_format.specs.Inode.{type_of, has_kinds}
use Rattle.cramfs_format.specs.Superblock.{magic, signature, size_word, has_crc, without_crc, HasCrc}
use Rattle.cramfs_format.specs.Superblock.{accessible_size, IsSuperblock}
use Rattle.crc.specs.Crc.{crc_of, after_bit, after_bits, after_bytes, polynomial}
use Rattle.cramfs_format.specs.Tree.{CramfsTree, tree_of}
use Rattle.rom_fields.specs.Parts.{Part, end_of_part, with_part, laid, Rises, end_of_parts, HasAt, HasParts}
use Rattle.manifest_tree.specs.Names.{Inode, Names, nothing, leaf, link, subdirectory}
use Rattle.rom_fields.specs.Parts.{part}
use Rattle.rom_fields.proofs.Padding.{pad-after}
use Rattle.rom_fields.proofs.Parts.{HasParts-laid, length-laid, laid_keeps}
use Rattle.rom_fields.proofs.Parts.{HasAt-before, HasAt-after, HasAt-moved}
use Rattle.cramfs_layout.specs.Layout.{word_bytes, entry_bytes, list_len, list_bytes, root_offset, files_of}
use Rattle.cramfs_layout.specs.Layout.{first_state, after_names, parts, flags, size_of, superblock, with_crc, layout}
use Rattle.cramfs_layout.specs.Layout.{type_bits}
use Rattle.cramfs_layout.specs.Reads.{IsEntry, ReadsEntry}
use Rattle.cramfs_layout.specs.Planned.{IsPlanned}
use Rattle.cramfs_layout.proofs.Entries.{length-entry, length-word, word_has, entry_reads}
use Rattle.cramfs_layout.proofs.Stored.{all_read, names_onward}
use Rattle.cramfs_layout.proofs.Whole.{Holds, all_spots, is_tree, root_placed}
use Rattle.cramfs_layout.proofs.Super.{front, behind, before_crc, after_crc, no_crc, signed, drop_crc, length-list}
use Rattle.cramfs_layout.proofs.Super.{parts_are}

bit_small : (c x : ℕ) → c < 2 ^ 32 → after_bit c x < 2 ^ 32
unfolding after_bit
bit_small c x h = elim (eqb (c % 2) x) as (λ t. (if t then c / 2 else bit_xor (c / 2) polynomial) < 2 ^ 32)
    [ true ↦ omega arith | false ↦ xor_lt 32 (c / 2) polynomial (omega arith) (omega arith) ]

bits_small : (n c x : ℕ) → c < 2 ^ 32 → after_bits n c x < 2 ^ 32
bits_small zero c x h = h
bits_small (suc n) c x h = bits_small n (after_bit c (x % 2)) (x / 2) (bit_small c (x % 2) h)

bytes_small : (c : ℕ) (xs : List ℕ) → c < 2 ^ 32 → after_bytes c xs < 2 ^ 32
bytes_small c [] h = h
bytes_small c (x ∷ xs) h = bytes_small (after_bits 8 c x) xs (bits_small 8 c x h)

crc_small : (xs : List ℕ) → crc_of xs < 2 ^ 32
unfolding crc_of
crc_small xs =
    xor_lt 32 (after_bytes (2 ^ 32 - 1) xs) (2 ^ 32 - 1) (bytes_small (2 ^ 32 - 1) xs (omega arith)) (omega arith)

-- what an image of this form says in its superblock
pub record Says (o : Order) (b : List ℕ) (size w : ℕ) : Type 0 where
  pub begins : word o b 0 ≡ magic
  pub size_is : word o b 4 ≡ size
  pub flags_are : word o b 8 ≡ flags
  pub crc_is : word o b 32 ≡ w

pub front_says : (o : Order) (b : List ℕ) (size w : ℕ) (back : List ℕ) → b ≡ front o size (word_bytes o w ++ back)
    → size < 2 ^ 32 → w < 2 ^ 32 → Says o b size w
front_says o b size w back e small low =
    let t4 = word_bytes o 0 ++ (signature ++ (word_bytes o w ++ back)) in
    let t3 = word_bytes o flags ++ t4 in
    let t2 = word_bytes o size ++ t3 in
    let h0 : HasAt b 0 (word_bytes o magic ++ t2) = ([], e ∙ sym (append-nil (word_bytes o magic ++ t2))) in
    let l1 = length-word o magic in
    let l2 = length-word o size in
    let l3 = length-word o flags in
    let l4 = length-word o 0 in
    let h4 = HasAt-moved b (0 + length (word_bytes o magic)) 4 t2 (omega (arith, l1))
    (HasAt-after b 0 (word_bytes o magic) t2 h0) in
    let h8 = HasAt-moved b (4 + length (word_bytes o size)) 8 t3 (omega (arith, l2))
    (HasAt-after b 4 (word_bytes o size) t3 h4) in
    let h12 = HasAt-moved b (8 + length (word_bytes o flags)) 12 t4 (omega (arith, l3))
    (HasAt-after b 8 (word_bytes o flags) t4 h8) in
    let h16 = HasAt-moved b (12 + length (word_bytes o 0)) 16 (signature ++ (word_bytes o w ++ back))
    (omega (arith, l4)) (HasAt-after b 12 (word_bytes o 0) (signature ++ (word_bytes o w ++ back)) h12) in
    let h32 : HasAt b 32 (word_bytes o w ++ back) =
    HasAt-moved b (16 + length signature) 32 (word_bytes o w ++ back) refl
    (HasAt-after b 16 signature (word_bytes o w ++ back) h16) in
    record {
      begins = word_has o b 0 magic t2 (omega arith) h0;
      size_is = word_has o b 4 size t3 small h4;
      flags_are = word_has o b 8 flags t4 (omega arith) h8;
      crc_is = word_has o b 32 w back low h32;
    }

-- behind the crc the parts are as they were laid
moved_by : (o : Order) (size w v : ℕ) (back : List ℕ) (p : ℕ) (bytes : List ℕ) → 36 ≤ p
    → HasAt (front o size (word_bytes o v ++ back)) p bytes → HasAt (front o size (word_bytes o w ++ back)) p bytes
moved_by o size w v back p bytes l (more, e) =
    let a = front o size (word_bytes o w ++ back) in
    let c = front o size (word_bytes o v ++ back) in
    let k : p ≡ 36 + (p - 36) = omega arith in
    let same : drop p a ≡ drop p c = ap (λ (q : ℕ). drop q a) k ∙ sym (drop-drop (p - 36) 36 a)
    ∙ ap (drop (p - 36)) (drop_crc o size w back ∙ sym (drop_crc o size v back)) ∙ drop-drop (p - 36) 36 c
    ∙ ap (λ (q : ℕ). drop q c) (sym k) in
    (more, same ∙ e)

parts_moved : (o : Order) (size w v : ℕ) (back : List ℕ) (from : ℕ) (ps : List Part) → 36 ≤ from → Rises from ps
    → HasParts (front o size (word_bytes o v ++ back)) ps → HasParts (front o size (word_bytes o w ++ back)) ps
parts_moved o size w v back from [] l r h = tt
parts_moved o size w v back from (p ∷ ps) l r h =
    let a = r.0 in (
      moved_by o size w v back p.place p.bytes (omega arith) h.0,
      parts_moved o size w v back (end_of_part p) ps (omega arith) r.1 h.1,
    )

parts_front : (b : List ℕ) (ps qs : List Part) → HasParts b (ps ++ qs) → HasParts b ps
parts_front b [] qs h = tt
parts_front b (p ∷ ps) qs h = (h.0, parts_front b ps qs h.1)

rises_end : (from to size : ℕ) (ps : List Part) → Rises from ps → end_of_parts from ps ≡ to → to ≤ size
    → Rises from (ps ++ part size [] ∷ []) × (end_of_parts from (ps ++ part size [] ∷ []) ≡ size)
rises_end from to size [] r e l = ((omega (arith, e), tt), omega arith)
rises_end from to size (p ∷ ps) r e l = let k = rises_end (end_of_part p) to size ps r.1 e l in ((r.0, k.0), k.1)

root_begins : (n : Names) → (root_offset n ≡ 0) ⊎ (root_offset n ≡ 76)
root_begins nothing = inl refl
root_begins (leaf name i after) = inr refl
root_begins (link name i after) = inr refl
root_begins (subdirectory name i own after) = inr refl

root_small : (n : Names) (high : ℕ) → 76 ≤ high → high ≤ 2 ^ 28 → (root_offset n < 2 ^ 28) × (root_offset n % 4 ≡ 0)
root_small nothing high l m = (omega arith, refl)
root_small (leaf name i after) high l m = (omega arith, refl)
root_small (link name i after) high l m = (omega arith, refl)
root_small (subdirectory name i own after) high l m = (omega arith, refl)

length_super : (o : Order) (volume : List ℕ) (root : Inode) (n : Names) → length volume ≤ 16
    → length (superblock o volume root n) ≡ 76
unfolding superblock
length_super Little volume root n l =
    let entry = entry_bytes Little [] root (list_len n) (root_offset n) in
    let zeros = replicate {A = ℕ} (16 - length volume) 0 in
    omega (
      arith,
      length-append volume (zeros ++ entry),
      length-append zeros entry,
      length-replicate {A = ℕ} (16 - length volume) 0,
      length-entry Little [] root (list_len n) (root_offset n),
    )
length_super Big volume root n l =
    let entry = entry_bytes Big [] root (list_len n) (root_offset n) in
    let zeros = replicate {A = ℕ} (16 - length volume) 0 in
    omega (
      arith,
      length-append volume (zeros ++ entry),
      length-append zeros entry,
      length-replicate {A = ℕ} (16 - length volume) 0,
      length-entry Big [] root (list_len n) (root_offset n),
    )

length_front : (o : Order) (size w : ℕ) (back : List ℕ)
    → length (front o size (word_bytes o w ++ back)) ≡ 36 + length back
length_front Little size w back = omega arith
length_front Big size w back = omega arith

root_at : (o : Order) (b volume : List ℕ) (root : Inode) (n : Names) (more : List ℕ) → length volume ≤ 16
    → HasAt b 36 (behind o volume root n more) → HasAt b 64 (entry_bytes o [] root (list_len n) (root_offset n))
root_at o b volume root n more l h =
    let entry = entry_bytes o [] root (list_len n) (root_offset n) in
    let zeros = replicate {A = ℕ} (16 - length volume) 0 in
    let named = volume ++ (zeros ++ entry) in
    let block_word = word_bytes o (size_of n / 4096) in
    let file_word = word_bytes o (files_of n) in
    let edition_long = length-word o 0 in
    let block_long = length-word o (size_of n / 4096) in
    let file_long = length-word o (files_of n) in
    let zeros_long = length-replicate {A = ℕ} (16 - length volume) 0 in
    let at_blocks = HasAt-moved b (36 + length (word_bytes o 0)) 40 (block_word ++ (file_word ++ (named ++ more)))
    (omega (arith, edition_long)) (HasAt-after b 36 (word_bytes o 0)
    (block_word ++ (file_word ++ (named ++ more))) h) in
    let at_files = HasAt-moved b (40 + length block_word) 44 (file_word ++ (named ++ more)) (omega (arith, block_long))
    (HasAt-after b 40 block_word (file_word ++ (named ++ more)) at_blocks) in
    let at_name = HasAt-moved b (44 + length file_word) 48 (named ++ more) (omega (arith, file_long))
    (HasAt-after b 44 file_word (named ++ more) at_files) in
    let behind_name = HasAt-after b 48 volume (zeros ++ entry) (HasAt-before b 48 named more at_name) in
    HasAt-moved b (48 + length volume + length zeros) 64 entry (omega (arith, zeros_long))
    (HasAt-after b (48 + length volume) zeros entry behind_name)

-- the volume's name, and zeros up to 16 bytes
name_at : (o : Order) (b volume : List ℕ) (root : Inode) (n : Names) (more : List ℕ)
    → HasAt b 36 (behind o volume root n more) → HasAt b 48 (volume ++ replicate (16 - length volume) 0)
name_at o b volume root n more h =
    let entry = entry_bytes o [] root (list_len n) (root_offset n) in
    let zeros = replicate {A = ℕ} (16 - length volume) 0 in
    let named = volume ++ (zeros ++ entry) in
    let block_word = word_bytes o (size_of n / 4096) in
    let file_word = word_bytes o (files_of n) in
    let edition_long = length-word o 0 in
    let block_long = length-word o (size_of n / 4096) in
    let file_long = length-word o (files_of n) in
    let at_blocks = HasAt-moved b (36 + length (word_bytes o 0)) 40 (block_word ++ (file_word ++ (named ++ more)))
    (omega (arith, edition_long)) (HasAt-after b 36 (word_bytes o 0)
    (block_word ++ (file_word ++ (named ++ more))) h) in
    let at_files = HasAt-moved b (40 + length block_word) 44 (file_word ++ (named ++ more)) (omega (arith, block_long))
    (HasAt-after b 40 block_word (file_word ++ (named ++ more)) at_blocks) in
    let at_name = HasAt-moved b (44 + length file_word) 48 (named ++ more) (omega (arith, file_long))
    (HasAt-after b 44 file_word (named ++ more) at_files) in
    let whole : HasAt b 48 named = HasAt-before b 48 named more at_name in
    HasAt-before b 48 (volume ++ zeros) entry (subst (HasAt b 48) (sym (append_assoc volume zeros entry)) whole)

name_says : (b volume : List ℕ) → length volume ≤ 16 → HasAt b 48 (volume ++ replicate (16 - length volume) 0)
    → take 16 (drop 48 b) ≡ volume ++ replicate (16 - length volume) 0
name_says b volume l (back, e) =
    let zeros = replicate {A = ℕ} (16 - length volume) 0 in
    let n : length (volume ++ zeros) ≡ 16 =
    omega (arith, l, length-append volume zeros, length-replicate {A = ℕ} (16 - length volume) 0) in
    ap (take 16) e ∙ take_at (volume ++ zeros) back 16 n

-- the parts of a layout
abbrev pub all_parts : Order → List ℕ → Inode → Names → List (List ℕ) → List Part
all_parts o volume root n cs =
    part 0 (superblock o volume root n) ∷ part 76 (list_bytes o (first_state n) n)
    ∷ (parts o cs (first_state n) n ++ part (size_of n) [] ∷ [])

-- they are one after the other, up to the size of the image
pub record AreLaid (o : Order) (volume : List ℕ) (root : Inode) (n : Names) (cs : List (List ℕ)) : Type 0 where
  pub first : length (superblock o volume root n) ≡ 76
  pub rises : Rises 0 (all_parts o volume root n cs)
  pub long : length (laid [] (all_parts o volume root n cs)) ≡ size_of n

pub are_laid : (o : Order) (volume : List ℕ) (root : Inode) (n : Names) (cs : List (List ℕ))
    → IsPlanned volume root n cs → AreLaid o volume root n cs
unfolding size_of
are_laid o volume root n cs h =
    let s = first_state n in
    let high = (after_names s n).at in
    let size = size_of n in
    let list = part 76 (list_bytes o s n) in
    let rest = parts o cs s n in
    let end = part size [] ∷ [] in
    let all = all_parts o volume root n cs in
    let up : high ≤ size = pad-after high 4096 (omega arith) in
    let lsb = length_super o volume root n h.short in
    let ll = length-list o s n in
    let are = parts_are o cs s n h.well in
    let behind_list : s.at ≡ end_of_part list = omega (arith, ll) in
    let are' = rises_end s.at high size rest are.rises are.ends_at up in
    let tail_rises = subst (λ (v : ℕ). Rises v (rest ++ end)) behind_list are'.0 in
    let rises : Rises 0 all = (omega arith, (omega (arith, lsb), tail_rises)) in
    record {
      first = lsb;
      rises = rises;
      long = length-laid [] all rises ∙ ap (λ (v : ℕ). end_of_parts v (rest ++ end)) (sym behind_list) ∙ are'.1;
    }

-- the accessible bytes are all, whether the size is stored or not
accessible_by : (o : Order) (b : List ℕ) (size : ℕ) (c : Bool) → has_crc o b ≡ c → size_word o b ≡ size
    → length b ≡ size → length b ≤ 2 ^ 28 → accessible_size o b ≡ size
unfolding accessible_size
accessible_by o b size true e stored long l = rw e stored
accessible_by o b size false e stored long l = rw e (omega (arith, long, l))

-- what the bytes of a planned volume are
pub record IsImage (o : Order) (b : List ℕ) (root : Inode) (n : Names) (cs : List (List ℕ)) : Type 0 where
  pub super : IsSuperblock o b b
  pub holds : Holds o b cs root n
  pub read : ReadsEntry o b 64 [] root (list_len n) (root_offset n)
  pub long : length b ≡ size_of n

pub is_image : (o : Order) (volume : List ℕ) (root : Inode) (n : Names) (cs : List (List ℕ))
    → IsPlanned volume root n cs → IsImage o (layout o volume root n cs) root n cs
unfolding layout with_part size_of accessible_size HasCrc superblock
is_image o volume root n cs h =
    let s = first_state n in
    let high = (after_names s n).at in
    let size = size_of n in
    let room = h.room in
    let short = h.short in
    let sb = superblock o volume root n in
    let entry = entry_bytes o [] root (list_len n) (root_offset n) in
    let list = part 76 (list_bytes o s n) in
    let rest = parts o cs s n in
    let end = part size [] ∷ [] in
    let u = laid [] (part 0 sb ∷ list ∷ (rest ++ end)) in
    let are = are_laid o volume root n cs h in
    let low = names_onward cs s n h.well in
    let up : high ≤ size = pad-after high 4096 (omega arith) in
    let lu = are.long in
    let keeps = laid_keeps sb (list ∷ (rest ++ end)) in
    let back = behind o volume root n keeps.0 in
    let form : u ≡ front o size (word_bytes o 0 ++ back) = keeps.1 ∙ before_crc o volume root n keeps.0 in
    let w = crc_of (front o size (word_bytes o 0 ++ back)) in
    let b = with_crc o u in
    let bform : b ≡ front o size (word_bytes o w ++ back) = ap (with_crc o) form ∙ after_crc o size back in
    let lb : length b ≡ size =
    ap length bform ∙ length_front o size w back ∙ sym (length_front o size 0 back) ∙ ap length (sym form) ∙ lu in
    let says = front_says o b size w back bform (omega arith) (crc_small (front o size (word_bytes o 0 ++ back))) in
    let laid_parts = (HasParts-laid [] (part 0 sb ∷ list ∷ (rest ++ end)) are.rises).1 in
    let moved = parts_moved o size w 0 back 76 (list ∷ (rest ++ end)) (omega arith) (omega arith, are.rises.1.1)
    (subst (λ (x : List ℕ). HasParts x (list ∷ (rest ++ end))) form laid_parts) in
    let has = subst (λ (x : List ℕ). HasParts x (list ∷ (rest ++ end))) (sym bform) moved in
    let own = parts_front b rest end has.1 in
    let has36 : HasAt b 36 back = ([], ap (drop 36) bform ∙ drop_crc o size w back ∙ sym (append-nil back)) in
    let has64 = root_at o b volume root n keeps.0 short has36 in
    let small = root_small n high (omega (arith, low)) (omega (arith, up, room)) in
    let entry_ok : IsEntry [] root (list_len n) (root_offset n) = record {
      mode = h.directory.mode;
      uid = h.directory.owner.0;
      size_small = h.directory.small;
      gid = h.directory.owner.1;
      short = omega arith;
      offset_small = small.0;
      offset_even = small.1;
      no_zero = tt;
    } in
    let read = entry_reads o b 64 [] root (list_len n) (root_offset n) entry_ok has64 in
    let kind : type_of o b 64 ≡ 4 = read.type ∙ ap type_bits h.directory.kind in
    let holds : Holds o b cs root n = record {
      flag = ap has_kinds says.flags_are;
      kind = kind;
      offset_is = read.offset_is;
      size_is = read.size_is;
      well = h.well;
      reads = (all_read o b cs high 76 s n h.well (omega arith) (omega arith)
          (omega (arith, up, room)) tt has.0 own).all;
      has = own;
      within = omega (arith, up, lb);
      room = omega (arith, up, room);
    } in
    let access : accessible_size o b ≡ size =
    accessible_by o b size (has_crc o b) refl says.size_is lb (omega (arith, lb, room)) in
    let sizes = says.size_is in
    let marks = says.flags_are in
    let offset_is = read.offset_is in
    let size_is = read.size_is in
    record {
      super = record {
        long = omega (arith, lb, low, up);
        begins = says.begins;
        size = λ _. (omega (arith, sizes, low, up), omega (arith, sizes, lb));
        cut = sym (take_all (accessible_size o b) b (omega (arith, access, lb)));
        flags = omega (arith, marks);
        crc = λ _. says.crc_is ∙ ap crc_of (sym (ap without_crc bform ∙ no_crc o size w back));
        signed = ap (λ (x : List ℕ). take 16 (drop 16 x)) bform ∙ signed o size (word_bytes o w ++ back);
        root = record {
          directory = kind;
          begins =
              λ _. elim (root_begins n) [ inl z ↦ inl (read.offset_is ∙ z) | inr z ↦ inr (inl (read.offset_is ∙ z)) ];
          empty = λ z. elim (root_placed n)
              [ inl y ↦ read.size_is ∙ ap list_len y | inr y ↦ absurd (omega (arith, z, y, offset_is)) ];
        };
      };
      holds = holds;
      read = read;
      long = lb;
    }

pub has_tree : (o : Order) (volume : List ℕ) (root : Inode) (n : Names) (cs : List (List ℕ))
    → IsPlanned volume root n cs
    → CramfsTree o (layout o volume root n cs) (2 ^ 20) 64 (tree_of o (layout o volume root n cs) (all_spots n))
has_tree o volume root n cs h =
    let b = layout o volume root n cs in
    let i = is_image o volume root n cs h in
    record {
      b = b;
      super = i.super;
      forest = all_spots n;
      whole = is_tree o b cs root n (2 ^ 20) 64 i.holds h.few (let k = h.shallow in omega arith);
      same = refl;
    }

pub has_length : (o : Order) (volume : List ℕ) (root : Inode) (n : Names) (cs : List (List ℕ))
    → IsPlanned volume root n cs → length (layout o volume root n cs) ≡ size_of n
has_length o volume root n cs h = (is_image o volume root n cs h).long

-- the form of a layout, whose crc is that of its bytes
pub record IsFormed (o : Order) (volume : List ℕ) (root : Inode) (n : Names) (b : List ℕ) : Type 0 where
  pub more : List ℕ
  pub crc : ℕ
  pub is : b ≡ front o (size_of n) (word_bytes o crc ++ behind o volume root n more)
  pub small : crc < 2 ^ 32
  pub of_bytes : crc ≡ crc_of (without_crc b)
  pub has36 : HasAt b 36 (behind o volume root n more)

pub formed : (o : Order) (volume : List ℕ) (root : Inode) (n : Names) (cs : List (List ℕ))
    → IsFormed o volume root n (layout o volume root n cs)
unfolding layout with_part size_of superblock
formed o volume root n cs =
    let s = first_state n in
    let size = size_of n in
    let sb = superblock o volume root n in
    let list = part 76 (list_bytes o s n) in
    let rest = parts o cs s n in
    let end = part size [] ∷ [] in
    let u = laid [] (part 0 sb ∷ list ∷ (rest ++ end)) in
    let keeps = laid_keeps sb (list ∷ (rest ++ end)) in
    let back = behind o volume root n keeps.0 in
    let form : u ≡ front o size (word_bytes o 0 ++ back) = keeps.1 ∙ before_crc o volume root n keeps.0 in
    let w = crc_of (front o size (word_bytes o 0 ++ back)) in
    let b = with_crc o u in
    let bform : b ≡ front o size (word_bytes o w ++ back) = ap (with_crc o) form ∙ after_crc o size back in
    record {
      more = keeps.0;
      crc = w;
      is = bform;
      small = crc_small (front o size (word_bytes o 0 ++ back));
      of_bytes = ap crc_of (sym (ap without_crc bform ∙ no_crc o size w back));
      has36 = ([], ap (drop 36) bform ∙ drop_crc o size w back ∙ sym (append-nil back));
    }

pub has_name : (o : Order) (volume : List ℕ) (root : Inode) (n : Names) (cs : List (List ℕ))
    → IsPlanned volume root n cs
    → take 16 (drop 48 (layout o volume root n cs)) ≡ volume ++ replicate (16 - length volume) 0
has_name o volume root n cs h =
    let b = layout o volume root n cs in
    let f = formed o volume root n cs in
    name_says b volume h.short (name_at o b volume root n f.more f.has36)
