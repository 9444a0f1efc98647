-- A planned volume, laid out, is a romfs image.
use Rattle.std.proofs.Common.{◌≡◌, ◌≢◌, ℕ, ◌+◌, ◌-◌, ◌%◌, ◌^◌, ◌<◌, ◌≤◌, suc, min, true, false, eqb, if◌then◌else◌}
use Rattle.std.proofs.Common.{List, [], ◌∷◌, ◌++◌, length, take, drop, replicate, refl, sym, ap, subst, ◌∙◌, arith, inl}
use Rattle.std.proofs.Common.{inr, length-append}
use Rattle.std.proofs.lemmas.Bool.{cases_lt}
use Rattle.std.proofs.lemmas.List.{length-replicate, length-take, length-drop, take_at, take_all, drop-append-le}
use Rattle.std.specs.List.{AllByRecursion as Every}
use Rattle.byteorder.specs.Endian.{big_bytes, big_number}
use Rattle.byteorder.specs.Numbers.{big_number-reads_back}
use Rattle.rom_fields.specs.Words.{word_be, words_sum, words_total}
use Rattle.record_forest.proofs.Lists.{every_join}
use Rattle.rom_tree.specs.Tree.{Node}
use Rattle.romfs_format.specs.Record.{name_of, before_zero}
use Rattle.romfs_format.specs.Tree.{magic, full_size, root_of, RomfsTree, node_of}
use Rattle.rom_tree.specs.Dots.{dot, dot_dot}
use Rattle.rom_fields.specs.Parts.{Part, end_of_part, with_part, laid, Rises, end_of_parts, HasAt, HasParts}
use Rattle.rom_fields.specs.Sums.{balance, sealed}
use Rattle.manifest_tree.specs.Names.{no_bytes, Inode, Names, nothing, leaf, link, subdirectory, bytes_of}
use Rattle.romfs_layout.specs.Layout.{Header, placed, place_with, number_of, code_of, record_len, leaf_end, header_end}
use Rattle.romfs_layout.specs.Layout.{ends, first_place, padded_name, parts, root_at, all_headers, full_size_of}
use Rattle.romfs_layout.specs.Layout.{superblock, image_of, layout}
use Rattle.rom_fields.specs.Parts.{part}
use Rattle.rom_fields.specs.Padding.{pad}
use Rattle.manifest_tree.specs.Files.{Placed}
use Rattle.romfs_layout.specs.Reads.{IsHeader}
use Rattle.romfs_layout.specs.Wells.{AreWell}
use Rattle.romfs_layout.specs.Forest.{all_offsets}
use Rattle.romfs_layout.specs.Planned.{IsPlanned}
use Rattle.rom_fields.proofs.Parts.{HasParts-laid, length-laid, laid_keeps}
use Rattle.rom_fields.proofs.Padding.{pad-after}
use Rattle.romfs_layout.proofs.ReadBack.{length-header, length-padded_name, name_of-has, all_read}
use Rattle.rom_fields.proofs.Sealed.{HasAt-sealed, words_sum-sealed}
use Rattle.romfs_layout.proofs.Places.{ends_after, first_even, first_within}
use Rattle.romfs_layout.proofs.Headers.{Ascend, code_is, alone_header, headers_well, dot_name, dots_name}
use Rattle.romfs_layout.proofs.Stands.{says}
use Rattle.romfs_layout.proofs.Entries.{made_of}
use Rattle.romfs_layout.proofs.Whole.{Holds, all_ascend, is_tree}

-- each file is before the end
placed_low : (cs : List (List ℕ)) (from to : ℕ) (n : Names) → AreWell cs n → ends from n ≤ to
    → Every (λ (x : Placed). x.place ≤ to) (placed from n)
placed_low cs from to nothing h l = tt
placed_low cs from to (leaf name i after) h l =
    let e = ends_after cs (leaf_end from name i) after h.2 in
    (omega arith, placed_low cs (leaf_end from name i) to after h.2 l)
placed_low cs from to (link name i after) h l = placed_low cs (header_end from name) to after h.2 l
placed_low cs from to (subdirectory name i own after) h l =
    let he = header_end from name in
    let q = ends (he + 64) own in
    let o = ends_after cs (he + 64) own h.2 in
    let e = ends_after cs q after h.3 in (
      omega arith,
      every_join (λ (x : Placed). x.place ≤ to) (placed (he + 64) own) (placed q after)
          (placed_low cs (he + 64) to own h.2 (omega arith)) (placed_low cs q to after h.3 l),
    )

with_low : (to : ℕ) (xs : List Placed) (line : ℕ) → Every (λ (x : Placed). x.place ≤ to) xs → place_with xs line ≤ to
with_low to [] line h = omega arith
with_low to (x ∷ xs) line h = elim (eqb x.inode.line line) as (λ t. (if t then x.place else place_with xs line) ≤ to)
    [ true ↦ h.0 | false ↦ with_low to xs line h.1 ]

-- the parts of headers are one after the other, up to the end
record AreParts (from size : ℕ) (ps : List Part) : Type 0 where
  rises : Rises from ps
  ends_at : end_of_parts from ps ≡ size

parts_rise : (cs : List (List ℕ)) (from to size : ℕ) (is : List Header) → Every (IsHeader cs) is → Ascend from to is
    → to ≤ size → AreParts from size (parts cs is ++ part size [] ∷ [])
parts_rise cs from to size [] w a l = record { rises = (omega arith, tt); ends_at = omega arith }
parts_rise cs from to size (i ∷ is) w a l =
    let q = i.place + record_len i.name in
    let len = length-header i.next i.spec i.size i.name in
    let content = w.0.content in
    let later = parts_rise cs (q + i.size) to size is w.1 a.1 l in
    let e : q + i.size ≡ q + length (bytes_of cs i.fill) = omega (arith, content) in
    let later' = subst (λ (v : ℕ). AreParts v size (parts cs is ++ part size [] ∷ [])) e later in
    record { rises = (a.0, (omega (arith, len), later'.rises)); ends_at = later'.ends_at }

-- the seal changes no part behind it
parts_sealed : (b : List ℕ) (from : ℕ) (ps : List Part) → 16 ≤ length b → 16 ≤ from → Rises from ps → HasParts b ps
    → HasParts (sealed b) ps
parts_sealed b from [] l m r h = tt
parts_sealed b from (p ∷ ps) l m r h =
    let a = r.0 in
    (HasAt-sealed b p.place p.bytes l (omega arith) h.0, parts_sealed b (end_of_part p) ps l (omega arith) r.1 h.1)

parts_front : (cs : List (List ℕ)) (b : List ℕ) (is : List Header) (ps : List Part) → HasParts b (parts cs is ++ ps)
    → HasParts b (parts cs is)
parts_front cs b [] ps h = tt
parts_front cs b (i ∷ is) ps h = (h.0, (h.1.0, parts_front cs b is ps h.1.1))

length-sealed : (b : List ℕ) → 16 ≤ length b → length (sealed b) ≡ length b
unfolding sealed
length-sealed b h =
    let w = big_bytes 4 (balance (words_total (take 512 b))) in
    omega (
      arith,
      length-append (take 12 b) (w ++ drop 16 b),
      length-append w (drop 16 b),
      length-take 12 b,
      length-drop 16 b,
    )

-- what an image with this superblock begins with
sealed_begins : (size : ℕ) (volume more : List ℕ)
    → (back : List ℕ) × (sealed (superblock size volume ++ more) ≡ magic ++ (big_bytes 4 size ++ back))
unfolding sealed
sealed_begins size volume more = (_, refl)

-- the tree of a volume in these bytes
unfoldable pub tree_in : List ℕ → List ℕ → Names → Node
tree_in b volume n = let r = root_at volume in node_of b r (made_of b (place_with (placed (r + 64) n)) (r + 64) n)

-- what the accessible bytes of a planned volume are
pub record IsImage (volume : List ℕ) (root : Inode) (n : Names) (cs : List (List ℕ)) (b : List ℕ) : Type 0 where
  pub size : length b ≡ full_size_of (root_at volume) n
  pub begins : (back : List ℕ) × (b ≡ magic ++ (big_bytes 4 (full_size_of (root_at volume) n) ++ back))
  pub sum : words_sum (take 512 b) ≡ 0
  pub name : before_zero (drop 16 b) ≡ volume
  pub holds : Holds b (root_at volume) cs root n

pub planned_headers : (volume : List ℕ) (root : Inode) (n : Names) (cs : List (List ℕ)) → IsPlanned volume root n cs
    → Every (IsHeader cs) (all_headers (root_at volume) root n)
planned_headers volume root n cs h =
    let r = root_at volume in
    let xs = placed (r + 64) n in
    let room = h.room in
    let c = code_is root in
    let small = c.small in
    let kind : code_of root % 8 ≡ 1 = c.kind ∙ ap number_of h.directory.kind in
    let after = ends_after cs (r + 64) n h.well in
    let e = first_even cs (r + 64) n h.well in
    let w = first_within cs (r + 64) n h.well in
    let low = placed_low cs (r + 64) (2 ^ 28) n h.well room in (
      alone_header cs (record {
        place = r;
        next = r + 32 + code_of root;
        spec = r;
        size = 0;
        name = dot;
        start = 0;
        fill = no_bytes;
      }) refl refl (omega arith) (omega arith) dot_name (λ z. absurd (omega arith)),
      (
        alone_header cs (record {
          place = r + 32;
          next = first_place (r + 64) n;
          spec = r;
          size = 0;
          name = dot_dot;
          start = 0;
          fill = no_bytes;
        }) refl refl (omega arith) (omega arith) dots_name (λ z. absurd (omega arith)),
        headers_well cs (place_with xs) r (r + 64) n (λ k. let p = with_low (2 ^ 28) xs k low in omega arith) h.well
            (omega arith) (omega arith),
      ),
    )

named : (b name : List ℕ) → Every (λ x. x ≢ 0) name → HasAt b 16 (padded_name name) → before_zero (drop 16 b) ≡ name
unfolding name_of
named b name k a = name_of-has b 0 name k a

-- the sum of the first 512 bytes, or of all
pub sum_at : (b : List ℕ) → words_sum (take 512 b) ≡ 0 → words_sum (take (min 512 (length b)) b) ≡ 0
sum_at b e = elim (cases_lt 512 (length b)) [
  | inl l ↦ let m : min 512 (length b) ≡ 512 = omega arith in rw m e
  | inr l ↦ let m : take (min 512 (length b)) b ≡ take 512 b =
      take_all (min 512 (length b)) b (omega arith) ∙ sym (take_all 512 b (omega arith)) in ap words_sum m ∙ e
]

pub is_image : (volume : List ℕ) (root : Inode) (n : Names) (cs : List (List ℕ)) → IsPlanned volume root n cs
    → IsImage volume root n cs (image_of volume (full_size_of (root_at volume) n) cs
    (all_headers (root_at volume) root n))
unfolding image_of with_part
is_image volume root n cs h =
    let r = root_at volume in
    let size = full_size_of r n in
    let is = all_headers r root n in
    let room = h.room in
    let after = ends_after cs (r + 64) n h.well in
    let sb = superblock size volume in
    let tail = parts cs is ++ part size [] ∷ [] in
    let u = laid [] (part 0 sb ∷ tail) in
    let ln = length-padded_name volume in
    let lsb : length sb ≡ r = omega (arith, ln) in
    let headers' = planned_headers volume root n cs h in
    let up = all_ascend r cs root n h.well in
    let are = parts_rise cs r (ends (r + 64) n) size is headers' up (omega arith) in
    let first_end : r ≡ end_of_part (part 0 sb) = omega (arith, lsb) in
    let rises : Rises 0 (part 0 sb ∷ tail) = (omega arith, subst (λ (v : ℕ). Rises v tail) first_end are.rises) in
    let lu : length u ≡ size =
    length-laid [] (part 0 sb ∷ tail) rises ∙ ap (λ (v : ℕ). end_of_parts v tail) (sym first_end) ∙ are.ends_at in
    let b = sealed u in
    let lb : length b ≡ size = length-sealed u (omega (arith, lu)) ∙ lu in
    let laid_parts = HasParts-laid [] (part 0 sb ∷ tail) rises in
    let sealed_parts = parts_sealed u r tail (omega (arith, lu)) (omega arith) are.rises laid_parts.1 in
    let own_parts = parts_front cs b is (part size [] ∷ []) sealed_parts in
    let front = laid_keeps sb tail in
    let whole : u ≡ sb ++ front.0 = front.1 in
    let begins = sealed_begins size volume front.0 in
    let has16 : HasAt u 16 (padded_name volume) = (front.0, ap (drop 16) whole) in
    let has12 : HasAt u 12 (big_bytes 4 0) = (padded_name volume ++ front.0, ap (drop 12) whole) in
    record {
      size = lb;
      begins = (begins.0, ap sealed whole ∙ begins.1);
      sum = words_sum-sealed u (omega (arith, lu)) has12;
      name = named b volume h.no_zero (HasAt-sealed u 16 (padded_name volume) (omega (arith, lu)) (omega arith) has16);
      holds = record {
        positive = omega arith;
        even = omega arith;
        directory = h.directory;
        well = h.well;
        links = h.links;
        headers = headers';
        reads = all_read b cs is headers' own_parts;
        within = omega (arith, lb);
      };
    }

pub has_tree : (volume : List ℕ) (root : Inode) (n : Names) (cs : List (List ℕ)) → IsPlanned volume root n cs
    → RomfsTree (layout volume root n cs) (2 ^ 20) 64
    (tree_in (image_of volume (full_size_of (root_at volume) n) cs (all_headers (root_at volume) root n)) volume n)
unfolding layout word_be root_of tree_in
has_tree volume root n cs h =
    let r = root_at volume in
    let size = full_size_of r n in
    let is = all_headers r root n in
    let b = image_of volume size cs is in
    let i = is_image volume root n cs h in
    let ls = i.size in
    let zeros = replicate {A = ℕ} (pad size 1024 - size) 0 in
    let v = b ++ zeros in
    let room = h.room in
    let after = ends_after cs (r + 64) n h.well in
    let lv = length-append b zeros in
    let whole : v ≡ magic ++ (big_bytes 4 size ++ (i.begins.0 ++ zeros)) = ap (λ (x : List ℕ). x ++ zeros) i.begins.1 in
    let full : full_size v ≡ size = ap (λ (x : List ℕ). big_number 4 (drop 8 x)) whole
    ∙ big_number-reads_back 4 size (i.begins.0 ++ zeros) (omega arith) in
    let cut : b ≡ take (full_size v) v = sym (take_at b zeros (full_size v) (i.size ∙ sym full)) in
    let name_len : length (before_zero (drop 16 b)) ≡ length volume = ap length i.name in
    let t = is_tree b r cs root n (2 ^ 20) 64 i.holds h.few (let s = h.shallow in omega arith) in
    let c = code_is root in
    let s0 = says b r (r + 32) (code_of root) i.holds.reads.0.word (omega arith) c.small in
    record {
      b = b;
      r = r;
      super = record {
        long = omega (arith, lv, ls);
        begins = ap (take 8) whole;
        size = (omega (arith, full), omega (arith, full, lv, ls));
        cut = cut;
        sum = sum_at b i.sum;
        volume = omega (arith, name_len, ls);
        root = omega (arith, name_len);
        fits = omega (arith, ls);
        directory = s0.kind ∙ c.kind ∙ ap number_of h.directory.kind;
      };
      forest = all_offsets r n;
      whole = t.0;
      same = sym t.1;
    }

pub has_length : (volume : List ℕ) (root : Inode) (n : Names) (cs : List (List ℕ)) → IsPlanned volume root n cs
    → length (layout volume root n cs) ≡ pad (full_size_of (root_at volume) n) 1024
unfolding layout
has_length volume root n cs h =
    let r = root_at volume in
    let size = full_size_of r n in
    let b = image_of volume size cs (all_headers r root n) in
    let zeros = replicate {A = ℕ} (pad size 1024 - size) 0 in
    let e = (is_image volume root n cs h).size in
    let up = pad-after size 1024 (omega arith) in
    omega (arith, length-append b zeros, length-replicate {A = ℕ} (pad size 1024 - size) 0, e, up)

-- the part before a zero is the same if more bytes follow
before_zero_more : (xs ys : List ℕ) → length (before_zero xs) < length xs → before_zero (xs ++ ys) ≡ before_zero xs
before_zero_more [] ys h = absurd (omega (arith, h))
before_zero_more (x ∷ xs) ys h =
    elim (eqb x 0) as (λ t. length (if t then [] else x ∷ before_zero xs) < suc (length xs)
    → (if t then [] else x ∷ before_zero (xs ++ ys)) ≡ (if t then [] else x ∷ before_zero xs)) [
      | true ↦ λ l. refl
      | false ↦ λ l. ap (λ (zs : List ℕ). x ∷ zs) (before_zero_more xs ys (omega (arith, l)))
    ] h

pub has_name : (volume : List ℕ) (root : Inode) (n : Names) (cs : List (List ℕ)) → IsPlanned volume root n cs
    → before_zero (drop 16 (layout volume root n cs)) ≡ volume
unfolding layout
has_name volume root n cs h =
    let r = root_at volume in
    let size = full_size_of r n in
    let b = image_of volume size cs (all_headers r root n) in
    let i = is_image volume root n cs h in
    let ls = i.size in
    let zeros = replicate {A = ℕ} (pad size 1024 - size) 0 in
    let after = ends_after cs (r + 64) n h.well in
    let name_len : length (before_zero (drop 16 b)) ≡ length volume = ap length i.name in
    ap before_zero (drop-append-le 16 b zeros (omega (arith, ls)))
    ∙ before_zero_more (drop 16 b) zeros (omega (arith, name_len, ls, length-drop 16 b)) ∙ i.name
