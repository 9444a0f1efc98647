-- The image of a plan's form is the layout.
use Rattle.std.proofs.Common.{◌≡◌, ℕ, ◌+◌, ◌-◌, ◌*◌, ◌/◌, ◌≤◌, zero, suc, nat_lt, true, false, if◌then◌else◌, List, []}
use Rattle.std.proofs.Common.{◌∷◌, ◌++◌, map, length, take, drop, replicate, get_or, refl, sym, ap, subst, ◌∙◌, arith}
use Rattle.std.proofs.Common.{append_assoc, append-nil, length-append}
use Rattle.std.proofs.lemmas.List.{replicate-append-replicate, take_all, take-append-le, drop-append-le}
use Rattle.std.specs.List.{AllByRecursion as Every}
use Rattle.byteorder.specs.Endian.{big_bytes}
use Rattle.rom_fields.specs.Words.{words_total}
use Rattle.rom_fields.specs.Padding.{pad}
use Rattle.rom_fields.specs.Parts.{Part, part, laid, with_part}
use Rattle.rom_fields.specs.Sums.{balance, sealed}
use Rattle.rom_fields.proofs.Parts.{laid-append, length-laid}
use Rattle.rom_fields.proofs.Padding.{pad-after}
use Rattle.image_stream.specs.Segments.{segment_part, image_from, image_of}
use Rattle.image_stream.specs.Outcomes.{AreSized}
use Rattle.image_stream.specs.WordSums.{weighted, weight, balance_of, term}
use Rattle.image_stream.proofs.Laid.{image_laid}
use Rattle.image_stream.proofs.ByWords.{weighted_words}
use Rattle.manifest_tree.specs.Names.{Fill, Inode, Names, bytes_of}
use Rattle.manifest_layout.specs.Plans.{Planned, IsPlanOf}
use Rattle.manifest_tree.specs.Items.{Item, Section, Body, super, record_of, table_of, text_of, contents_of, section}
use Rattle.manifest_tree.specs.Items.{SectionsRise}
use Rattle.manifest_tree.specs.Bodies.{item_at}
use Rattle.manifest_tree.proofs.Bodies.{sections_are}
use Rattle.romfs_layout.specs.Layout.{root_at, superblock, layout}
use Rattle.romfs_layout.specs.Composed.{romfs_part, composed}
use Rattle.romfs_layout.specs.Items.{sections_of, sections_from}
use Rattle.romfs_write.specs.Form.{item_end, full_size, segment_by, segment_of, form_of, superblock_storing}
use Rattle.romfs_write.specs.Known.{IsBody, IsRomfsPlan}
use Rattle.manifest.specs.Grammar.{IsManifest}
use Rattle.manifest.specs.Lines.{ManifestLines}
use Rattle.manifest_tree.specs.Tree.{tree_of, root_of}
use Rattle.formats.specs.Format.{romfs}
use Rattle.manifest_layout.specs.Format.{layout_of}
use Rattle.romfs_layout.specs.Items.{items_of}
use Rattle.romfs_layout.specs.Planned.{IsPlanned}
use Rattle.romfs_layout.proofs.ReadBack.{length-padded_name}
use Rattle.romfs_layout.proofs.Composed.{is_composed, are_long}
use Rattle.romfs_layout.proofs.Sectioned as in_romfs
use Rattle.image_stream.proofs.Results.{sizes_are}
use Rattle.manifest_layout.proofs.Sized.{Fitting, size_is}
use Rattle.romfs_write.proofs.Facts.{planned_by, planned_is, full_is}
use Rattle.romfs_write.proofs.Laid.{laid_out}

-- zeros count nothing
no_term : (k : ℕ) → term k 0 ≡ 0
no_term k = elim (nat_lt k 512) as (λ t. (if t then 0 * weight k else 0) ≡ 0) [ true ↦ omega arith | false ↦ refl ]

none_weighted : (n k : ℕ) → weighted k (replicate n 0) ≡ 0
none_weighted zero k = refl
none_weighted (suc n) k = let h = none_weighted n (k + 1) in let t = no_term k in omega (arith, h, t)

joined : (xs ys : List ℕ) (k : ℕ) → weighted k (xs ++ ys) ≡ weighted k xs + weighted (k + length xs) ys
joined [] ys k = let e : k ≡ k + 0 =
    omega arith in ap (λ j. weighted j ys) e
    ∙ (let z : weighted (k + 0) ys ≡ 0 + weighted (k + 0) ys = omega arith in z)
joined (x ∷ xs) ys k =
    let h = joined xs ys (k + 1) in
    let e : k + 1 + length xs ≡ k + length (x ∷ xs) = omega arith in
    let t = ap (λ (j : ℕ). weighted j ys) e in
    omega arith

-- zeros behind whole words do not change the checksum
balance_before : (b : List ℕ) (n k : ℕ) → length b ≡ 4 * n
    → balance_of (b ++ replicate k 0) ≡ balance (words_total (take 512 b))
unfolding balance_of
balance_before b n k e =
    let z = none_weighted k (0 + length b) in
    let j = joined b (replicate k 0) 0 in
    let w : weighted 0 (b ++ replicate k 0) ≡ weighted 0 b = omega (arith, z, j) in
    ap balance (w ∙ weighted_words b n e)

-- zeros up to the end are zeros up to an offset before it, and those from there
extended : (l : List ℕ) (size end : ℕ) → length l ≤ size → size ≤ end
    → l ++ (replicate (end - length l) 0 ++ [])
    ≡ (l ++ (replicate (size - length l) 0 ++ [])) ++ replicate (end - size) 0
extended l size end h k =
    let a = replicate {A = ℕ} (size - length l) 0 in
    let c = replicate {A = ℕ} (end - size) 0 in
    let n : end - length l ≡ (size - length l) + (end - size) = omega arith in
    let e : replicate {A = ℕ} (end - length l) 0 ≡ a ++ c =
    ap (λ (m : ℕ). replicate m 0) n ∙ sym (replicate-append-replicate (size - length l) (end - size) 0) in
    ap (λ (x : List ℕ). l ++ x) (append-nil (replicate (end - length l) 0) ∙ e) ∙ sym (append_assoc l a c)
    ∙ ap (λ (x : List ℕ). (l ++ x) ++ c) (sym (append-nil a))

-- the word put into an image, of which bytes with zeros behind them are all
put_into : (b z rest : List ℕ) (size v : ℕ) (volume : List ℕ) → 16 ≤ length b
    → superblock_storing 0 size volume ++ rest ≡ b ++ z
    → superblock_storing v size volume ++ rest ≡ (take 12 b ++ (big_bytes 4 v ++ drop 16 b)) ++ z
put_into b z rest size v volume h e =
    let front = take 12 b in
    let w = big_bytes 4 v in
    let x : superblock_storing v size volume ++ rest
    ≡ take 12 (superblock_storing 0 size volume ++ rest)
    ++ (w ++ drop 16 (superblock_storing 0 size volume ++ rest)) = refl in
    x ∙ ap (λ (y : List ℕ). take 12 y ++ (w ++ drop 16 y)) e
    ∙ ap (λ (y : List ℕ). y ++ (w ++ drop 16 (b ++ z))) (take-append-le 12 b z (omega arith))
    ∙ ap (λ (y : List ℕ). front ++ (w ++ y)) (drop-append-le 16 b z (omega arith))
    ∙ sym (append_assoc front (w ++ drop 16 b) z ∙ ap (λ (y : List ℕ). front ++ y) (append_assoc w (drop 16 b) z))

module _ (volume : List ℕ) (size : ℕ) (cs : List (List ℕ)) (is : List Item) where
  part_by : (at n : ℕ) (b : Body) → IsBody is (map length cs) n b
      → segment_part cs (segment_by is at n b) ≡ romfs_part volume size cs is (section at n b)
  part_by at n super h = absurd h
  part_by at n (record_of k) h = refl
  part_by at n (table_of k) h = absurd h
  part_by at n (text_of k) h =
      ap (λ (f : Fill). part at (bytes_of [] f)) h.2 ∙ sym (ap (λ (f : Fill). part at (bytes_of cs f)) h.2)
  part_by at n (contents_of k) h =
      let e : length (get_or cs k []) ≡ n = size_is cs k ∙ h.1 in
      ap (λ (b : List ℕ). part at b) (take_all n (get_or cs k []) (omega arith))

  parts_by : (ss : List Section) → Every (λ s. IsBody is (map length cs) s.len s.body) ss
      → map (segment_part cs) (map (segment_of is) ss) ≡ map (romfs_part volume size cs is) ss
  parts_by [] h = refl
  parts_by (s ∷ ss) h =
      ap (λ (p : Part). p ∷ map (segment_part cs) (map (segment_of is) ss)) (part_by s.place s.len s.body h.0)
      ∙ ap (λ (ps : List Part). romfs_part volume size cs is s ∷ ps) (parts_by ss h.1)

  -- the image in which the superblock stores this word instead of its sum
  image_is : (rest : List ℕ) (n : ℕ) → size ≡ 4 * n → 16 ≤ size
      → SectionsRise 0 size (sections_of volume is)
      → Every (λ s. length (romfs_part volume size cs is s).bytes ≡ s.len) (sections_of volume is)
      → superblock_storing 0 size volume ++ rest
      ≡ laid [] (map (romfs_part volume size cs is) (sections_of volume is) ++ part (pad size 1024) [] ∷ [])
      → superblock_storing (balance_of (superblock_storing 0 size volume ++ rest)) size volume ++ rest
      ≡ composed volume size cs is
  unfolding composed with_part sealed
  image_is rest n e low up long all =
      let end = pad size 1024 in
      let ps = map (romfs_part volume size cs is) (sections_of volume is) in
      let b = laid [] (ps ++ part size [] ∷ []) in
      let l = laid [] ps in
      let are = sections_are (λ s. (romfs_part volume size cs is s).bytes) 0 size size (sections_of volume is)
      (omega arith) up long in
      let lb : length b ≡ size = length-laid [] (ps ++ part size [] ∷ []) are.rises ∙ are.ends_at in
      let split : b ≡ l ++ (replicate (size - length l) 0 ++ []) = laid-append [] ps (part size [] ∷ []) in
      let split_end : laid [] (ps ++ part end [] ∷ []) ≡ l ++ (replicate (end - length l) 0 ++ []) =
      laid-append [] ps (part end [] ∷ []) in
      let nl : length b ≡ length l + length (replicate {A = ℕ} (size - length l) 0 ++ []) =
      ap length split ∙ length-append l (replicate (size - length l) 0 ++ []) in
      let within : length l ≤ size = omega arith in
      let after : size ≤ end = pad-after size 1024 (omega arith) in
      let z = replicate {A = ℕ} (end - size) 0 in
      let whole : superblock_storing 0 size volume ++ rest ≡ b ++ z =
      all ∙ split_end ∙ extended l size end within after ∙ ap (λ (y : List ℕ). y ++ z) (sym split) in
      let v : balance_of (superblock_storing 0 size volume ++ rest) ≡ balance (words_total (take 512 b)) =
      ap balance_of whole ∙ balance_before b n (end - size) (omega (arith, lb)) in
      put_into b z rest size (balance_of (superblock_storing 0 size volume ++ rest)) volume (omega (arith, lb)) whole
      ∙ ap (λ (k : ℕ). (take 12 b ++ (big_bytes 4 k ++ drop 16 b)) ++ z) v

rise_low : (from end : ℕ) (ss : List Section) → SectionsRise from end ss → from ≤ end
rise_low from end [] r = r
rise_low from end (s ∷ ss) r = let l = rise_low (s.place + s.len) end ss r.2 in let k = r.0 in omega (arith, l, k)

-- so is that of the plan of names
pub names_mean : (volume : List ℕ) (root : Inode) (n : Names) (cs : List (List ℕ)) → IsPlanned volume root n cs
    → IsRomfsPlan (planned_by volume root n (map length cs))
    → image_of (form_of (planned_by volume root n (map length cs))) balance_of cs ≡ layout volume root n cs
names_mean volume root n cs h facts =
    let p = planned_by volume root n (map length cs) in
    let is = items_of volume root n in
    let ss = sections_from 0 is in
    let size = full_size is in
    let fs = full_is volume root n in
    let f = form_of p in
    let rest = image_from cs f.start f.segments f.end in
    let rp = romfs_part volume size cs is in
    let sb = superblock size volume in
    let lp = length-padded_name volume in
    let ls : length sb ≡ root_at volume = omega (arith, lp) in
    let il = image_laid f cs (laid_out p facts) (λ k l. size_is cs k) ls in
    let all = il ∙ ap (λ (ps : List Part). laid [] (part 0 sb ∷ (ps ++ part f.end [] ∷ [])))
    (parts_by volume size cs is ss facts.bodies)
    ∙ ap (λ (k : ℕ). laid [] (part 0 sb ∷ (map rp ss ++ part k [] ∷ []))) facts.end in
    let up = subst (λ (k : ℕ). SectionsRise 0 k (sections_of volume is)) (sym fs) (in_romfs.rise volume root n cs h) in
    let long = subst (λ (k : ℕ). Every (λ s. length (romfs_part volume k cs is s).bytes ≡ s.len)
    (sections_of volume is)) (sym fs) (are_long volume root n cs h) in
    let low = rise_low (0 + root_at volume) size ss up.2 in
    let x = item_end (item_at is (length is - 1)) in
    image_is volume size cs is rest ((x + 15) / 16 * 4) (omega arith) (omega (arith, low)) up long all
    ∙ ap (λ (k : ℕ). composed volume k cs is) fs ∙ sym (is_composed volume root n cs h)

pub means : Fitting → (p : Planned) (m : ManifestLines) (cs : List (List ℕ)) → IsManifest m → IsRomfsPlan p
    → IsPlanOf romfs m (map length cs) p → image_of (form_of p) balance_of cs ≡ layout_of romfs m cs
means fitting p m cs hm facts is =
    let e = planned_is m (map length cs) p is in
    subst (λ (q : Planned). image_of (form_of q) balance_of cs ≡ layout_of romfs m cs) (sym e)
    (names_mean m.volume (root_of m.lines (map length cs)) (tree_of m.lines (map length cs)) cs
    (fitting romfs m cs hm is.fits) (subst IsRomfsPlan e facts))

pub sized_means : Fitting → (p : Planned) (m : ManifestLines) (sizes : List ℕ) (cs : List (List ℕ)) → IsManifest m
    → IsRomfsPlan p
    → IsPlanOf romfs m sizes p → length cs ≡ length p.sizes → AreSized p.sizes cs
    → (map length cs ≡ sizes) × (image_of (form_of p) balance_of cs ≡ layout_of romfs m cs)
sized_means fitting p m sizes cs hm facts is n sized =
    let e : map length cs ≡ sizes = sizes_are p.sizes cs n sized ∙ is.of_sources in
    (e, means fitting p m cs hm facts (subst (λ (xs : List ℕ). IsPlanOf romfs m xs p) (sym e) is))
