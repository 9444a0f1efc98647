-- The image of a plan's form is the layout.
use Rattle.std.proofs.Common.{◌≡◌, ℕ, ◌+◌, List, [], ◌∷◌, ◌++◌, map, length, drop, get_or, refl, sym, ap, subst, ◌∙◌}
use Rattle.std.proofs.Common.{arith, length-append}
use Rattle.cramfs_format.specs.declared.order.Order.{Order}
use Rattle.cramfs_format.specs.declared.order.Order.TheVariants.{Little, Big}
use Rattle.crc.specs.Crc.{crc_of}
use Rattle.rom_fields.specs.Parts.{Part, part, laid}
use Rattle.image_stream.specs.Segments.{segment_part, image_from, image_of}
use Rattle.image_stream.specs.Outcomes.{AreSized}
use Rattle.image_stream.proofs.Laid.{image_laid}
use Rattle.manifest_tree.specs.Names.{Inode, Names, nothing, leaf, link, subdirectory}
use Rattle.manifest_layout.specs.Plans.{Planned, IsPlanOf}
use Rattle.manifest_tree.specs.Items.{Section, section, super}
use Rattle.manifest_tree.specs.Bodies.{item_at}
use Rattle.manifest.specs.Grammar.{IsManifest}
use Rattle.manifest.specs.Lines.{ManifestLines}
use Rattle.manifest_tree.specs.Tree.{tree_of, root_of}
use Rattle.formats.specs.Format.{cramfs}
use Rattle.manifest_layout.specs.Format.{layout_of}
use Rattle.manifest_layout.proofs.Sourced.{align_of, sourced}
use Rattle.cramfs_layout.specs.Layout.{State, first_state, after_file, after_list, after_names, pad4, entry_len}
use Rattle.cramfs_layout.specs.Layout.{entry_bytes, count, size_of, superblock, with_crc}
use Rattle.cramfs_layout.specs.Items.{AreAlignedBy, entries, below, items_of, sections_of}
use Rattle.cramfs_layout.specs.Composed.{cramfs_part, composed}
use Rattle.cramfs_layout.specs.Planned.{IsPlanned}
use Rattle.cramfs_layout.proofs.Joined.{is_composed}
use Rattle.manifest_layout.proofs.Sized.{Fitting, size_is}
use Rattle.image_stream.proofs.Results.{sizes_are}
use Rattle.cramfs_write.specs.Form.{superblock_storing, form_of}
use Rattle.cramfs_write.specs.Known.{IsCramfsPlan}
use Rattle.cramfs_write.proofs.Laid.{parts_by, laid_out, length_super, crc_stored}

-- the image of a plan is composed of its sections
pub is_of_sections : (o : Order) (p : Planned) (cs : List (List ℕ)) → IsCramfsPlan p → AreSized p.sizes cs
    → p.sections ≡ sections_of p.items
    → image_of (form_of o p) crc_of cs ≡ composed o ((form_of o p).head 0) p.image_len cs p.items
unfolding composed
is_of_sections o p cs h z s =
    let f = form_of o p in
    let root = item_at p.items 0 in
    let block = f.head 0 in
    let others = drop 1 p.sections in
    let sp = cramfs_part o block cs p.items in
    let end = part p.image_len [] ∷ [] in
    let rest = image_from cs f.start f.segments f.end in
    let first = length_super o 0 p.image_len (length p.items) p.volume root.first root.second root.third h.short in
    let whole : block ++ rest ≡ laid [] (part 0 block ∷ (map (segment_part cs) f.segments ++ end)) =
    image_laid f cs (laid_out o p h) z first in
    let same : laid [] (part 0 block ∷ (map (segment_part cs) f.segments ++ end))
    ≡ laid [] (map sp (section 0 76 super ∷ others) ++ end) =
    ap (λ (ps : List Part). laid [] (part 0 block ∷ (ps ++ end)))
    (parts_by o p.items p.sizes cs block others z h.bodies) in
    let all : laid [] (map sp (section 0 76 super ∷ others) ++ end) ≡ laid [] (map sp (sections_of p.items) ++ end) =
    ap (λ (ss : List Section). laid [] (map sp ss ++ end)) (sym h.sections ∙ s) in
    crc_stored o (crc_of (block ++ rest)) p.image_len
    (length p.items) p.volume root.first root.second root.third rest refl
    ∙ ap (with_crc o) (whole ∙ same ∙ all)

-- an item for each entry
count_is : (o : Order) (l : ℕ) (s : State) (n : Names) → length (entries o l s n) + length (below o s n) ≡ count n
count_is o l s nothing = refl
count_is o l s (leaf name i rest) = let c = count_is o (l + entry_len name) (after_file s i) rest in omega (arith, c)
count_is o l s (link name i rest) = let c = count_is o (l + entry_len name) (after_file s i) rest in omega (arith, c)
count_is o l s (subdirectory name i own rest) =
    let s1 = after_list s own in
    let s2 = after_names s1 own in
    let es = entries o (pad4 s.at) s1 own in
    let mine = below o s1 own in
    let more = below o s2 rest in
    let c = count_is o (pad4 s.at) s1 own in
    let d = count_is o (l + entry_len name) s2 rest in
    omega (arith, c, d, length-append es (mine ++ more), length-append mine more)

pub items_are : (o : Order) (root : Inode) (n : Names) → length (items_of o root n) ≡ count n + 1
items_are o root n =
    let s = first_state n in
    let c = count_is o 76 s n in
    omega (arith, c, length-append (entries o 76 s n) (below o s n))

-- the superblock of the form is that of the layout
pub super_is : (o : Order) (volume : List ℕ) (root : Inode) (n : Names) → let top = item_at (items_of o root n) 0 in
    superblock_storing o 0 (size_of n) (length (items_of o root n)) volume top.first top.second top.third
    ≡ superblock o volume root n
unfolding superblock entry_bytes
super_is Little volume root n = let top =
    item_at (items_of Little root n) 0 in ap
    (λ (k : ℕ). superblock_storing Little 0 (size_of n) k volume top.first top.second top.third)
    (items_are Little root n)
super_is Big volume root n = let top =
    item_at (items_of Big root n) 0 in ap
    (λ (k : ℕ). superblock_storing Big 0 (size_of n) k volume top.first top.second top.third) (items_are Big root n)

-- the plan of a manifest
abbrev pub planned : Order → ManifestLines → List ℕ → Planned
planned o m sizes =
    let n = tree_of m.lines sizes in
    let items = items_of o (root_of m.lines sizes) n in
    record {
      format = cramfs o;
      volume = m.volume;
      image_len = size_of n;
      items = items;
      sections = sections_of items;
      sizes = sizes;
    }

pub planned_is : (o : Order) (m : ManifestLines) (sizes : List ℕ) (p : Planned) → IsPlanOf (cramfs o) m sizes p
    → p ≡ planned o m sizes
planned_is o m sizes p h =
    let f = h.format in
    let v = h.volume in
    let l = h.image_len in
    let i = h.items in
    let s = h.sections in
    let z = h.of_sources in
    λ j. record { format = f j; volume = v j; image_len = l j; items = i j; sections = s j; sizes = z j }

-- the image of a plan of a manifest is its layout
is_layout : (o : Order) (m : ManifestLines) (cs : List (List ℕ)) (p : Planned) (A : ℕ → ℕ)
    → AreAlignedBy A (tree_of m.lines (map length cs))
    → IsPlanned m.volume (root_of m.lines (map length cs)) (tree_of m.lines (map length cs)) cs
    → IsPlanOf (cramfs o) m (map length cs) p → IsCramfsPlan p → AreSized p.sizes cs
    → image_of (form_of o p) crc_of cs ≡ layout_of (cramfs o) m cs
is_layout o m cs p A al h is k z =
    let sizes = map length cs in
    let root = root_of m.lines sizes in
    let n = tree_of m.lines sizes in
    let items = items_of o root n in
    let e = planned_is o m sizes p is in
    let q = planned o m sizes in
    let mine = subst (λ (x : Planned). image_of (form_of o x) crc_of cs
    ≡ composed o ((form_of o x).head 0) x.image_len cs x.items) e
    (is_of_sections o p cs k z (is.sections ∙ ap sections_of (sym is.items))) in
    ap (λ (x : Planned). image_of (form_of o x) crc_of cs) e ∙ mine
    ∙ ap (λ (block : List ℕ). composed o block (size_of n) cs items) (super_is o m.volume root n)
    ∙ sym (is_composed o m.volume root n cs A h al)

-- so is that of any plan of a manifest that fits
pub means : Fitting → (o : Order) (p : Planned) (m : ManifestLines) (cs : List (List ℕ)) → IsManifest m → IsCramfsPlan p
    → IsPlanOf (cramfs o) m (map length cs) p → image_of (form_of o p) crc_of cs ≡ layout_of (cramfs o) m cs
means fitting o p m cs hm facts is =
    let sizes = map length cs in
    is_layout o m cs p (align_of m.lines) (sourced (cramfs o) m sizes hm is.fits)
    (fitting (cramfs o) m cs hm is.fits) is facts
    (λ k l. size_is cs k ∙ ap (λ (xs : List ℕ). get_or xs k 0) (sym is.of_sources))

-- contents of the planned sizes
pub sized_means : Fitting → (o : Order) (p : Planned) (m : ManifestLines) (sizes : List ℕ) (cs : List (List ℕ))
    → IsManifest m
    → IsCramfsPlan p → IsPlanOf (cramfs o) m sizes p → length cs ≡ length p.sizes → AreSized p.sizes cs
    → (map length cs ≡ sizes) × (image_of (form_of o p) crc_of cs ≡ layout_of (cramfs o) m cs)
sized_means fitting o p m sizes cs hm facts is n sized =
    let e : map length cs ≡ sizes = sizes_are p.sizes cs n sized ∙ is.of_sources in
    (e, means fitting o p m cs hm facts (subst (λ (xs : List ℕ). IsPlanOf (cramfs o) m xs p) (sym e) is))

-- one byte order
pub one_order : {o q : Order} → cramfs o ≡ cramfs q → o ≡ q
one_order e = cc

-- the form of one plan in one order
pub one_form : {o q : Order} {p r : Planned} → o ≡ q → p ≡ r → form_of o p ≡ form_of q r
one_form e h = λ j. form_of (e j) (h j)
