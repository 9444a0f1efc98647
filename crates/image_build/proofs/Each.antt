-- What is streamed as romfs is a layout of files with sources of their own.
use Rattle.std.proofs.Common.{◌≡◌, ◌≢◌, ℕ, ◌+◌, ◌^◌, ◌<◌, List, [], map, length, drop, get_or, sym, ap, subst, ◌∙◌}
use Rattle.std.proofs.Common.{arith, refl, Some}
use Rattle.std.specs.List.{AllByRecursion as Every}
use Rattle.record_forest.specs.Members.{Has, Pairs}
use Rattle.record_forest.proofs.Lists.{pairs_map, pairs_weaker, every_join}
use Rattle.romfs_format.specs.Record.{pad16}
use Rattle.rom_fields.specs.Padding.{pad}
use Rattle.manifest.specs.Grammar.{IsManifest}
use Rattle.manifest.specs.Lines.{ManifestLines, sources_of}
use Rattle.manifest_tree.specs.Names.{Fill, no_bytes, text, source, Inode, Names, nothing, leaf, link, subdirectory}
use Rattle.manifest_tree.specs.Items.{contents_of, section}
use Rattle.manifest_tree.specs.Names.{bytes_of}
use Rattle.manifest_tree.specs.Shape.{file_under, with_names}
use Rattle.manifest_tree.specs.Tree.{tree_of, root_of}
use Rattle.manifest_tree.specs.Files.{files}
use Rattle.formats.specs.Format.{romfs}
use Rattle.manifest_layout.specs.Misfit.{HasNoMisfit}
use Rattle.romfs_layout.specs.Items.{items_of, sections_of}
use Rattle.romfs_layout.specs.Layout.{root_at, full_size_of, all_headers, layout}
use Rattle.romfs_layout.specs.Wells.{IsFile, AreWell, AreLinks}
use Rattle.romfs_layout.specs.Planned.{IsPlanned}
use Rattle.image_stream.specs.Sources.{content_of}
use Rattle.image_stream.specs.Segments.{image_of, checked}
use Rattle.image_stream.specs.WordSums.{balance_of}
use Rattle.manifest_layout.specs.Plans.{Planned, IsPlanOf}
use Rattle.manifest_layout.proofs.Sized.{Fitting, zeros, lengths, size_is}
use Rattle.manifest_layout.proofs.SourceSizes.{sizes_small}
use Rattle.romfs_write.specs.Form.{full_size, superblock_storing, segment_of, form_of}
use Rattle.romfs_write.specs.Known.{IsRomfsPlan}
use Rattle.romfs_write.proofs.Facts.{planned_by, planned_is, full_is, of_names}
use Rattle.romfs_write.proofs.Laid.{laid_out}
use Rattle.romfs_write.proofs.Means.{names_mean}
use Rattle.image_build.proofs.Bodies.{IsOf}
use Rattle.image_build.proofs.Found.{source_at, says_source, HasGiven, all_given, have_given, sections_given}
use Rattle.image_build.proofs.Given.{given}
use Rattle.image_build.proofs.InRomfs.{Apart, all_apart, sections_differ}
use Rattle.image_build.proofs.Unknown.{once, romfs_of}
use Rattle.image_build.proofs.Owned.{own_fill, own_file, own_names, ends_same, files_same, HasOwn, planned_owned}
use Rattle.image_build.proofs.Alike.{Says, all_alike, item_alike, old_section, sections_alike}
use Rattle.image_build.proofs.Meaning.{links_held, under_held}
use Rattle.image_build.proofs.Moved.{segments_alike, image_moved}
use Rattle.image_build.proofs.Sizes.{top_of, spread, below_top, at_line, all_small, have_own, own_size, size_by}

-- the file's own source is its line
line_of : (line k : ℕ) (f : Fill) → own_fill line f ≡ source k → line ≡ k
line_of line k no_bytes e = absurd (cc)
line_of line k (text t) e = absurd (cc)
line_of line k (source j) e = cc

-- no file of a planned volume has 2^32 bytes or more of a source
file_small : (zs : List (List ℕ)) (i : Inode) → ((file : ℕ) → get_or (map length zs) file 0 < 2 ^ 32) → IsFile zs i
    → own_size i < 2 ^ 32
file_small zs i small h = by i.fill h.bytes
  where
    by : (f : Fill) → length (bytes_of zs f) ≡ i.size → size_by f i.size < 2 ^ 32
    by no_bytes e = omega arith
    by (text t) e = omega arith
    by (source k) e = let s = small k in let z = size_is zs k in omega (arith, e, s, z)

all_small_files : (zs : List (List ℕ)) (n : Names) → ((file : ℕ) → get_or (map length zs) file 0 < 2 ^ 32)
    → AreWell zs n
    → Every (λ i. own_size i < 2 ^ 32) (files n)
all_small_files zs nothing small w = tt
all_small_files zs (leaf name i after) small w = (file_small zs i small w.1, all_small_files zs after small w.2)
all_small_files zs (link name i after) small w = all_small_files zs after small w.2
all_small_files zs (subdirectory name i own after) small w =
    let zero : own_size i ≡ 0 = ap (λ (f : Fill). size_by f i.size) w.1.bytes in (
      omega (arith, zero),
      every_join (λ i. own_size i < 2 ^ 32) (files own) (files after)
          (all_small_files zs own small w.2) (all_small_files zs after small w.3),
    )

-- the image of a volume, each of whose files has contents of its own
pub record IsOfFiles (G : ℕ → List ℕ → Type 0) (volume : List ℕ) (root : Inode) (n : Names)
    (bytes : List ℕ) : Type 0 where
  pub contents : List (List ℕ)
  pub own : Every (HasOwn contents) (files n)
  pub read : Every (HasGiven G contents) (files n)
  pub says : Says (source_at (files n)) (files n)
  pub links : AreLinks (files n) n
  pub bare : root.fill ≡ no_bytes
  pub planned : IsPlanned volume (own_file root) (own_names n) contents
  pub is : bytes ≡ layout volume (own_file root) (own_names n) contents

-- the contents of a file are where a section of the volume has those of its source
pub source_section : (G : ℕ → List ℕ → Type 0) (volume : List ℕ) (root : Inode) (n : Names) (bytes : List ℕ)
    → IsOfFiles G volume root n bytes → (q : List (List ℕ)) (i : Inode) (k start size : ℕ)
    → file_under q (with_names root n) ≡ Some i → i.fill ≡ source k
    → Has (λ z. z ≡ section start size (contents_of i.line))
    (sections_of volume (items_of volume (own_file root) (own_names n)))
    → Has (λ z. z ≡ section start size (contents_of k)) (sections_of volume (items_of volume root n))
source_section G volume root n bytes f q i k start size named fill here =
    let r = root_at volume in
    let S = source_at (files n) in
    let P : Inode → Type 0 = λ j. (l : ℕ) → j.fill ≡ source l → l ≡ S j.line in
    let top : P root = λ l e. let z : no_bytes ≡ source l = sym f.bare ∙ e in absurd (cc) in
    let all = links_held P (files n) n f.says f.says f.links in
    let same : k ≡ S i.line = under_held P q (with_names root n) i top all named k fill in
    let alike = sections_alike S 0 (all_headers r root n) (all_headers r (own_file root) (own_names n))
    (all_alike S r root n f.says) in
    subst (λ (j : ℕ). Has (λ z. z ≡ section start size (contents_of j)) (sections_of volume (items_of volume root n)))
    (sym same) (old_section S start size i.line (sections_of volume (items_of volume root n))
    (sections_of volume (items_of volume (own_file root) (own_names n)))
    (record { place = refl; len = refl; body = refl }, alike) here)

module _ (volume : List ℕ) (root : Inode) (n : Names) (zs : List (List ℕ)) (h : IsPlanned volume root n zs)
    (small : (file : ℕ) → get_or (map length zs) file 0 < 2 ^ 32) where
  sizes : List ℕ
  sizes = spread (top_of (files n)) (files n)

  lines_of : Every (λ i. get_or (spread (top_of (files n)) (files n)) i.line 0 ≡ own_size i) (files n)
  lines_of = at_line (top_of (files n)) (files n) h.lines.1 (below_top (files n) (top_of (files n)) (omega arith))

  sizes_small_too : (file : ℕ) → get_or (spread (top_of (files n)) (files n)) file 0 < 2 ^ 32
  sizes_small_too = all_small (top_of (files n)) (files n) (below_top (files n) (top_of (files n)) (omega arith))
      (all_small_files zs n small h.well)

  have : (cs : List (List ℕ)) → map length cs ≡ spread (top_of (files n)) (files n) → Every (HasOwn cs) (files n)
  have cs e = have_own (top_of (files n)) (files n) (files n) cs e lines_of

  known_of : (cs : List (List ℕ)) → map length cs ≡ spread (top_of (files n)) (files n)
      → IsRomfsPlan (planned_by volume (own_file root) (own_names n) (spread (top_of (files n)) (files n)))
  known_of cs e =
      let own = planned_owned volume root n zs cs h (have cs e) in
      subst (λ (ns : List ℕ). IsRomfsPlan (planned_by volume (own_file root) (own_names n) ns)) e
      (of_names volume (own_file root) (own_names n) cs own
      (subst (λ (ns : List ℕ). (file : ℕ) → get_or ns file 0 < 2 ^ 32) (sym e) sizes_small_too))

  apart_files : Pairs (λ i j. Apart i.fill j.fill) (files (own_names n))
  apart_files =
      let D : Inode → Inode → Type 0 = λ i j. i.line ≢ j.line in
      let A : Inode → Inode → Type 0 = λ i j. Apart i.fill j.fill in
      let E : Inode → Inode → Type 0 = λ i j. Apart (own_fill i.line i.fill) (own_fill j.line j.fill) in
      subst (Pairs A) (sym (files_same n)) (pairs_map own_file A (files n)
      (pairs_weaker D E (λ i j d k a b. d (line_of i.line k i.fill a ∙ sym (line_of j.line k j.fill b)))
      (files n) h.lines.1))

  pub each : (G : ℕ → List ℕ → Type 0) → ((k : ℕ) → G k []) → (rest planned_sizes : List ℕ)
      → let f = form_of (planned_by volume root n planned_sizes) in
      IsOf G f.start f.segments f.end rest → IsOfFiles G volume root n (checked f.head balance_of rest)
  each G none rest planned_sizes image =
      let r = root_at volume in
      let ns = spread (top_of (files n)) (files n) in
      let old = planned_by volume root n planned_sizes in
      let new = planned_by volume (own_file root) (own_names n) ns in
      let f = form_of old in
      let g = form_of new in
      let hs = all_headers r root n in
      let gs = all_headers r (own_file root) (own_names n) in
      let S = source_at (files n) in
      let says = says_source (files n) h.lines.1 in
      let H : ℕ → List ℕ → Type 0 = λ k ys. G (S k) ys in
      let alike = all_alike S r root n says in
      let zero = zeros ns in
      let known = known_of zero (lengths ns) in
      let moved : IsOf H f.start g.segments f.end rest =
      image_moved S G f.segments g.segments f.start f.end rest
      (segments_alike S old.items new.items (λ k. item_alike S hs gs k alike) (drop 1 old.sections)
      (drop 1 new.sections) (sections_alike S 0 hs gs alike)) image in
      let full : full_size_of r (own_names n) ≡ full_size_of r n = ap pad16 (ends_same (r + 64) n) in
      let end : f.end ≡ g.end = ap (λ (k : ℕ). pad k 1024) (sym full) in
      let moved' : IsOf H g.start g.segments g.end rest =
      subst (λ (k : ℕ). IsOf H g.start g.segments k rest) end moved in
      let stand = once (segment_of new.items) (romfs_of new.items) (drop 1 new.sections)
      (sections_differ 0 gs (all_apart r (own_file root) (own_names n) apart_files)) in
      let c = given H zero ns (lengths ns) g.start g.segments g.end rest stand (laid_out new known).files moved' in
      let own = planned_owned volume root n zs c.0 h (have c.0 c.1) in
      let mean = names_mean volume (own_file root) (own_names n) c.0 own
      (subst (λ (ks : List ℕ). IsRomfsPlan (planned_by volume (own_file root) (own_names n) ks)) (sym c.1) known) in
      let heads : full_size old.items ≡ full_size new.items =
      full_is volume root n ∙ sym full ∙ sym (full_is volume (own_file root) (own_names n)) in
      let head : checked f.head balance_of rest ≡ checked g.head balance_of rest =
      ap (λ (k : ℕ). checked (λ sum. superblock_storing sum k volume) balance_of rest) heads in
      let sized : image_of g balance_of c.0 ≡ layout volume (own_file root) (own_names n) c.0 = mean in
      record {
        contents = c.0;
        own = have c.0 c.1;
        read = have_given G none S c.0 (files n) says (have c.0 c.1)
            (all_given (λ k. H k (content_of c.0 k)) c.0 r root n own.well
            (sections_given H c.0 new.items (drop 1 new.sections) c.3));
        says = says;
        links = h.links;
        bare = h.directory.bytes;
        planned = own;
        is = head ∙ ap (checked g.head balance_of) c.2 ∙ sized;
      }

-- of the plan of a manifest
pub each_of_plan : Fitting → (p : Planned) (m : ManifestLines) → IsManifest m
    → length p.sizes ≡ length (sources_of m.lines) → IsPlanOf romfs m p.sizes p
    → (G : ℕ → List ℕ → Type 0) → ((k : ℕ) → G k []) → (rest : List ℕ)
    → IsOf G (form_of p).start (form_of p).segments (form_of p).end rest
    → IsOfFiles G m.volume (root_of m.lines p.sizes) (tree_of m.lines p.sizes)
    (checked (form_of p).head balance_of rest)
each_of_plan fitting p m hm count is G none rest image =
    let sizes = p.sizes in
    let zs = zeros sizes in
    let e = lengths sizes in
    let fits : HasNoMisfit romfs m (map length zs) = subst (HasNoMisfit romfs m) (sym e) is.fits in
    let h = subst (λ (ns : List ℕ). IsPlanned m.volume (root_of m.lines ns) (tree_of m.lines ns) zs) e
    (fitting romfs m zs hm fits) in
    let small = subst (λ (ns : List ℕ). (file : ℕ) → get_or ns file 0 < 2 ^ 32) (sym e)
    (sizes_small romfs m sizes hm count is.fits) in
    let q = planned_is m sizes p is in
    let moved = subst (λ (x : Planned). IsOf G (form_of x).start (form_of x).segments (form_of x).end rest) q image in
    subst (λ (x : Planned). IsOfFiles G m.volume (root_of m.lines sizes) (tree_of m.lines sizes)
    (checked (form_of x).head balance_of rest)) (sym q)
    (each m.volume (root_of m.lines sizes) (tree_of m.lines sizes) zs h small G none rest sizes moved)
