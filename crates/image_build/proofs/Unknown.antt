-- What is streamed from sources with unknown contents is what a build answers to some contents.
use Rattle.std.proofs.Common.{◌≡◌, ℕ, List, [], ◌∷◌, ◌++◌, map, length, drop, refl, sym, ap, subst, ◌∙◌, Ok}
use Rattle.std.specs.List.{AllByRecursion as Every}
use Rattle.record_forest.specs.Members.{Pairs}
use Rattle.cramfs_format.specs.declared.order.Order.{Order}
use Rattle.crc.specs.Crc.{crc_of}
use Rattle.manifest.specs.Grammar.{IsManifest}
use Rattle.manifest.specs.Lines.{ManifestLines}
use Rattle.manifest_tree.specs.Tree.{tree_of, root_of}
use Rattle.manifest_tree.specs.Items.{Item, Section, Body, super, record_of, table_of, text_of, contents_of}
use Rattle.cramfs_layout.specs.Layout as cramfs_layout
use Rattle.cramfs_layout.specs.Items as cramfs_items
use Rattle.romfs_layout.specs.Layout as romfs_layout
use Rattle.formats.specs.Format.{Format, romfs, cramfs}
use Rattle.manifest_layout.specs.Format.{layout_of, sections_of}
use Rattle.image_stream.specs.Segments.{Segment, fixed, content, Form, IsLaidOut, image_from, image_of, checked}
use Rattle.image_stream.specs.WordSums.{balance_of}
use Rattle.manifest_layout.specs.Plans.{Planned, IsPlanOf}
use Rattle.manifest_layout.proofs.Sized.{Fitting, zeros, lengths}
use Rattle.romfs_write.specs.Form as in_romfs
use Rattle.romfs_write.proofs.Facts as romfs_facts
use Rattle.romfs_write.proofs.Laid as romfs_laid
use Rattle.romfs_write.proofs.Means as romfs_means
use Rattle.cramfs_write.specs.Form as in_cramfs
use Rattle.cramfs_write.proofs.Facts as cramfs_facts
use Rattle.cramfs_write.proofs.Laid as cramfs_laid
use Rattle.cramfs_write.proofs.Means as cramfs_means
use Rattle.image_build.specs.Builds.{Builds}
use Rattle.image_build.specs.Streamed.{IsPlanOfText, form_in, stored_in, HasNoCopies, IsBuiltOfSome}
use Rattle.image_build.proofs.Streams.{HoldsAll, built, planned_in}
use Rattle.image_build.proofs.Given.{AreGiven, Lacks, StandOnce, given}
use Rattle.image_build.proofs.Bodies.{IsOf}
use Rattle.image_build.proofs.Differ.{Differ, order_differ}
use Rattle.image_build.proofs.InCramfs.{all_known, all_differ}
use Rattle.image_build.proofs.InRomfs.{all_apart, sections_differ}
use Rattle.image_build.proofs.OwnSources.{own_sources}
use Rattle.record_forest.proofs.Lists.{every_join}

-- segments of sections, of which those with contents are those of contents
module _ (f : Section → Segment) (of : (s : Section) (at n k : ℕ) → f s ≡ content at n k → s.body ≡ contents_of k) where
  lacks_more : (k : ℕ) (s : Section) (g : Segment) → f s ≡ g → (s.body ≡ contents_of k → ⊥) → (ps : List Segment)
      → Lacks k ps → Lacks k (g ∷ ps)
  lacks_more k s (fixed at bytes) e n ps h = h
  lacks_more k s (content at size file) e n ps h = ((λ z. n (of s at size file e ∙ ap contents_of (sym z))), h)

  lacks : (k : ℕ) (ss : List Section) → Every (λ s. s.body ≡ contents_of k → ⊥) ss → Lacks k (map f ss)
  lacks k [] h = tt
  lacks k (s ∷ ss) h = lacks_more k s (f s) refl h.0 (map f ss) (lacks k ss h.1)

  once_more : (s : Section) (g : Segment) → f s ≡ g → (ss : List Section) → Every (Differ s) ss → StandOnce (map f ss)
      → StandOnce (g ∷ map f ss)
  once_more s (fixed at bytes) e ss h o = o
  once_more s (content at size file) e ss h o =
      (lacks file ss (others ss h), o)
    where
      others : (ts : List Section) → Every (Differ s) ts → Every (λ t. t.body ≡ contents_of file → ⊥) ts
      others [] k = tt
      others (t ∷ ts) k = ((λ z. k.0 file (of s at size file e) z), others ts k.1)

  pub once : (ss : List Section) → Pairs Differ ss → StandOnce (map f ss)
  once [] p = tt
  once (s ∷ ss) p = once_more s (f s) refl ss p.0 (once ss p.1)

pub romfs_of : (is : List Item) (s : Section) (at n k : ℕ) → in_romfs.segment_of is s ≡ content at n k
    → s.body ≡ contents_of k
romfs_of is s at n k e = by s.body e
  where
    by : (b : Body) → in_romfs.segment_by is s.place s.len b ≡ content at n k → b ≡ contents_of k
    by super z = absurd (cc)
    by (record_of i) z = absurd (cc)
    by (table_of i) z = absurd (cc)
    by (text_of i) z = absurd (cc)
    by (contents_of j) z = let same : j ≡ k = cc in ap contents_of same

cramfs_of : (o : Order) (is : List Item) (s : Section) (at n k : ℕ) → in_cramfs.segment_of o is s ≡ content at n k
    → s.body ≡ contents_of k
cramfs_of o is s at n k e = by s.body e
  where
    by : (b : Body) → in_cramfs.segment_by o is s.place s.len b ≡ content at n k → b ≡ contents_of k
    by super z = absurd (cc)
    by (record_of i) z = absurd (cc)
    by (table_of i) z = absurd (cc)
    by (text_of i) z = absurd (cc)
    by (contents_of j) z = let same : j ≡ k = cc in ap contents_of same

-- the sections of a layout have the contents of each source once
romfs_differ : (m : ManifestLines) (sizes : List ℕ) → IsManifest m → HasNoCopies romfs m → (p : Planned)
    → IsPlanOf romfs m sizes p
    → Pairs Differ (drop 1 p.sections)
romfs_differ m sizes h none p is =
    let root = root_of m.lines sizes in
    let n = tree_of m.lines sizes in
    let r = romfs_layout.root_at m.volume in
    let hs = romfs_layout.all_headers r root n in
    let all : Pairs Differ (drop 1 (sections_of romfs m sizes)) =
    sections_differ 0 hs (all_apart r root n (own_sources romfs m sizes h is.fits none)) in
    subst (λ (ss : List Section). Pairs Differ (drop 1 ss)) (sym is.sections) all

cramfs_differ : (o : Order) (m : ManifestLines) (sizes : List ℕ) (p : Planned) → IsPlanOf (cramfs o) m sizes p
    → Pairs Differ (drop 1 p.sections)
cramfs_differ o m sizes p is =
    let n = tree_of m.lines sizes in
    let s = cramfs_layout.first_state n in
    let es = cramfs_items.entries o 76 s n in
    let bs = cramfs_items.below o s n in
    let ts = (cramfs_layout.after_names s n).tables in
    let reported = all_known ts o 76 s n (λ k t e. e) in
    let each = all_differ ts [] 1 (es ++ bs) (every_join _ es bs reported.0 reported.1) in
    let all : Pairs Differ (drop 1 (sections_of (cramfs o) m sizes)) =
    order_differ (cramfs_items.sections_from [] 1 (es ++ bs)) each.1 in
    subst (λ (ss : List Section). Pairs Differ (drop 1 ss)) (sym is.sections) all

-- what a build answers of contents with a property, and of any others whose image is the same
pub record IsBuiltOf (G : ℕ → List ℕ → Type 0) (text : List ℕ) (p : Planned) (form : Form)
    (bytes : List ℕ) : Type 0 where
  pub built : IsBuiltOfSome text p bytes
  pub given : AreGiven G built.contents form.segments
  pub others : (ds : List (List ℕ)) → map length ds ≡ p.sizes
      → image_from ds form.start form.segments form.end ≡ image_from built.contents form.start form.segments form.end
      → Builds p.format text ds (Ok bytes)

module _ (fitting : Fitting) (law : HoldsAll) (text : List ℕ) (p : Planned) (is : IsPlanOfText text p) where
  -- of a form in which each source occurs once
  of_form : (f : Format) (form : Form) (stored : List ℕ → ℕ) (G : ℕ → List ℕ → Type 0) (rest : List ℕ) → p.format ≡ f
      → form.sizes ≡ p.sizes
      → IsLaidOut form → StandOnce form.segments
      → ((cs : List (List ℕ)) → map length cs ≡ p.sizes → image_of form stored cs ≡ layout_of f is.lines cs)
      → IsOf G form.start form.segments form.end rest → IsBuiltOf G text p form (checked form.head stored rest)
  of_form f form stored G rest e z laid o means h =
      let g = given G (zeros form.sizes) form.sizes
      (lengths form.sizes) form.start form.segments form.end rest o laid.files h in
      let sized : map length g.0 ≡ p.sizes = g.1 ∙ z in
      let same : checked form.head stored rest ≡ layout_of f is.lines g.0 =
      ap (checked form.head stored) g.2 ∙ means g.0 sized in
      record {
        built = record {
          contents = g.0;
          sized = sized;
          built = subst (λ (bytes : List ℕ). Builds p.format text g.0 (Ok bytes)) (sym same)
              (built law f p text g.0 e is sized);
        };
        given = g.3;
        others = λ ds s alike.
            let all : layout_of f is.lines ds ≡ checked form.head stored rest =
            sym (means ds s) ∙ ap (checked form.head stored) (alike ∙ sym g.2) in
            subst (λ (bytes : List ℕ). Builds p.format text ds (Ok bytes)) all (built law f p text ds e is s);
      }

  pub in_format : (f : Format) → p.format ≡ f → HasNoCopies f is.lines → (G : ℕ → List ℕ → Type 0) (rest : List ℕ)
      → IsOf G (form_in f p).start (form_in f p).segments (form_in f p).end rest
      → IsBuiltOf G text p (form_in f p) (checked (form_in f p).head (stored_in f) rest)
  in_format romfs e none G rest h =
      let m = is.lines in
      let hm : IsManifest m = (text, is.manifest) in
      let plan = planned_in romfs p text e is in
      let known = romfs_facts.plan_known fitting p (m, p.sizes, hm, is.count, is.planned) e in
      of_form romfs (in_romfs.form_of p) balance_of G rest e refl (romfs_laid.laid_out p known)
      (once (in_romfs.segment_of p.items) (romfs_of p.items) (drop 1 p.sections)
      (romfs_differ m p.sizes hm none p plan))
      (λ cs s. romfs_means.means fitting p m cs hm known
      (subst (λ (xs : List ℕ). IsPlanOf romfs m xs p) (sym s) plan)) h
  in_format (cramfs o) e none G rest h =
      let m = is.lines in
      let hm : IsManifest m = (text, is.manifest) in
      let plan = planned_in (cramfs o) p text e is in
      let known = cramfs_facts.plan_known fitting o p (m, p.sizes, hm, is.count, is.planned) e in
      of_form (cramfs o) (in_cramfs.form_of o p) crc_of G rest e refl (cramfs_laid.laid_out o p known)
      (once (in_cramfs.segment_of o p.items) (cramfs_of o p.items) (drop 1 p.sections)
      (cramfs_differ o m p.sizes p plan))
      (λ cs s. cramfs_means.means fitting o p m cs hm known
      (subst (λ (xs : List ℕ). IsPlanOf (cramfs o) m xs p) (sym s) plan)) h

  pub unknown : HasNoCopies p.format is.lines → (G : ℕ → List ℕ → Type 0) (rest : List ℕ)
      → IsOf G (form_in p.format p).start (form_in p.format p).segments (form_in p.format p).end rest
      → IsBuiltOfSome text p (checked (form_in p.format p).head (stored_in p.format) rest)
  unknown none G rest h = (in_format p.format refl none G rest h).built
