-- What is known of a streamed romfs image, each of whose files has contents of its own.
use Rattle.std.proofs.Common.{◌≡◌, ℕ, ◌+◌, List, [], get_or, length, Option, Some, true, inl, refl, sym, ap, subst, ◌∙◌}
use Rattle.std.specs.Option.{option_map}
use Rattle.std.specs.Prelude.{IfSome}
use Rattle.rom_tree.specs.Tree.{Node}
use Rattle.formats.specs.Format.{romfs}
use Rattle.image_build.specs.Accepted.{usual}
use Rattle.image_build.specs.Each.{AreRead, IsMeantEach, IsReadIn, value_given}
use Rattle.image_build.specs.Streamed.{IsPlanOfText, form_in, image_with, stored_in}
use Rattle.image_build.proofs.Accepting.{RomfsHold, files_in_romfs, files_meant}
use Rattle.image_build.proofs.Bodies.{none_read, of_read}
use Rattle.image_build.proofs.Each.{IsOfFiles, source_section}
use Rattle.image_build.proofs.Meaning.{Leads, under_own}
use Rattle.image_build.proofs.Owned.{own_file, own_fill, own_names}
use Rattle.image_check.specs.Any.{any_view, report_of}
use Rattle.image_check.specs.Checked.{HasTree}
use Rattle.image_check.specs.declared.any.AnyImage.{AnyImage}
use Rattle.image_stream.specs.Answers.{Answer}
use Rattle.image_stream.specs.Outcomes.{IsWritten}
use Rattle.manifest.specs.Grammar.{IsManifest}
use Rattle.manifest.specs.Lines.{ManifestLines}
use Rattle.manifest_layout.specs.Format.{sections_of}
use Rattle.manifest_layout.specs.Plans.{Planned}
use Rattle.manifest_tree.specs.Names.{Inode, no_bytes, source}
use Rattle.manifest_tree.specs.Shape.{node_under, with_names}
use Rattle.manifest_tree.specs.Tree.{root_of, tree_of}
use Rattle.program_report.specs.Found.{verdict_at}
use Rattle.program_report.specs.declared.question.Question.{Question}
use Rattle.romfs_layout.proofs.Image.{tree_in}
use Rattle.romfs_layout.proofs.Shaped.{bytes_in}
use Rattle.headline.specs.Programs.{AreFoundEach, HasNoRefusedEach, IsAccepted, IsAskedAt, IsFileFound, IsNotRefused}
use Rattle.headline.proofs.Found.{FoundByBytes, IsKnown, path_found, same_format, shown_bytes, shown_tree}
use Rattle.headline.proofs.InRomfsPlan.{planned_in_romfs}
use Rattle.headline.proofs.Known.{FitsPlan}
use Rattle.headline.proofs.NotRefused.{HasNoneRefused}
use Rattle.headline.proofs.Planned.{AreAtSections, HasOneTree, one_in_romfs}
use Rattle.headline.proofs.Reached.{HavePaths, paths_in_romfs}

given_kind : (b : ℕ → List ℕ) (i : Inode) → (value_given b i).kind ≡ i.kind
unfolding value_given
given_kind b i = refl

-- the bytes of a file without bytes, and of one with the contents of a source
bare_bytes : (b : ℕ → List ℕ) (i : Inode) → i.fill ≡ no_bytes → (value_given b i).bytes ≡ []
unfolding value_given
bare_bytes b i e = rw e refl

line_bytes : (b : ℕ → List ℕ) (i : Inode) (k : ℕ) → i.fill ≡ source k → (value_given b i).bytes ≡ b i.line
unfolding value_given
line_bytes b i k e = rw e refl

module _ (one : HasOneTree) (leads : Leads) (G : ℕ → List ℕ → Type 0) (m : ManifestLines) (sizes bytes : List ℕ)
    (is : IsManifest m) (f : IsOfFiles G m.volume (root_of m.lines sizes) (tree_of m.lines sizes) bytes) (t : Node)
    (tree : HasTree bytes usual t) where
  -- the tree is that of the layout of files with sources of their own
  laid : let n = own_names (tree_of m.lines sizes) in
      t ≡ tree_in (bytes_in m.volume (own_file (root_of m.lines sizes)) n f.contents) m.volume n
  laid =
      let root = own_file (root_of m.lines sizes) in
      let n = own_names (tree_of m.lines sizes) in
      one_in_romfs one m.volume root n f.contents t f.planned (subst (λ (b : List ℕ). HasTree b usual t) f.is tree)

  each_at_section : AreAtSections romfs m sizes t
  each_at_section q x i k under named kind z fill =
      let root = root_of m.lines sizes in
      let n = tree_of m.lines sizes in
      let file = leads m sizes q is ∙ named in
      let s = planned_in_romfs m.volume (own_file root) (own_names n) f.contents f.planned q x (own_file i) i.line
      (subst (λ (v : Node). node_under q v ≡ Some x) laid under)
      (under_own q (with_names root n) ∙ ap (option_map own_file) file) kind z (ap (own_fill i.line) fill) in
      record {
        start = s.start;
        run = s.run;
        section = source_section G m.volume root n bytes f q i k s.start i.size file fill s.section;
      }

  each_path : HavePaths t
  each_path =
      let root = own_file (root_of m.lines sizes) in
      let n = own_names (tree_of m.lines sizes) in
      subst HavePaths (sym laid)
      (paths_in_romfs (bytes_in m.volume root n f.contents) m.volume n f.contents f.planned.well)

-- contents of each line, which reads answered, and what is known with these
pub record AreKnown (answers : List Answer) (m : ManifestLines) (sizes : List ℕ) (a : AnyImage) : Type 0 where
  pub given : ℕ → List ℕ
  pub read : AreRead answers given m sizes
  pub known : IsKnown romfs m sizes (value_given given) a

pub each_known : HasOneTree → FitsPlan → RomfsHold → Leads → (text : List ℕ) (p : Planned)
    (known : Option (List (List ℕ))) (old new : Option (List ℕ)) (a : AnyImage) (is : IsPlanOfText text p)
    → p.format ≡ romfs → (w : IsWritten known (form_in p.format p) (stored_in p.format) old new)
    → IsAccepted (image_with p w.rest) a → AreKnown w.answers is.lines p.sizes a
each_known one fits holds leads text p known old new a is e w ok =
    let m = is.lines in
    let bytes = image_with p w.rest in
    let G = IsReadIn w.answers in
    let t : Node = (any_view a).tree in
    let hm : IsManifest m = (text, is.manifest) in
    let f = files_in_romfs fits text p is G (none_read w.answers) p.format refl e w.rest
    (of_read w.answers _ _ _ w.rest w.read) in
    let x = files_meant G holds leads text p is bytes f in
    let b : ℕ → List ℕ = λ line. get_or f.contents line [] in
    let tree = shown_tree bytes (any_view a) (report_of a) ok.shows in
    let same = one bytes usual usual x.0 t (inl x.1) tree in
    let meant = subst (λ (v : Node). IsMeantEach bytes v b m p.sizes) same x.2 in
    record {
      given = b;
      read = x.3;
      known = record {
        manifest = hm;
        format = same_format romfs bytes x.0 a x.1 ok.format;
        kinds = given_kind b;
        bare = bare_bytes b;
        sized = λ q i k named fill.
            ap (λ (xs : List ℕ). length xs) (line_bytes b i k fill) ∙ meant.sized q i k named fill;
        values = (subst (λ (v : List ℕ). IsMeantEach v t b m p.sizes)
            (sym (shown_bytes bytes (any_view a) (report_of a) ok.shows)) meant).values;
        planned = each_at_section one leads G m p.sizes bytes hm f t tree;
        paths = each_path one leads G m p.sizes bytes hm f t tree;
      };
    }

pub each_found : FoundByBytes → (m : ManifestLines) (sizes : List ℕ) (b : ℕ → List ℕ) (base : ℕ) (a : AnyImage)
    (q : Question) → IsKnown romfs m sizes (value_given b) a → IsAskedAt base q → AreFoundEach m sizes b base a q
each_found law m sizes b base a q known asked path x i k under named fill =
    subst (λ (c : List ℕ). IsFileFound true (sections_of romfs m sizes) base k c a q x) (line_bytes b i k fill)
    (path_found law romfs m sizes (value_given b) base a q known asked path x i k under named fill)

pub each_fine : (m : ManifestLines) (sizes : List ℕ) (b : ℕ → List ℕ) (base : ℕ) → HasNoRefusedEach m sizes b base
    → HasNoneRefused romfs m sizes (value_given b) base
each_fine m sizes b base none s k has body path i named fill =
    subst (λ (c : List ℕ). IfSome (verdict_at true (base + s.place) c) IsNotRefused) (sym (line_bytes b i k fill))
    (none s k has body path i named fill)
