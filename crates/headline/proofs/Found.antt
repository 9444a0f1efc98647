-- What is found of the files of a built image.
use Rattle.std.proofs.Common.{◌≡◌, ◌≢◌, ℕ, ◌+◌, ◌-◌, ◌<◌, ◌≤◌, Bool, true, false, List, [], ◌∷◌}
use Rattle.std.proofs.Common.{length, map, Option, Some, inl, inr, refl, sym, ap, subst, ◌∙◌, arith}
use Rattle.std.proofs.lemmas.Bool.Decides.{eqb_tells}
use Rattle.std.proofs.lemmas.List.{length-map}
use Rattle.std.specs.Prelude.{slice_index}
use Rattle.record_forest.specs.Members.{Has}
use Rattle.rom_fields.specs.Words.{part_of}
use Rattle.rom_tree.specs.Image.{Image, contents_of}
use Rattle.rom_tree.specs.Tree.{Node, IsIn, is_regular, nodes, places_of, row_from}
use Rattle.rom_tree.specs.declared.types.Report.{Report}
use Rattle.rom_tree.proofs.Numbers.{length_row, row_at}
use Rattle.rom_tree.proofs.Rows.{row_bytes}
use Rattle.formats.specs.Format.{Format, romfs, cramfs}
use Rattle.cramfs_format.specs.Superblock.{order_of}
use Rattle.image_build.specs.Accepted.{usual}
use Rattle.image_check.specs.Any.{any_view}
use Rattle.image_check.specs.Checked.{HasFormat, HasTree, Shows}
use Rattle.image_check.specs.Checked as shown
use Rattle.image_check.specs.declared.any.AnyImage.{AnyImage}
use Rattle.image_check.specs.declared.any.AnyImage.TheVariants as any
use Rattle.image_check.proofs.Formats.{apart, romfs_begins}
use Rattle.manifest.specs.Grammar.{IsManifest}
use Rattle.manifest.specs.Lines.{ManifestLines}
use Rattle.manifest_layout.specs.Format.{HasUsualTree, sections_of}
use Rattle.manifest_tree.specs.Items.{Section, contents_of as source_bytes, section}
use Rattle.manifest_tree.specs.Names.{Fill, Inode, bytes_of, no_bytes, source}
use Rattle.manifest_tree.specs.Shape.{Value, file_value, node_under}
use Rattle.manifest_tree.specs.Tree.{file_named, inode_of, sources_before}
use Rattle.program_pages.specs.Physmem.{shares_page}
use Rattle.program_report.specs.Alike.{IsFoundAs}
use Rattle.program_report.specs.Found.{found_in, is_romfs, verdict_at}
use Rattle.program_report.specs.declared.finding.Verdict.{Verdict}
use Rattle.program_report.specs.declared.question.Question.{Question}
use Rattle.headline.specs.Programs.{AreFound, IsAskedAt, IsFileFound, is_in_romfs}
use Rattle.headline.proofs.Contents.{filled_by, named_sourced, same_bytes}
use Rattle.headline.proofs.Owned.{some}
use Rattle.headline.proofs.Planned.{AreAtSections}
use Rattle.headline.proofs.Reached.{HavePaths}
use Rattle.headline.proofs.Regular.{HasValues, by_kind, found, same_kind, value_at}
use Rattle.headline.proofs.Repeats.{verdict_repeats}
use Rattle.headline.proofs.Under.{in_under}

-- the image is of the format in which it was built
pub same_format : (f : Format) (bytes : List ℕ) (t : Node) (a : AnyImage) → HasUsualTree f bytes t → HasFormat bytes a
    → is_romfs a ≡ is_in_romfs f
same_format romfs bytes t (any.Romfs s) h k = refl
same_format romfs bytes t (any.Cramfs s) h k = absurd (apart (order_of bytes) bytes (romfs_begins h) k.0.1)
same_format (cramfs o) bytes t (any.Romfs s) h k = absurd (apart o bytes k h.super.begins)
same_format (cramfs o) bytes t (any.Cramfs s) h k = refl

-- the tree of a format is one
pub usual_tree : (f : Format) (bytes : List ℕ) (t : Node) → HasUsualTree f bytes t → HasTree bytes usual t
usual_tree romfs bytes t h = inl h
usual_tree (cramfs o) bytes t h = inr (o, h)

-- it has the tree of these bytes
pub shown_tree : (bytes : List ℕ) (m : Image) (r : Report) → Shows bytes usual m r → HasTree bytes usual m.tree
shown_tree bytes m r (shown.romfs s) = inl s.tree
shown_tree bytes m r (shown.cramfs s) = inr (order_of bytes, s.tree)

pub shown_bytes : (bytes : List ℕ) (m : Image) (r : Report) → Shows bytes usual m r → m.bytes ≡ bytes
shown_bytes bytes m r (shown.romfs s) = s.bytes
shown_bytes bytes m r (shown.cramfs s) = s.bytes

-- a run with bytes is within the image
inside : (m : Image) (x : Node) → IsIn x (nodes m.tree) → (start n : ℕ) → places_of x ≡ row_from start n → 0 < n
    → start + n ≤ length m.bytes
inside m x i start n run some =
    let len : length (places_of x) ≡ n = ap length run ∙ length_row start n in
    let last : slice_index (places_of x) (n - 1) ≡ start + (n - 1) =
    ap (λ (ps : List ℕ). slice_index ps (n - 1)) run ∙ row_at start n (n - 1) (omega arith) in
    let within = m.placed x i (n - 1) (omega arith) in
    omega arith

-- what the law below says
abbrev pub FoundByBytes : Type 0
FoundByBytes =
    (a : AnyImage) (q : Question) (x : Node) (start : ℕ) → q.no_mmu ≡ false → is_regular x ≡ true
    → places_of x ≡ row_from start (length (places_of x)) → start + length (places_of x) ≤ length (any_view a).bytes
    → IsFoundAs (shares_page (any_view a).bytes (start + length (places_of x)) (length (places_of x)))
    (verdict_at (is_romfs a) (q.base + start)
    (part_of (any_view a).bytes start (length (places_of x)))) start (length (places_of x)) (found_in a q x)

-- what is known of an accepted image, if each file of the manifest has the value that V says
pub record IsKnown (f : Format) (m : ManifestLines) (sizes : List ℕ) (V : Inode → Value) (a : AnyImage) : Type 0 where
  pub manifest : IsManifest m
  pub format : is_romfs a ≡ is_in_romfs f
  pub kinds : (i : Inode) → (V i).kind ≡ i.kind
  pub bare : (i : Inode) → i.fill ≡ no_bytes → (V i).bytes ≡ []
  pub sized : (path : List (List ℕ)) (i : Inode) (k : ℕ) → file_named m.lines sizes path ≡ Some i → i.fill ≡ source k
      → length (V i).bytes ≡ i.size
  pub values : HasValues (any_view a).bytes (any_view a).tree V m sizes
  pub planned : AreAtSections f m sizes (any_view a).tree
  pub paths : HavePaths (any_view a).tree

-- a file whose bytes are in one run
file_found : FoundByBytes → (r : Bool) (ss : List Section) (base k : ℕ) (b : List ℕ) (a : AnyImage) (q : Question)
    (x : Node) (start : ℕ) → IsAskedAt base q → is_regular x ≡ true → is_romfs a ≡ r
    → contents_of (any_view a).bytes x ≡ b
    → (length b ≢ 0 → Has (λ s. s ≡ section start (length b) (source_bytes k)) ss)
    → places_of x ≡ row_from start (length b) → start + length b ≤ length (any_view a).bytes
    → IsFileFound r ss base k b a q x
file_found law r ss base k b a q x start asked regular form same planned run room =
    let image : List ℕ = (any_view a).bytes in
    let n : ℕ = length b in
    let len : length (places_of x) ≡ n = ap length run ∙ length_row start n in
    let part : part_of image start n ≡ b =
    row_bytes image (places_of x) start n (sym len)
    (λ j l. ap (λ (ps : List ℕ). slice_index ps j) run ∙ row_at start n j l) room ∙ same in
    let whole = law a q x start asked.mmu regular (run ∙ ap (row_from start) (sym len)) (omega arith) in
    let long = subst (λ (j : ℕ). IsFoundAs (shares_page image (start + j) j)
    (verdict_at (is_romfs a) (q.base + start) (part_of image start j)) start j (found_in a q x)) len whole in
    let front = asked.front in
    let verdict : verdict_at (is_romfs a) (q.base + start) (part_of image start n) ≡ verdict_at r (base + start) b =
    ap (λ (v : Bool). verdict_at v (q.base + start) (part_of image start n)) form
    ∙ ap (verdict_at r (q.base + start)) part
    ∙ verdict_repeats r (q.base + start) (base + start) b (omega (arith, front)) in
    record {
      start = start;
      planned = planned;
      run = run;
      found = subst (λ (v : Option Verdict). IsFoundAs (shares_page image (start + n) n) v start n (found_in a q x))
          verdict long;
    }

pub no_places : (ps : List ℕ) → length ps ≡ 0 → ps ≡ []
no_places [] e = refl
no_places (p ∷ ps) e = absurd (omega (arith, e))

-- as many places as bytes
pub places_as : (image : List ℕ) (x : Node) (b : List ℕ) → contents_of image x ≡ b → length (places_of x) ≡ length b
places_as image x b same =
    sym (length-map (places_of x) (λ (p : ℕ). slice_index image p)) ∙ ap length same

-- the file at a path
pub path_found : FoundByBytes → (f : Format) (m : ManifestLines) (sizes : List ℕ) (V : Inode → Value) (base : ℕ)
    (a : AnyImage) (q : Question) → IsKnown f m sizes V a → IsAskedAt base q → (path : List (List ℕ)) (x : Node)
    (i : Inode) (k : ℕ) → node_under path (any_view a).tree ≡ Some x → file_named m.lines sizes path ≡ Some i
    → i.fill ≡ source k → IsFileFound (is_in_romfs f) (sections_of f m sizes) base k (V i).bytes a q x
path_found law f m sizes V base a q known asked path x i k under named fill =
    let v : Image = any_view a in
    let b : List ℕ = (V i).bytes in
    let ss = sections_of f m sizes in
    let kind = ((named_sourced m.lines sizes path i named).1 k fill).0 in
    let value = value_at v.bytes v.tree V m sizes known.values path x i under named in
    let regular = by_kind x (same_kind v.bytes x (V i) value ∙ known.kinds i ∙ kind) in
    let same = same_bytes v.bytes x (V i) value in
    let size = sym (known.sized path i k named fill) in
    elim (eqb_tells (length b) 0) [
      | inl y ↦
          let none : places_of x ≡ [] = no_places (places_of x) (places_as v.bytes x b same ∙ y.1) in
          file_found law (is_in_romfs f) ss base k b a q x 0 asked regular known.format same (λ z. absurd (z y.1))
          (none ∙ ap (row_from 0) (sym y.1)) (let z = y.1 in omega arith)
      | inr y ↦
          let s = known.planned path x i k under named kind (λ z. y.1 (sym size ∙ z)) fill in
          let run : places_of x ≡ row_from s.start (length b) = s.run ∙ ap (row_from s.start) size in
          file_found law (is_in_romfs f) ss base k b a q x s.start asked regular known.format same
          (λ z. subst (λ (n : ℕ). Has (λ y. y ≡ section s.start n (source_bytes k)) ss) size s.section) run
          (inside v x (in_under path v.tree x under) s.start (length b) run (some (length b) y.1))
    ]

-- the bytes of a file with the contents of a source
pub file_bytes : (cs : List (List ℕ)) (i : Inode) (f : Fill) → i.fill ≡ f → (file_value cs i).bytes ≡ bytes_of cs f
unfolding file_value
file_bytes cs i f e = ap (bytes_of cs) e

pub are_found : FoundByBytes → (f : Format) (m : ManifestLines) (cs : List (List ℕ)) (base : ℕ) (a : AnyImage)
    (q : Question) → IsKnown f m (map length cs) (file_value cs) a → IsAskedAt base q → AreFound f m cs base a q
are_found law f m cs base a q known asked l g n ns x has filed names under =
    let sizes = map length cs in
    let k : ℕ = sources_before g.number m.lines in
    let v = found m sizes l g n ns has filed names in
    let i : Inode = inode_of m.lines sizes v.line in
    let fill = filled_by m sizes known.manifest l g (n ∷ ns) filed v in
    subst (λ (b : List ℕ). IsFileFound (is_in_romfs f) (sections_of f m sizes) base k b a q x)
    (file_bytes cs i (source k) fill)
    (path_found law f m sizes (file_value cs) base a q known asked (n ∷ ns) x i k under v.is fill)
