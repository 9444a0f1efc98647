-- If by the plan no program is out of place, none is found so.
use Rattle.std.proofs.Common.{◌≡◌, ℕ, ◌+◌, Bool, true, false, List, [], length, map, inl, inr, Option, Some}
use Rattle.std.proofs.Common.{None, refl, sym, ap, subst, ◌∙◌}
use Rattle.std.proofs.lemmas.Bool.Decides.{eqb_tells}
use Rattle.std.specs.Option.{option_map}
use Rattle.std.specs.Prelude.{IfSome}
use Rattle.record_forest.specs.Members.{Has}
use Rattle.rom_tree.specs.declared.types.Kind.TheVariants as kind
use Rattle.rom_tree.specs.Image.{contents_of}
use Rattle.rom_tree.specs.Tree.{Node, block, character, directory, fifo, is_regular, kind_of, node, places_of, regular}
use Rattle.rom_tree.specs.Tree.{row_from, socket, symlink}
use Rattle.formats.specs.Format.{Format}
use Rattle.image_check.specs.Any.{any_view}
use Rattle.image_check.specs.declared.any.AnyImage.{AnyImage}
use Rattle.manifest.specs.Lines.{ManifestLines}
use Rattle.manifest_layout.specs.Format.{sections_of}
use Rattle.manifest_tree.specs.Items.{Section, contents_of as source_bytes, section}
use Rattle.manifest_tree.specs.Names.{Inode, source}
use Rattle.manifest_tree.specs.Shape.{Value, file_value, node_under, node_value}
use Rattle.manifest_tree.specs.Tree.{file_named}
use Rattle.program_report.specs.Alike.{AreAlike, IsFoundAs}
use Rattle.program_report.specs.Found.{found_in, found_on, verdict_at}
use Rattle.program_report.specs.declared.finding.Found.{Found}
use Rattle.program_report.specs.declared.finding.Verdict.{Verdict}
use Rattle.program_report.specs.declared.finding.Verdict.TheVariants.{InPlace, Not}
use Rattle.program_report.specs.declared.question.Question.{Question}
use Rattle.headline.specs.Programs.{HasNoRefused, IsAskedAt, IsNotRefused, is_in_romfs}
use Rattle.headline.proofs.Contents.{named_sourced, same_bytes}
use Rattle.headline.proofs.Found.{FoundByBytes, IsKnown, file_bytes, no_places, path_found, places_as}
use Rattle.headline.proofs.Regular.{same_kind, value_at}

-- what is found, if anything is, is not out of place
abbrev pub IsFine : Option Found → Type 0
IsFine o = IfSome o (λ v. IsNotRefused v.verdict)

fine_verdict : (shared : Bool) (v w : Verdict) → AreAlike shared v w → IsNotRefused v → IsNotRefused w
fine_verdict shared (InPlace p) (InPlace q) h k = tt
fine_verdict shared (InPlace p) (Not r n) h k = absurd h
fine_verdict shared (Not r n) w h k = absurd k

fine_found : (shared : Bool) (v : Option Verdict) (start size : ℕ) (o : Option Found) → IsFoundAs shared v start size o
    → IfSome v IsNotRefused → IsFine o
fine_found shared None start size None h k = tt
fine_found shared None start size (Some r) h k = absurd h
fine_found shared (Some v) start size None h k = absurd h
fine_found shared (Some v) start size (Some r) h k = fine_verdict shared v r.verdict h.alike k

-- nothing is found of an empty file
empty_fine : (a : AnyImage) (q : Question) (x : Node) → is_regular x ≡ true → places_of x ≡ [] → IsFine (found_in a q x)
empty_fine a q x e none =
    rw e (subst (λ (ps : List ℕ). IsFine (found_on a q ps)) (sym none) tt)

regular_kind : (x : Node) → is_regular x ≡ true → kind_of x ≡ kind.Regular
regular_kind (node a (directory es)) e = absurd (cc)
regular_kind (node a (regular ps)) e = refl
regular_kind (node a (symlink ps)) e = absurd (cc)
regular_kind (node a block) e = absurd (cc)
regular_kind (node a character) e = absurd (cc)
regular_kind (node a socket) e = absurd (cc)
regular_kind (node a fifo) e = absurd (cc)

no_value : (v : Value) → Some v ≡ None → ⊥
no_value v e = cc

-- at each section with the contents of a source, the bytes of each file with this source are not out of place
abbrev pub HasNoneRefused : Format → ManifestLines → List ℕ → (Inode → Value) → ℕ → Type 0
HasNoneRefused f m sizes V base =
    (s : Section) (k : ℕ) → Has (λ z. z ≡ s) (sections_of f m sizes) → s.body ≡ source_bytes k
    → (path : List (List ℕ)) (i : Inode) → file_named m.lines sizes path ≡ Some i → i.fill ≡ source k
    → IfSome (verdict_at (is_in_romfs f) (base + s.place) (V i).bytes) IsNotRefused

pub path_fine : FoundByBytes → (f : Format) (m : ManifestLines) (sizes : List ℕ) (V : Inode → Value) (base : ℕ)
    (a : AnyImage) (q : Question) → IsKnown f m sizes V a → IsAskedAt base q → HasNoneRefused f m sizes V base
    → (path : List (List ℕ)) (x : Node) → node_under path (any_view a).tree ≡ Some x → IsFine (found_in a q x)
path_fine law f m sizes V base a q known asked none path x under = by (is_regular x) refl
  where
    -- the contents of a source
    of_source : (i : Inode) (k : ℕ) → is_regular x ≡ true → file_named m.lines sizes path ≡ Some i → i.fill ≡ source k
        → IsFine (found_in a q x)
    of_source i k e named fill =
        let b : List ℕ = (V i).bytes in
        let r = path_found law f m sizes V base a q known asked path x i k under named fill in
        elim (eqb_tells (length b) 0) [
          | inl y ↦ empty_fine a q x e (r.run ∙ ap (row_from r.start) y.1)
          | inr y ↦ fine_found _ _ r.start (length b) (found_in a q x) r.found
              (none (section r.start (length b) (source_bytes k)) k (r.planned y.1) refl path i named fill)
        ]

    of_file : (o : Option Inode) → file_named m.lines sizes path ≡ o → is_regular x ≡ true → IsFine (found_in a q x)
    of_file None named e =
        let image = (any_view a).bytes in
        absurd (no_value (node_value image x)
        (sym (ap (option_map (node_value image)) under) ∙ known.values path ∙ ap (option_map V) named))
    of_file (Some i) named e =
        let image = (any_view a).bytes in
        let value = value_at image (any_view a).tree V m sizes known.values path x i under named in
        let is : i.kind ≡ kind.Regular =
        sym (known.kinds i) ∙ sym (same_kind image x (V i) value) ∙ regular_kind x e in
        elim ((named_sourced m.lines sizes path i named).0 is) [
          | inl z ↦
              let same : contents_of image x ≡ [] = same_bytes image x (V i) value ∙ known.bare i z in
              empty_fine a q x e (no_places (places_of x) (places_as image x [] same))
          | inr s ↦ of_source i s.0 e named s.1
        ]

    by : (t : Bool) → is_regular x ≡ t → IsFine (found_in a q x)
    by false e = rw e tt
    by true e = of_file (file_named m.lines sizes path) refl e

-- of a built image
pub built_fine : (f : Format) (m : ManifestLines) (cs : List (List ℕ)) (base : ℕ) → HasNoRefused f m cs base
    → HasNoneRefused f m (map length cs) (file_value cs) base
built_fine f m cs base none s k has body path i named fill =
    subst (λ (b : List ℕ). IfSome (verdict_at (is_in_romfs f) (base + s.place) b) IsNotRefused)
    (sym (file_bytes cs i (source k) fill)) (none s k has body)
