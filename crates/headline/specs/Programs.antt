-- `AreFound`: what `xip` finds of the files of a built image is what the contents of their sources
-- say at the places of the plan. `HasNoRefused`: by the plan no program is left out of place.
-- `AreFoundEach`, `HasNoRefusedEach`: the same of a romfs image in which each `file` and each
-- `same` line has contents of its own. (This project's own.)
use Rattle.std.specs.Prelude.{◌≡◌, ◌≢◌, ℕ, ◌+◌, ◌%◌, Bool, true, false, IfSome, List, [], ◌∷◌}
use Rattle.std.specs.Prelude.{get_or, length, map, reverse, Some}
use Rattle.record_forest.specs.Members.{Has}
use Rattle.rom_tree.specs.Tree.{Node, places_of, row_from}
use Rattle.formats.specs.Format.{Format, romfs, cramfs}
use Rattle.image_build.specs.Accepted.{usual}
use Rattle.image_check.specs.Any.{any_view, report_of}
use Rattle.image_check.specs.Checked.{HasFormat, Shows}
use Rattle.image_check.specs.declared.any.AnyImage.{AnyImage}
use Rattle.manifest.specs.declared.line.Line.{Line}
use Rattle.manifest.specs.Lines.{ManifestLines, filed}
use Rattle.manifest.specs.Paths.{names_of}
use Rattle.manifest_layout.specs.Format.{sections_of}
use Rattle.manifest_tree.specs.Items.{Section, contents_of, section}
use Rattle.manifest_tree.specs.Names.{Inode, source}
use Rattle.manifest_tree.specs.Shape.{node_under}
use Rattle.manifest_tree.specs.Tree.{file_named, sources_before}
use Rattle.program_pages.specs.Physmem.{shares_page}
use Rattle.program_report.specs.Alike.{IsFoundAs}
use Rattle.program_report.specs.Found.{found_in, verdict_at}
use Rattle.program_report.specs.declared.finding.Verdict.{Verdict}
use Rattle.program_report.specs.declared.finding.Verdict.TheVariants.{InPlace, Not}
use Rattle.program_report.specs.declared.question.Question.{Question}

abbrev pub is_in_romfs : Format → Bool
is_in_romfs romfs = true
is_in_romfs (cramfs o) = false

-- The image of this question is as far from the front of a page as `base`, which is 0 for an image
-- that begins with a page. The machine has an MMU.
pub record IsAskedAt (base : ℕ) (q : Question) : Type 0 where
  pub mmu : q.no_mmu ≡ false
  pub front : base % 4096 ≡ q.base % 4096

-- what a check of these bytes under the usual limits answers at success
pub record IsAccepted (bytes : List ℕ) (a : AnyImage) : Type 0 where
  pub shows : Shows bytes usual (any_view a) (report_of a)
  pub format : HasFormat bytes a

-- A file has the contents b of source k where a section of the plan has them, unless they are
-- empty. What is found of it is what these bytes say there, if the image begins at `base`, except
-- whether its last page is in place.
pub record IsFileFound (is_romfs : Bool) (ss : List Section) (base k : ℕ) (b : List ℕ)
    (a : AnyImage) (q : Question) (x : Node) : Type 0 where
  pub start : ℕ
  pub planned : length b ≢ 0 → Has (λ s. s ≡ section start (length b) (contents_of k)) ss
  pub run : places_of x ≡ row_from start (length b)
  pub found : IsFoundAs (shares_page (any_view a).bytes (start + length b) (length b))
      (verdict_at is_romfs (base + start) b) start (length b) (found_in a q x)

-- the same for the contents of source k of a manifest
abbrev pub IsFoundOf : Format → ManifestLines → List (List ℕ) → ℕ → ℕ → AnyImage → Question → Node
    → Type 0
IsFoundOf f m contents base k a q x =
    IsFileFound (is_in_romfs f) (sections_of f m (map length contents)) base k
    (get_or contents k []) a q x

-- A line l of the manifest leads to a regular file, as `file`, `same` and `hard` lines do, and g is
-- the `file` line whose contents that file has. Then this holds for the node at the path of l, and
-- for the source of g.
abbrev pub AreFound : Format → ManifestLines → List (List ℕ) → ℕ → AnyImage → Question → Type 0
AreFound f m contents base a q =
    (l g : Line) (n : List ℕ) (ns : List (List ℕ)) (x : Node) → Has (λ k. k ≡ l) m.lines
    → filed (reverse m.lines) l.path ≡ Some g → names_of l.path ≡ Some (n ∷ ns)
    → node_under (n ∷ ns) (any_view a).tree ≡ Some x
    → IsFoundOf f m contents base (sources_before g.number m.lines) a q x

-- the verdict is not that a program is out of place
abbrev pub IsNotRefused : Verdict → Type 0
IsNotRefused (InPlace p) = Unit {0}
IsNotRefused (Not reason pages) = ⊥

-- Each section with the contents of a source has such a verdict, if the image begins at `base`, or
-- these are no program.
abbrev pub HasNoRefused : Format → ManifestLines → List (List ℕ) → ℕ → Type 0
HasNoRefused f m contents base =
    (s : Section) (k : ℕ) → Has (λ z. z ≡ s) (sections_of f m (map length contents))
    → s.body ≡ contents_of k
    → IfSome (verdict_at (is_in_romfs f) (base + s.place) (get_or contents k [])) IsNotRefused

-- The same of a romfs image in which each `file` and each `same` line has contents of its own,
-- `given` of its number. A path leads to a file i with the contents of source k. Then this holds
-- for the node at the path, and for the contents of the line of i.
abbrev pub AreFoundEach : ManifestLines → List ℕ → (ℕ → List ℕ) → ℕ → AnyImage → Question → Type 0
AreFoundEach m sizes given base a q =
    (path : List (List ℕ)) (x : Node) (i : Inode) (k : ℕ)
    → node_under path (any_view a).tree ≡ Some x → file_named m.lines sizes path ≡ Some i
    → i.fill ≡ source k
    → IsFileFound true (sections_of romfs m sizes) base k (given i.line) a q x

-- At each section with the contents of a source, the contents of each line with this source have
-- such a verdict, or are no program.
abbrev pub HasNoRefusedEach : ManifestLines → List ℕ → (ℕ → List ℕ) → ℕ → Type 0
HasNoRefusedEach m sizes given base =
    (s : Section) (k : ℕ) → Has (λ z. z ≡ s) (sections_of romfs m sizes)
    → s.body ≡ contents_of k
    → (path : List (List ℕ)) (i : Inode) → file_named m.lines sizes path ≡ Some i
    → i.fill ≡ source k
    → IfSome (verdict_at true (base + s.place) (given i.line)) IsNotRefused
