-- The files of a streamed image are at offsets for which the manifest asks, and the volume has its name.
use Rattle.std.proofs.Common.{◌≡◌, ℕ, ◌^◌, List, [], drop, refl, sym, ap, subst, ◌∙◌, inl, Ok}
use Rattle.std.specs.Option.{option_map}
use Rattle.rom_tree.specs.Tree.{Node}
use Rattle.manifest.specs.Lines.{ManifestLines}
use Rattle.manifest_tree.specs.Names.{Inode, Names}
use Rattle.manifest_tree.specs.Shape.{with_names}
use Rattle.manifest_tree.specs.Tree.{tree_of, root_of}
use Rattle.manifest_tree.specs.Placement.{AreInRuns}
use Rattle.formats.specs.Format.{Format, romfs, cramfs}
use Rattle.manifest_layout.specs.Format.{HasUsualTree}
use Rattle.manifest_layout.specs.Placement.{CopiesStand, HasVolume, IsPlaced}
use Rattle.manifest_layout.proofs.Placing.{files_apart, placed}
use Rattle.image_check.specs.Checked.{HasTree}
use Rattle.image_stream.specs.Segments.{checked}
use Rattle.manifest_layout.specs.Plans.{Planned}
use Rattle.manifest_layout.proofs.Sized.{Fitting}
use Rattle.romfs_format.specs.Record.{before_zero}
use Rattle.romfs_format.specs.Tree.{RomfsTree}
use Rattle.romfs_layout.specs.Disjoint.{FilesAreApart}
use Rattle.romfs_layout.specs.Layout.{layout}
use Rattle.romfs_layout.specs.Planned as romfs_planned
use Rattle.image_build.specs.Accepted.{usual}
use Rattle.image_build.specs.Builds.{Builds}
use Rattle.image_build.specs.Streamed.{IsPlanOfText, form_in, stored_in, image_with, IsBuiltOfSome}
use Rattle.image_build.proofs.Streams.{HoldsAll, planned_in}
use Rattle.image_build.proofs.Bodies.{IsOf}
use Rattle.image_build.proofs.Unknown.{in_format}
use Rattle.image_build.proofs.Owned.{own_file, own_names}
use Rattle.image_build.proofs.Each.{IsOfFiles, each_of_plan}
use Rattle.image_build.proofs.Meaning.{under_own}
use Rattle.image_build.proofs.Whole.{LaysCopies, LaysInPlace, NamesVolume, laid_copies, laid_placed, named}

abbrev pub RomfsRuns : Type 0
RomfsRuns = (volume : List ℕ) (root : Inode) (n : Names) (cs : List (List ℕ)) → romfs_planned.IsPlanned volume root n cs
    → (t : Node) × RomfsTree (layout volume root n cs) (2 ^ 20) 64 t × AreInRuns t root n

abbrev pub RomfsApart : Type 0
RomfsApart =
    (volume : List ℕ) (root : Inode) (n : Names) (cs : List (List ℕ)) → romfs_planned.IsPlanned volume root n cs
    → (t : Node) × RomfsTree (layout volume root n cs) (2 ^ 20) 64 t × FilesAreApart t root n

abbrev pub RomfsNamed : Type 0
RomfsNamed =
    (volume : List ℕ) (root : Inode) (n : Names) (cs : List (List ℕ)) → romfs_planned.IsPlanned volume root n cs
    → before_zero (drop 16 (layout volume root n cs)) ≡ volume

-- files with sources of their own are aligned as the others
runs_own : (t : Node) (root : Inode) (n : Names) → AreInRuns t (own_file root) (own_names n) → AreInRuns t root n
runs_own t root n h q x i a f = h q x (own_file i) a (under_own q (with_names root n) ∙ ap (option_map own_file) f)

-- and are made by the same lines
apart_own : (t : Node) (root : Inode) (n : Names) → FilesAreApart t (own_file root) (own_names n)
    → FilesAreApart t root n
apart_own t root n h q r x y i j a c e f differ =
    h q r x y (own_file i) (own_file j) a c (under_own q (with_names root n) ∙ ap (option_map own_file) e)
    (under_own r (with_names root n) ∙ ap (option_map own_file) f) differ

-- a tree in the format, with its files and copies at such offsets, and the name
pub record IsInPlace (f : Format) (bytes : List ℕ) (m : ManifestLines) : Type 0 where
  pub holds : (t : Node) × HasUsualTree f bytes t
  pub tree : (t : Node) × HasTree bytes usual t × IsPlaced t m
  pub copies : (t : Node) × HasTree bytes usual t × CopiesStand f t m
  pub volume : HasVolume f bytes m.volume

of_files : (G : ℕ → List ℕ → Type 0) → RomfsRuns → RomfsApart → RomfsNamed
    → (text : List ℕ) (p : Planned) (is : IsPlanOfText text p) (bytes : List ℕ)
    → IsOfFiles G is.lines.volume (root_of is.lines.lines p.sizes) (tree_of is.lines.lines p.sizes) bytes
    → IsInPlace romfs bytes is.lines
of_files G runs apart name text p is bytes f =
    let m = is.lines in
    let root = root_of m.lines p.sizes in
    let n = tree_of m.lines p.sizes in
    let x = runs m.volume (own_file root) (own_names n) f.contents f.planned in
    let y = apart m.volume (own_file root) (own_names n) f.contents f.planned in
    let holds = subst (λ (b : List ℕ). RomfsTree b (2 ^ 20) 64 x.0) (sym f.is) x.1 in
    let holds_too = subst (λ (b : List ℕ). RomfsTree b (2 ^ 20) 64 y.0) (sym f.is) y.1 in
    record {
      holds = (x.0, holds);
      tree = (x.0, inl holds, placed m p.sizes x.0 (text, is.manifest) (runs_own x.0 root n x.2));
      copies = (y.0, inl holds_too, files_apart m p.sizes y.0 (text, is.manifest) (apart_own y.0 root n y.2));
      volume = subst (λ (b : List ℕ). before_zero (drop 16 b) ≡ m.volume) (sym f.is)
          (name m.volume (own_file root) (own_names n) f.contents f.planned);
    }

of_sources : LaysInPlace → LaysCopies → NamesVolume
    → (f : Format) (text : List ℕ) (p : Planned) (is : IsPlanOfText text p) (bytes : List ℕ)
    → p.format ≡ f → IsBuiltOfSome text p bytes → IsInPlace f bytes is.lines
of_sources lays copies names f text p is bytes e b =
    let built : Builds f text b.contents (Ok bytes) =
    subst (λ (g : Format). Builds g text b.contents (Ok bytes)) e b.built in
    record {
      holds = (built.3.tree, built.3.holds);
      tree = laid_placed lays f text b.contents bytes built is.lines is.manifest;
      copies = laid_copies copies f text b.contents bytes built is.lines is.manifest;
      volume = named names f text b.contents bytes built is.lines is.manifest;
    }

module _ (fitting : Fitting) (law : HoldsAll) (runs : RomfsRuns) (apart : RomfsApart) (name : RomfsNamed)
    (lays : LaysInPlace)
    (copies : LaysCopies) (names : NamesVolume)
    (text : List ℕ) (p : Planned) (is : IsPlanOfText text p) where
  by_format : (f : Format) → p.format ≡ f → (G : ℕ → List ℕ → Type 0) → ((k : ℕ) → G k []) → (rest : List ℕ)
      → IsOf G (form_in f p).start (form_in f p).segments (form_in f p).end rest
      → IsInPlace f (checked (form_in f p).head (stored_in f) rest) is.lines
  by_format romfs e G none rest h =
      of_files G runs apart name text p is _
      (each_of_plan fitting p is.lines (text, is.manifest) is.count (planned_in romfs p text e is) G none rest h)
  by_format (cramfs o) e G none rest h =
      of_sources lays copies names (cramfs o) text p is _ e
      (in_format fitting law text p is (cramfs o) e tt G rest h).built

  pub in_place : (G : ℕ → List ℕ → Type 0) → ((k : ℕ) → G k []) → (rest : List ℕ)
      → IsOf G (form_in p.format p).start (form_in p.format p).segments (form_in p.format p).end rest
      → IsInPlace p.format (image_with p rest) is.lines
  in_place G none rest h = by_format p.format refl G none rest h
