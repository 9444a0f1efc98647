-- What the superblock of a streamed image states is true of the image.
use Rattle.std.proofs.Common.{◌≡◌, ℕ, List, [], refl, sym, subst, Ok}
use Rattle.manifest_tree.specs.Names.{Inode, Names}
use Rattle.manifest_tree.specs.Tree.{tree_of, root_of}
use Rattle.formats.specs.Format.{Format, romfs, cramfs}
use Rattle.manifest_layout.specs.Sealed.{HasSeal}
use Rattle.image_stream.specs.Segments.{checked}
use Rattle.manifest_layout.specs.Plans.{Planned}
use Rattle.manifest_layout.proofs.Sized.{Fitting}
use Rattle.romfs_layout.specs.Layout.{layout}
use Rattle.romfs_layout.specs.Planned as romfs_planned
use Rattle.romfs_layout.specs.Sealed.{IsSealed}
use Rattle.image_build.specs.Builds.{Builds}
use Rattle.image_build.specs.Streamed.{IsPlanOfText, form_in, stored_in, image_with}
use Rattle.image_build.proofs.Streams.{HoldsAll, planned_in}
use Rattle.image_build.proofs.Bodies.{IsOf}
use Rattle.image_build.proofs.Unknown.{in_format}
use Rattle.image_build.proofs.Owned.{own_file, own_names}
use Rattle.image_build.proofs.Each.{each_of_plan}
use Rattle.image_build.proofs.Whole.{SealsLayout, sealed}

abbrev pub RomfsSealed : Type 0
RomfsSealed =
    (volume : List ℕ) (root : Inode) (n : Names) (cs : List (List ℕ)) → romfs_planned.IsPlanned volume root n cs
    → IsSealed (layout volume root n cs)

module _ (fitting : Fitting) (law : HoldsAll) (alone : RomfsSealed) (seals : SealsLayout) (text : List ℕ) (p : Planned)
    (is : IsPlanOfText text p) where
  by_format : (f : Format) → p.format ≡ f → (G : ℕ → List ℕ → Type 0) → ((k : ℕ) → G k []) → (rest : List ℕ)
      → IsOf G (form_in f p).start (form_in f p).segments (form_in f p).end rest
      → HasSeal f (checked (form_in f p).head (stored_in f) rest)
  by_format romfs e G none rest h =
      let m = is.lines in
      let f = each_of_plan fitting p m (text, is.manifest) is.count (planned_in romfs p text e is) G none rest h in
      let root = own_file (root_of m.lines p.sizes) in
      let n = own_names (tree_of m.lines p.sizes) in
      subst IsSealed (sym f.is) (alone m.volume root n f.contents f.planned)
  by_format (cramfs o) e G none rest h =
      let bytes = checked (form_in (cramfs o) p).head (stored_in (cramfs o)) rest in
      let b = (in_format fitting law text p is (cramfs o) e tt G rest h).built in
      sealed seals (cramfs o) text b.contents bytes
      (subst (λ (g : Format). Builds g text b.contents (Ok bytes)) e b.built)

  pub sealed_by : (G : ℕ → List ℕ → Type 0) → ((k : ℕ) → G k []) → (rest : List ℕ)
      → IsOf G (form_in p.format p).start (form_in p.format p).segments (form_in p.format p).end rest
      → HasSeal p.format (image_with p rest)
  sealed_by G none rest h = by_format p.format refl G none rest h
