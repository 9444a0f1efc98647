-- What was found of a directory, in the trees that its printed manifest means.
use Rattle.std.proofs.Common.{◌≡◌, ℕ, List, [], Option, None, Some, sym, ap, subst, ◌∙◌}
use Rattle.std.specs.Prelude.{IsSomeAnd, Ok}
use Rattle.std.specs.List.{Contains}
use Rattle.formats.specs.declared.format.Format.{Format}
use Rattle.rom_tree.specs.Tree.{Node}
use Rattle.rom_tree.specs.declared.types.Kind.TheVariants as node_kind
use Rattle.manifest.specs.Grammar.{manifest_of}
use Rattle.manifest.specs.Lines.{ManifestLines, sources_of}
use Rattle.manifest.specs.Paths.{names_of}
use Rattle.manifest.specs.Printed.{AreTaken, as_read, first_number, manifest_text}
use Rattle.manifest_tree.specs.Meant.{IsMeant}
use Rattle.manifest_tree.specs.Shape.{node_under}
use Rattle.build_commands.specs.Contents.{HasItsContents}
use Rattle.build_commands.specs.Inventory.{lines_found, path_of}
use Rattle.build_commands.specs.Reported.{AreReportedAlike, Report, fitted_report, kind_named, node_report, report_of}
use Rattle.build_commands.specs.declared.inventory.NamedFile.{NamedFile}
use Rattle.build_commands.proofs.Contained.{contained}
use Rattle.build_commands.proofs.Reached.{reported}

both : (o : Option Node) (P Q : Node → Type 0) (R : Type 0) → IsSomeAnd o P → (R → IsSomeAnd o Q)
    → IsSomeAnd o (λ x. P x × (R → Q x))
both None P Q R p q = absurd p
both (Some x) P Q R p q = (p, q)

module _ (format : Option Format) (found : List NamedFile) (volume image : List ℕ) (t : Node)
    (contents : List (List ℕ)) (m : ManifestLines) (sizes : List ℕ)
    (taken : AreTaken [] (first_number volume) (lines_found format found)) (alike : AreReportedAlike found) where
  abbrev IsFound : ManifestLines → Type 0
  IsFound m = (f : NamedFile) (q : List (List ℕ)) → Contains found f → names_of (path_of f) ≡ Some q
      → IsSomeAnd (node_under q t) (λ x. (node_report image x ≡ fitted_report format (report_of f))
      × (kind_named f.kind ≡ node_kind.Regular → HasItsContents image found (sources_of m.lines) contents f x))

  as_found : IsMeant image t contents (as_read volume (lines_found format found)) sizes
      → IsFound (as_read volume (lines_found format found))
  as_found meant f q c e =
      both (node_under q t) _ _ _ (reported format found volume image t contents sizes taken meant alike f q c e)
      (λ r. contained format found volume image t contents sizes taken meant
      (λ f g cf cg o. ap (λ (r : Report). r.kind) (alike f g cf cg o)) f q c r e)

  pub found_again : manifest_of (manifest_text volume (lines_found format found))
      ≡ Ok (as_read volume (lines_found format found))
      → manifest_of (manifest_text volume (lines_found format found)) ≡ Ok m → IsMeant image t contents m sizes
      → IsFound m
  found_again printed text =
      let e : as_read volume (lines_found format found) ≡ m =
      (let e = sym printed ∙ text in cc) in
      subst (λ (m : ManifestLines). IsMeant image t contents m sizes → IsFound m) e as_found
