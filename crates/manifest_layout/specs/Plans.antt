-- `IsPlanOf`: the conditions on a plan of a manifest: it has the items and the sections of the
-- manifest's layout. `IsPlan`: it is the plan of some manifest that fits. (This project's own.)
use Rattle.std.specs.Prelude.{◌≡◌, ℕ, zero, suc, List, [], ◌∷◌, length, Option, Some, None}
use Rattle.manifest_tree.specs.Items.{Item, Section}
use Rattle.manifest.specs.Grammar.{IsManifest}
use Rattle.manifest.specs.Lines.{ManifestLines, sources_of}
use Rattle.formats.specs.Format.{Format}
use Rattle.manifest_layout.specs.Format.{items_of, sections_of, len_of}
use Rattle.manifest_layout.specs.Misfit.{HasNoMisfit}

-- the contents of a plan
pub record Planned : Type 0 where
  pub format : Format
  pub volume : List ℕ
  pub image_len : ℕ
  pub items : List Item
  pub sections : List Section
  -- the number of bytes that each source is to have
  pub sizes : List ℕ

-- the plan of a manifest that fits, if its sources have these sizes
pub record IsPlanOf (f : Format) (m : ManifestLines) (sizes : List ℕ) (p : Planned) : Type 0 where
  pub fits : HasNoMisfit f m sizes
  pub format : p.format ≡ f
  pub volume : p.volume ≡ m.volume
  pub image_len : p.image_len ≡ len_of f m sizes
  pub items : p.items ≡ items_of f m sizes
  pub sections : p.sections ≡ sections_of f m sizes
  pub of_sources : p.sizes ≡ sizes

-- the plan of some manifest
abbrev pub IsPlan : Planned → Type 0
IsPlan p =
    (m : ManifestLines) × (sizes : List ℕ) × IsManifest m
    × (length sizes ≡ length (sources_of m.lines))
    × IsPlanOf p.format m sizes p

-- the section at an index
abbrev pub section_at : List Section → ℕ → Option Section
section_at [] i = None
section_at (s ∷ ss) zero = Some s
section_at (s ∷ ss) (suc i) = section_at ss i
