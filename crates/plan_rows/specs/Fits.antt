-- `IsFit`: the facts of a row if no line of the manifest has a misfit in the format. (This
-- project's own.)
use Rattle.std.specs.Prelude.{◌<◌, ◌≤◌, length}
use Rattle.manifest_tree.specs.Tree.{What, a_leaf, a_link, a_directory}
use Rattle.formats.specs.Format.{Format}
use Rattle.manifest_layout.specs.Misfit.{IsLarge, IsLong, HasNoLinks}
use Rattle.plan_rows.specs.Rows.{Row}

abbrev pub FitsAs : Format → What → Type 0
FitsAs f (a_leaf i) = (IsLarge f i.size → ⊥) × (0 < i.align) × (i.align ≤ 65536)
FitsAs f (a_link i) = HasNoLinks f → ⊥
FitsAs f (a_directory i) = Unit {0}

pub record IsFit (f : Format) (r : Row) : Type 0 where
  pub short : length r.name < 256
  pub not_long : IsLong f (length r.name) → ⊥
  pub fits : FitsAs f r.what
