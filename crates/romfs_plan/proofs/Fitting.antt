-- Rows of a manifest whose lines fit romfs.
use Rattle.std.proofs.Common.{◌<◌, ◌^◌, List, [], ◌∷◌, arith}
use Rattle.std.specs.List.{AllByRecursion as Every}
use Rattle.manifest_tree.specs.Tree.{What, a_leaf, a_link, a_directory}
use Rattle.formats.specs.Format.{romfs}
use Rattle.plan_rows.specs.Fits.{IsFit, FitsAs}
use Rattle.plan_rows.specs.Rows.{Row}
use Rattle.romfs_plan.specs.Rows.{IsFitRow, IsFitWhat}

pub fitting : (rs : List Row) → Every (IsFit romfs) rs → Every IsFitRow rs
fitting [] h = tt
fitting (r ∷ rs) h = ((h.0.short, what r.what h.0.fits), fitting rs h.1)
  where
    what : (w : What) → FitsAs romfs w → IsFitWhat w
    what (a_leaf i) h = let k : (2 ^ 28 < i.size → ⊥) = h.0 in omega (arith, k)
    what (a_link i) h = tt
    what (a_directory i) h = tt
