-- The greatest depth of the rows of a tree is its height.
use Rattle.std.proofs.Common.{◌≡◌, ◌+◌, ℕ, max, List, [], ◌∷◌, ◌++◌, arith}
use Rattle.manifest_tree.specs.Names.{Names, nothing, leaf, link, subdirectory}
use Rattle.manifest_tree.specs.Files.{height}
use Rattle.plan_rows.specs.Rows.{Row, rows, deepest}

deepest-append : (rs qs : List Row) → deepest (rs ++ qs) ≡ max (deepest rs) (deepest qs)
deepest-append [] qs = omega arith
deepest-append (r ∷ rs) qs = let e = deepest-append rs qs in omega (arith, e)

deepened : (d : ℕ) (n : Names) → max d (deepest (rows (d + 1) n)) ≡ d + height n
deepened d nothing = omega arith
deepened d (leaf name i after) = let e = deepened d after in omega (arith, e)
deepened d (link name i after) = let e = deepened d after in omega (arith, e)
deepened d (subdirectory name i own after) =
    let e = deepened (d + 1) own in
    let f = deepened d after in
    let g = deepest-append (rows (d + 1 + 1) own) (rows (d + 1) after) in
    omega (arith, e, f, g)

-- the greatest depth is the height
pub deepest_is : (n : Names) → deepest (rows 1 n) ≡ height n
deepest_is n = let e = deepened 0 n in omega (arith, e)
