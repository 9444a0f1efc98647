use Rattle.std.proofs.Common.{List, ap, refl, subst, sym}
use Rattle.std.proofs.lemmas.Cmp.{nat_list_cmp_total}
use Rattle.std.proofs.lemmas.Fn.{answers_by}
use Rattle.std.proofs.lemmas.List.Sorted.{ranks_by}
use Rattle.std.specs.Ordering.{is_lt}
use Rattle.std.specs.Borrow.{Bor}
use Rattle.rom_tree.specs.Image.{Image}
use Rattle.image_check.specs.Any.{any_view}
use Rattle.image_compare.specs.declared.directories.Directory.{Directory}
use Rattle.image_compare.specs.Directories.{AreWays}
use Rattle.image_compare.specs.Rows.{row_path}
use Rattle.image_compare.proofs.Sorting.{holds_sorted}
use Rattle.image_compare.proofs.rows.rows_of.Goals as goal

-- each comparison is by the same paths
pub returns-in-Ok-clause-ok : goal.returns-in-Ok-clause-ok
returns-in-Ok-clause-ok c =
    let m : Image = any_view c.args.image.now in
    let h = c.in_ok-directories.ensures.ok in
    let P : List Directory → Type 0 = λ v. AreWays v h.ways in
    let Q : Bor (List Directory) → Type 0 = λ v. AreWays v.now h.ways in
    holds_sorted m c.in_ok-directories.field-0 _ h refl c.in-Ok.ensures.permutation
    (c.in-Ok.ensures.sorted _ (ranks_by nat_list_cmp_total (row_path h.ways))
    (answers_by _ _ (λ f. AreWays f.0.now h.ways)
    (λ f a r k called i. (ap is_lt (called.met.1 h.ways i), subst Q (sym called.met.0) i))
    _ (subst P (sym c.as_slice-places.ensures.value) h.directories)))
