use Rattle.std.proofs.Common.{rules, ◌≡◌, ◌≤◌, ℕ, [], ◌++◌, ◌∙◌, subst, sym, ap, List, length, take, IsPermutation}
use Rattle.std.proofs.lemmas.List.{take_all}
use Rattle.std.proofs.lemmas.List.Sorted.{IsNonDecreasingBy-from_sort_by_key}
use Rattle.std.specs.List.{All, flat_map, AllByRecursion as Every}
use Rattle.std.specs.List.Sorted.{IsNonDecreasingBy}
use Rattle.record_forest.specs.declared.reference.Row.{Row}
use Rattle.record_forest.proofs.Sweeps.{blank}
use Rattle.record_forest.proofs.Lists.{every_join}
use Rattle.rom_fields.specs.declared.span.Extent.TheVariants.{Super}
use Rattle.rom_fields.specs.Extents.{added}
use Rattle.rom_fields.specs.declared.span.Span.{Span}
use Rattle.cramfs_format.specs.declared.order.Order.{Order}
use Rattle.cramfs_image.specs.declared.overlap.File.{File}
use Rattle.cramfs_image.specs.Files.{list_part, file_part, FileLies}
use Rattle.cramfs_image.specs.Merged.{expanded}
use Rattle.cramfs_image.proofs.Joined.{base_apart}
use Rattle.cramfs_image.proofs.Rows.{parts_more, rows_same, rows_least, all_lie}
use Rattle.cramfs_image.proofs.overlap.all_extents.Goals as goal

-- after the last row, all lists were added
lists_are : (o : Order) (b : List ℕ) (rows : List Row) (i : ℕ) (es : List Span) → length rows ≤ i
    → es ≡ added Super 0 76 ++ flat_map (list_part o b) (take i rows)
    → expanded es ≡ added Super 0 76 ++ flat_map (list_part o b) rows
lists_are o b rows i es l e = base_apart o b rows es
    (e ∙ ap (λ (v : List Row). added Super 0 76 ++ flat_map (list_part o b) v) (take_all i rows l))

-- and all files were noted
files_sorted : (o : Order) (b : List ℕ) (rows : List Row) (i : ℕ) (noted sorted lent : List File) → length rows ≤ i
    → noted ≡ [] ++ flat_map (file_part o b) (take i rows) → IsPermutation noted sorted → lent ≡ sorted
    → IsPermutation (flat_map (file_part o b) rows) lent
files_sorted o b rows i noted sorted lent l e p s =
    subst (IsPermutation (flat_map (file_part o b) rows)) (sym s)
    (subst (λ (v : List File). IsPermutation v sorted)
    (e ∙ ap (λ (v : List Row). flat_map (file_part o b) v) (take_all i rows l)) p)

pub rows-preserved : goal.rows-preserved
rows-preserved c = record {
  lists = parts_more (list_part c.args.b.now.order c.args.b.now.bytes.now)
      (added Super 0 76) c.args.rows.now c.rows.row-index blank c.rows.extents.items c.add_row.new.extents.items
      c.rows-test.true
      c.rows.invariant.lists c.in_ok-add_row.ensures.extents;
  files = parts_more (file_part c.args.b.now.order c.args.b.now.bytes.now)
      [] c.args.rows.now c.rows.row-index blank c.rows.files.items c.add_row.new.files.items c.rows-test.true
      c.rows.invariant.files c.in_ok-add_row.ensures.files;
  lie = subst (λ (v : List File). Every (FileLies c.args.b.now.order c.args.b.now.bytes.now) v)
      (sym c.in_ok-add_row.ensures.files)
      (every_join (FileLies c.args.b.now.order c.args.b.now.bytes.now) c.rows.files.items _ c.rows.invariant.lie
      c.in_ok-add_row.ensures.lie);
}

pub add_files-requires-clause-lie : goal.add_files-requires-clause-lie
add_files-requires-clause-lie c = subst (λ (v : List File). All (FileLies c.args.b.now.order c.args.b.now.bytes.now) v)
    (sym c.deref.ensures.value) (all_lie c.args.b.now.order c.args.b.now.bytes.now c.rows.files.items _
    c.sort_unstable_by_key.ensures.permutation c.rows.invariant.lie)

pub add_files-requires-clause-sorted : goal.add_files-requires-clause-sorted
add_files-requires-clause-sorted c =
    subst (λ (v : List File). IsNonDecreasingBy (λ (f : File). f.table) v) (sym c.deref.ensures.value)
    (IsNonDecreasingBy-from_sort_by_key (λ x. x.table) _ c.sort_unstable_by_key.ensures.sorted
    (λ a r q k. search rules))

pub returns-clause-same : goal.returns-clause-same
returns-clause-same c =
    rows_same c.args.b.now.order c.args.b.now.bytes.now c.args.rows.now c.deref.result.now
    (expanded c.rows.extents.items) (expanded c.add_files.new.extents.items)
    (lists_are c.args.b.now.order c.args.b.now.bytes.now c.args.rows.now
    c.rows.row-index c.rows.extents.items c.rows-test.false c.rows.invariant.lists)
    (files_sorted c.args.b.now.order c.args.b.now.bytes.now c.args.rows.now c.rows.row-index c.rows.files.items _
    c.deref.result.now c.rows-test.false c.rows.invariant.files c.sort_unstable_by_key.ensures.permutation
    c.deref.ensures.value) c.in_ok-add_files.ensures

pub returns-clause-overlaps : goal.returns-clause-overlaps
returns-clause-overlaps c =
    rows_least c.args.b.now.order c.args.b.now.bytes.now c.args.rows.now c.deref.result.now
    (expanded c.rows.extents.items) (expanded c.add_files.new.extents.items)
    (lists_are c.args.b.now.order c.args.b.now.bytes.now c.args.rows.now
    c.rows.row-index c.rows.extents.items c.rows-test.false c.rows.invariant.lists)
    (files_sorted c.args.b.now.order c.args.b.now.bytes.now c.args.rows.now c.rows.row-index c.rows.files.items _
    c.deref.result.now c.rows-test.false c.rows.invariant.files c.sort_unstable_by_key.ensures.permutation
    c.deref.ensures.value) c.in_ok-add_files.ensures
