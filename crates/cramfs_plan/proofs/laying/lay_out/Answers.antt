use Rattle.std.proofs.Common.{◌≡◌, ◌||◌, ℕ, map, length, replicate, sym, ap, subst, ◌∙◌, arith}
use Rattle.std.specs.List.{AllByRecursion as Every, list_any}
use Rattle.std.proofs.lemmas.List.{length-map}
use Rattle.formats.specs.Format.{cramfs}
use Rattle.plan_rows.specs.Fits.{IsFit}
use Rattle.plan_rows.specs.Rows.{deepest, row_view, inode_view}
use Rattle.cramfs_layout.specs.Layout.{size_of}
use Rattle.cramfs_layout.specs.Items.{items_of}
use Rattle.cramfs_plan.specs.Wholes.{is_long_list, has_long_list}
use Rattle.cramfs_plan.proofs.Ordered.{items_rise}
use Rattle.cramfs_plan.proofs.Whole.{too_many, too_deep, too_long, long_lists, not_large, any_long, known, own_counted}
use Rattle.cramfs_plan.proofs.Whole.{all_rows, all_narrow, all_small, all_are, size_is, found_is}
use Rattle.cramfs_plan.proofs.laying.lay_out.Goals as goal
use Rattle.cramfs_plan.proofs.laying.lay_out.Goals.{then-rows-ge-MOST_ITEMS-via-then-rows-ge-MOST_ITEMS}
use Rattle.cramfs_plan.proofs.laying.lay_out.Goals.{then-rows-ge-MOST_ITEMS-via-else-rows-ge-MOST_ITEMS+then-deepest-gt-MOST_NAMES}

pub returns-then-rows-ge-MOST_ITEMS-clause-whole :
    goal.returns-then-rows-ge-MOST_ITEMS-clause-whole
returns-then-rows-ge-MOST_ITEMS-clause-whole c = λ n e.
    let i = inode_view c.args.root.now in
    elim c.then-rows-ge-MOST_ITEMS.branch [
      | then-rows-ge-MOST_ITEMS-via-then-rows-ge-MOST_ITEMS w ↦
          let k = w.if-rows-ge-MOST_ITEMS.true in
          let g = length-map c.args.rows.now row_view in
          let h = ap length e in
          too_many c.args.order i n (omega (arith, k, g, h))
      | then-rows-ge-MOST_ITEMS-via-else-rows-ge-MOST_ITEMS+then-deepest-gt-MOST_NAMES w ↦
          let k = w.if-deepest-gt-MOST_NAMES.true in
          let g = w.deepest.ensures in
          let h = ap deepest e in
          too_deep c.args.order i n (omega (arith, k, g, h))
    ]

pub list_lens-requires-clause-narrow : goal.list_lens-requires-clause-narrow
list_lens-requires-clause-narrow c =
    let k = c.if-deepest-gt-MOST_NAMES.false in
    let g = c.deepest.ensures in
    all_narrow c.args.order c.args.rows.now c.requires (omega (arith, k, g))

pub returns-then-has_long_list-clause-whole : goal.returns-then-has_long_list-clause-whole
returns-then-has_long_list-clause-whole c = λ n e.
    let k = c.if-deepest-gt-MOST_NAMES.false in
    let g = c.deepest.ensures in
    let t = known c.args.order (map row_view c.args.rows.now) n e (omega (arith, k, g)) in
    let root = c.in_ok-lens.ensures.root ∙ t.root in
    let own = c.in_ok-lens.ensures.own ∙ t.own in
    long_lists c.args.order (inode_view c.args.root.now) n
    (ap (λ l. is_long_list l || has_long_list n) (sym root)
    ∙ ap (λ b. is_long_list c.in_ok-lens.lens.root || b) (sym (any_long n) ∙ ap (list_any is_long_list) (sym own))
    ∙ sym c.has_long_list.ensures ∙ c.if-has_long_list.true)

pub place_rows-requires-clause-rows : goal.place_rows-requires-clause-rows
place_rows-requires-clause-rows c =
    let k = c.if-deepest-gt-MOST_NAMES.false in
    let g = c.deepest.ensures in
    all_rows c.args.order c.args.rows.now c.requires (omega (arith, k, g))

pub place_rows-requires-clause-many : goal.place_rows-requires-clause-many
place_rows-requires-clause-many c =
    ap length (c.deref.ensures.value ∙ c.in_ok-lens.ensures.own)
    ∙ own_counted (replicate {A = ℕ} 66 0) (map row_view c.args.rows.now) ∙ length-map c.args.rows.now row_view

pub returns-then-image_len-gt-MOST_BYTES-clause-whole :
    goal.returns-then-image_len-gt-MOST_BYTES-clause-whole
returns-then-image_len-gt-MOST_BYTES-clause-whole c = λ n e.
    let rs = map row_view c.args.rows.now in
    let k = c.if-deepest-gt-MOST_NAMES.false in
    let g = c.deepest.ensures in
    let t = known c.args.order rs n e (omega (arith, k, g)) in
    let root = c.in_ok-lens.ensures.root ∙ t.root in
    let own = c.deref.ensures.value ∙ c.in_ok-lens.ensures.own ∙ t.own in
    let size : c.pad-image_len.result ≡ size_of n =
    c.pad-image_len.ensures.value ∙ size_is c.args.order rs n c.in_ok-lens.lens.root _ c.deref.result.now t root own
    c.in_ok-entries.ensures.end in
    let l = c.if-image_len-gt-MOST_BYTES.true in
    too_long c.args.order (inode_view c.args.root.now) n (omega (arith, size, l))

pub returns-clause-whole : goal.returns-clause-whole
returns-clause-whole c = λ n e.
    let rs = map row_view c.args.rows.now in
    let k = c.if-deepest-gt-MOST_NAMES.false in
    let g = c.deepest.ensures in
    let t = known c.args.order rs n e (omega (arith, k, g)) in
    let root = c.in_ok-lens.ensures.root ∙ t.root in
    let lens = c.in_ok-lens.ensures.own ∙ t.own in
    let own = c.deref.ensures.value ∙ lens in
    let size : c.pad-image_len.result ≡ size_of n =
    c.pad-image_len.ensures.value ∙ size_is c.args.order rs n c.in_ok-lens.lens.root _ c.deref.result.now t root own
    c.in_ok-entries.ensures.end in
    let l = c.if-image_len-gt-MOST_BYTES.false in
    let many = c.if-rows-ge-MOST_ITEMS.false in
    let h = length-map c.args.rows.now row_view in
    let count = ap length e in
    let depth = ap deepest e in
    let short =
    ap (λ x. is_long_list x || has_long_list n) (sym root)
    ∙ ap (λ b. is_long_list c.in_ok-lens.lens.root || b) (sym (any_long n) ∙ ap (list_any is_long_list) (sym lens))
    ∙ sym c.has_long_list.ensures ∙ c.if-has_long_list.false in (
      not_large c.args.order (inode_view c.args.root.now) n (omega (arith, many, h, count))
          (omega (arith, k, g, depth)) short (omega (arith, l, size)),
      size,
    )

pub returns-clause-items : goal.returns-clause-items
returns-clause-items c = λ n volume contents e p.
    let rs = map row_view c.args.rows.now in
    let i = inode_view c.args.root.now in
    let k = c.if-deepest-gt-MOST_NAMES.false in
    let g = c.deepest.ensures in
    let t = known c.args.order rs n e (omega (arith, k, g)) in
    let root = c.in_ok-lens.ensures.root ∙ t.root in
    let own = c.deref.ensures.value ∙ c.in_ok-lens.ensures.own ∙ t.own in
    let found = found_is c.args.order rs n c.in_ok-lens.lens.root c.deref.result.now _ t root own
    c.in_ok-entries.ensures.entries in
    let fit = subst (λ qs. Every (IsFit (cramfs c.args.order)) qs) e c.requires in
    c.in_ok-items.ensures (items_of c.args.order i n) (items_rise c.args.order contents i n p.well)
    (all_small c.args.order volume i n contents p fit)
    (all_are c.args.order i n c.in_ok-lens.lens.root _ root found)
